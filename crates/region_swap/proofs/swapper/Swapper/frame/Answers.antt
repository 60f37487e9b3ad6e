use Rattle.std.proofs.Common.{ℕ, List, [], length, refl, ap, sym, subst, ◌∙◌, arith}
use Rattle.std.proofs.Math.Bridge.{le_prop}
use Rattle.std.proofs.Math.Logic.{∥∥₁_elim}
use Rattle.std.specs.Prelude.{slice_set}
use mathlib.Core.Bool.{Bool-set}
use Rattle.plp_config.specs.declared.config.Config.{Config}
use Rattle.stream_laws.specs.Remade.{NumberedView}
use Rattle.region_swap.specs.Held.{IsHeld, HasRecord}
use Rattle.region_swap.specs.Left.{left_by, own_list}
use Rattle.region_swap.specs.StandsFor.{SwapperStandsFor}
use Rattle.region_swap.specs.declared.place.SwapPlace.{SwapPlace}
use Rattle.region_swap.proofs.LeftLemmas.{can_build}
use Rattle.region_swap.proofs.SwapLemmas.{swaps_begin, begin_made}
use Rattle.region_swap.proofs.swapper.Swapper.frame.Goals as goal

pub write-requires-clause-tells : goal.write-requires-clause-tells
write-requires-clause-tells c =
    let s = c.args.self.now in
    let told = λ (h : HasRecord s.plan.now s.number c.args.frame.now).
    c.told_law.ensures s.plan.now s.number h.view c.args.frame.now c.rules_law.ensures.plan h.held in
    record {
      reads = ∥∥₁_elim c.requires.held (Bool-set _ _) (λ h. (told h).reads);
      few = λ plp lt. ∥∥₁_elim c.requires.held le_prop (λ h. (told h).few plp lt);
    }

pub begin-requires-clause-of : goal.begin-requires-clause-of
begin-requires-clause-of c =
    let s = c.args.self.now in
    let of = c.advance.ensures.of in
    let place = c.new-source.ensures.place in
    let number = ap (λ (p : SwapPlace). p.number) place ∙ c.first.ensures.number in
    let plp = ap (λ (p : SwapPlace). p.plp) place ∙ c.first.ensures.plp in
    let early = s.parts.early in
    can_build s.plan.now c.new-source.result _ (omega (arith, number, early)) (omega (arith, plp)) c.requires.can
    c.write.new.self.short of.place of.lists of.short c.new-source.ensures.walks

pub returns-clause-stands : goal.returns-clause-stands
unfolding SwapperStandsFor
returns-clause-stands c = λ config plp t frames given view held h.
    let s = c.args.self.now in
    let p = s.plan.now in
    let f = c.args.frame.now in
    let q = c.advance.new.self in
    let bits = c.write.new.self.bits in
    let place = c.new-source.ensures.place in
    let lists : List (List (List ℕ)) = slice_set f.blocks.now.lists s.list (own_list q.sends q.blocks s.list) in
    let fr : NumberedView = record { number = s.number; view = view } in
    let own = subst (λ (k : Config). IsHeld k s.number view f) (sym h.0) held in (
      h.0,
      h.1,
      swaps_begin p s.list s.region q s.flow c.begin.new.self s.place c.begin.new.source.place s.number
          c.new-source.result.place.number
          s.begun t frames fr given (left_by p c.new-source.result.place f.pre f.conf bits lists)
          (left_by p c.begin.new.source.place f.pre f.conf bits lists) refl c.requires.free c.requires.wanted
          c.advance.ensures.stands
          (λ input more.
          ap (λ (pl : SwapPlace). left_by p pl f.pre f.conf bits lists) place
          ∙ c.first.ensures.left f.pre f.conf bits lists
          ∙ begin_made c.swapped_law.ensures p s.list s.region q bits s.flow s.place s.number s.begun
          t [] frames given view f input
          c.rules_law.ensures.plan s.parts.region_is.place c.requires.free own c.advance.ensures.gives
          c.write.ensures.made h.2 more)
          (ap (λ (pl : SwapPlace). pl.number) place ∙ c.first.ensures.number) c.begin.ensures.number
          c.begin.ensures.feeds.flows h.2,
    )

pub returns-clause-more : goal.returns-clause-more
unfolding SwapperStandsFor
returns-clause-more c = λ config plp t frames given view held h input more.
    let s = c.args.self.now in
    let p = s.plan.now in
    let f = c.args.frame.now in
    let q = c.advance.new.self in
    let bits = c.write.new.self.bits in
    let place = c.new-source.ensures.place in
    let lists : List (List (List ℕ)) = slice_set f.blocks.now.lists s.list (own_list q.sends q.blocks s.list) in
    let own = subst (λ (k : Config). IsHeld k s.number view f) (sym h.0) held in
    let made = ap (λ (pl : SwapPlace). left_by p pl f.pre f.conf bits lists) place
    ∙ c.first.ensures.left f.pre f.conf bits lists
    ∙ begin_made c.swapped_law.ensures p s.list s.region q bits s.flow s.place s.number s.begun t []
    frames given view f input
    c.rules_law.ensures.plan s.parts.region_is.place c.requires.free own c.advance.ensures.gives c.write.ensures.made
    h.2 more in
    let bound = c.begin.ensures.feeds.bound in
    let bodies = ap length made in
    rw (sym h.0, sym h.1) (omega (arith, bound, bodies))
