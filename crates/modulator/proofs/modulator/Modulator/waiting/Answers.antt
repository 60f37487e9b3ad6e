use Rattle.std.proofs.Common.{◌≡◌, ◌∙◌, true, false, ap, sym}
use Rattle.std.specs.Prelude.{is_some}
use Rattle.modulator.specs.Modulating.{has_record}
use Rattle.modulator.specs.StandsFor.{ModulatorStandsFor}
use Rattle.modulator.proofs.BeginLemmas.{waits_for}
use Rattle.modulator.proofs.StandsLemmas.{some_from, none_from, some_at, none_is}
use Rattle.modulator.proofs.TookLemmas.{now, waits_as, all_taken}
use Rattle.modulator.proofs.modulator.Modulator.waiting.Goals as goal

pub returns-clause-some : goal.returns-clause-some
unfolding ModulatorStandsFor
returns-clause-some c = some_from c.waiting.result _ (λ w e.
    let m = c.args.self.now.inner in
    let i = sym c.waiting.ensures.is ∙ e in
    let waiting : has_record m ≡ true = ap is_some i in (
      waiting,
      (waits_for m.sequence.progress w i).frame,
      λ bytes taken h.
          let n = now m bytes taken h waiting in
          waits_as m bytes taken h w i n.group n.has (c.args.self.now.some waiting)
          (some_at c.waiting.result w _ c.waiting.ensures.some e bytes h.given n.group h.stands n.has),
    ))

pub returns-clause-none : goal.returns-clause-none
unfolding ModulatorStandsFor
returns-clause-none c = none_from c.waiting.result _ (λ e.
    let m = c.args.self.now.inner in
    let w : has_record m ≡ false = ap is_some (sym c.waiting.ensures.is ∙ e) in (
      w,
      λ bytes taken h.
          all_taken m m.finished bytes bytes taken h w
          (none_is c.waiting.result _ c.waiting.ensures.none e bytes h.given h.stands),
    ))
