use Rattle.std.proofs.Common.{◌≡◌, ◌++◌, ◌∷◌, [], ℕ, true, Some, ap, ap₂, sym, subst, ◌∙◌}
use Rattle.open_group.specs.Holds.{Holds}
use Rattle.open_group.specs.declared.group.PooledGroup.{PooledGroup}
use Rattle.frame_weave.specs.Made.{HoldsMade}
use Rattle.plp_config.specs.declared.config.Config.{Config}
use Rattle.frame_weave.specs.Slots.{HoldsPlaced}
use Rattle.frame_weave.specs.Weaves.{State, Signalled, TakesFirst, state_of}
use Rattle.frame_weave.specs.Woven.{signalling, stamp_bodies}
use Rattle.frame_weave.specs.declared.slots.Slots.{Slots}
use Rattle.open_group.specs.Signals.{signals}
use Rattle.frame_weave.proofs.WeaveLemmas.{signals_more, none_placed, compared, taken_first}
use Rattle.frame_weave.proofs.weaver.Weaver.look.Goals as goal

pub returns-then-self-clause-weaves : goal.returns-then-self-clause-weaves
returns-then-self-clause-weaves c = λ past h n looked held w.
    let old = c.args.self.now in
    let new = c.compare.new.self in
    let network = old.plan.now in
    let before = signalling network n looked in
    let is = c.group.ensures in
    let told = c.signals.ensures past h (ap (λ (g : PooledGroup). g.intact) is ∙ c.requires.intact)
    (subst (λ (g : PooledGroup). Holds g past (Some h)) (sym is) held.group) in
    let signal : signals network n h.packets ≡ true =
    ap₂ (λ (k : Config) (m : ℕ). signals k m h.packets) (sym (ap (λ (g : PooledGroup). g.network) is
    ∙ c.requires.network))
    (sym w.number) ∙ sym told ∙ c.if-not-signals.false in
    let more = signals_more network n looked h signal in
    let plan = c.compare.ensures.same.0 in
    record {
      number = c.compare.ensures.same.1 ∙ w.number;
      first = subst (λ (k : Config). TakesFirst k (state_of new) n (signalling k n (looked ++ h ∷ []))) (sym plan)
          (subst (TakesFirst network (state_of new) n) (sym more)
          (compared network n (state_of old) (state_of new) before h c.if-self.true c.compare.ensures.rest
          (λ t x y made own other. c.compare.ensures.agree past t h x y
          (ap (λ (g : PooledGroup). g.intact) c.group-then-self.ensures ∙ c.requires.intact) made
          (subst (λ (g : PooledGroup). Holds g past (Some h)) (sym c.group-then-self.ensures) held.group) own other)
          signal w.first));
      blocks = subst (HoldsPlaced new.slots)
          (sym (none_placed new.plan.now n (signalling new.plan.now n (looked ++ h ∷ []))))
          (subst (λ (s : Slots). HoldsPlaced s []) (sym (ap (λ (s : State). s.slots) c.compare.ensures.rest))
          (subst (HoldsPlaced old.slots) (none_placed network n before) w.blocks));
    }

pub returns-clause-weaves : goal.returns-clause-weaves
returns-clause-weaves c = λ past h n looked held w.
    let old = c.args.self.now in
    let new = c.take.new.self in
    let network = old.plan.now in
    let before = signalling network n looked in
    let is = c.group.ensures in
    let told = c.signals.ensures past h (ap (λ (g : PooledGroup). g.intact) is ∙ c.requires.intact)
    (subst (λ (g : PooledGroup). Holds g past (Some h)) (sym is) held.group) in
    let signal : signals network n h.packets ≡ true =
    ap₂ (λ (k : Config) (m : ℕ). signals k m h.packets) (sym (ap (λ (g : PooledGroup). g.network) is
    ∙ c.requires.network))
    (sym w.number) ∙ sym told ∙ c.if-not-signals.false in
    let more = signals_more network n looked h signal in
    let plan = c.take.ensures.same.0 in
    record {
      number = c.take.ensures.same.1 ∙ w.number;
      first = subst (λ (k : Config). TakesFirst k (state_of new) n (signalling k n (looked ++ h ∷ []))) (sym plan)
          (subst (TakesFirst network (state_of new) n) (sym more)
          (taken_first network n (state_of old) (state_of new) before h c.if-self.false c.take.ensures.rest.0
          c.take.ensures.rest.1
          (subst (λ (m : ℕ). signals network m h.packets ≡ true → HoldsMade network m old.made (stamp_bodies network m)
          → Signalled network (state_of new) m h) w.number (c.take.ensures.takes past h held) signal)
          w.blocks (old.slots.opened ∙ old.places) (old.slots.lists ∙ old.places) w.first));
      blocks = subst (HoldsPlaced new.slots)
          (sym (none_placed new.plan.now n (signalling new.plan.now n (looked ++ h ∷ []))))
          (subst (λ (s : Slots). HoldsPlaced s []) (sym c.take.ensures.rest.1)
          (subst (HoldsPlaced old.slots) (none_placed network n before) w.blocks));
    }
