use Rattle.std.proofs.Common.{◌%◌, ◌<◌, ◌≤◌, ℕ, ap, sym, subst, ◌∙◌}
use Rattle.plp_config.specs.declared.config.Config.{Config}
use Rattle.open_group.proofs.PastLemmas.{none_lacks, first_lacks}
use Rattle.open_group.proofs.past.HeldPast.fault.Goals as goal

pub returns-then-is_some : goal.returns-then-is_some
returns-then-is_some c = λ past h above.
    let frames = c.from-frames.ensures ∙ ap (λ (k : Config). k.frames) c.config.ensures.value in
    first_lacks c.interleaving_law.ensures.inside c.args.plan.now c.rules_law.ensures.plan.rules past c.args.number
    c.loop-place.place c.fault_at-fault.result
    (subst (λ (k : ℕ). c.loop-place.place < c.args.number % k) frames c.loop-place-test.true)
    (λ k l. c.loop-place.invariant past h above k l) (c.fault_at-fault.ensures past h above)
    (sym c.is_some.ensures ∙ c.if-is_some.true)

pub returns : goal.returns
returns c = λ past h above.
    let frames = c.from-frames.ensures ∙ ap (λ (k : Config). k.frames) c.config.ensures.value in
    sym (none_lacks c.interleaving_law.ensures.inside c.args.plan.now c.rules_law.ensures.plan.rules past c.args.number
    c.loop-place.place (subst (λ (k : ℕ). c.args.number % k ≤ c.loop-place.place) frames c.loop-place-test.false)
    (λ k l. c.loop-place.invariant past h above k l))
