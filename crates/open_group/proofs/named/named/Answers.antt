use Rattle.std.proofs.Common.{sym, ◌∙◌}
use Rattle.std.proofs.lemmas.Bool.{both_ways}
use Rattle.open_group.proofs.NamedLemmas.{is_named, no_stamp, no_frame, no_key}
use Rattle.open_group.proofs.named.named.Goals as goal

pub returns-in_default-clause-value : goal.returns-in_default-clause-value
returns-in_default-clause-value c = λ g key first. no_stamp c.named_law.ensures c.args.plan.now
    c.rules_law.ensures.plan.rules g
    (sym c.in_default.is ∙ first)

pub returns-in_default-frame_at-clause-value : goal.returns-in_default-frame_at-clause-value
returns-in_default-frame_at-clause-value c = λ g key first.
    no_frame c.named_law.ensures c.args.plan.now c.rules_law.ensures.plan.rules g c.in-Some.stamp
    (sym c.in-Some.is ∙ first) c.in_default-frame_at.ensures.none

pub returns-then-not-has_key-clause-value : goal.returns-then-not-has_key-clause-value
returns-then-not-has_key-clause-value c = λ g key first.
    no_key c.named_law.ensures c.args.plan.now c.rules_law.ensures.plan.rules g c.emission_law.ensures.differ
    c.in-Some.stamp
    c.in-Some-frame_at.number (sym c.in-Some.is ∙ first) c.in-Some-frame_at.ensures.some.1
    (λ e. both_ways c.has_key.result c.if-not-has_key.true (c.has_key.ensures.1 (e ∙ key)))

pub returns-clause-value : goal.returns-clause-value
returns-clause-value c = λ g key first.
    is_named c.named_law.ensures c.args.plan.now c.rules_law.ensures.plan.rules g c.in-Some-frame_at.number
    c.in-Some.stamp
    (sym first ∙ c.in-Some.is) c.in-Some-frame_at.ensures.some.0 c.in-Some-frame_at.ensures.some.1
    (c.has_key.ensures.0 c.if-not-has_key.false ∙ sym key)
