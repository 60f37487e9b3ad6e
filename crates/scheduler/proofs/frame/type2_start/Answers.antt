use Rattle.std.proofs.Common.{◌≡◌, ◌≢◌, ◌∙◌}
use Rattle.scheduler.proofs.ShapeLemmas.{type2_start-single, type2_start-several}
use Rattle.scheduler.proofs.frame.type2_start.Goals as goal

pub returns-then-config-eq1 : goal.returns-then-config-eq1
returns-then-config-eq1 c =
    let one : c.args.plan.now.sub_slices ≡ 1 = rw c.config.ensures.value at c.if-config-eq1.true in
    type2_start-single c.args.plan.now c.args.counts.now c.config.ensures.plan one

pub returns-else-config-eq1 : goal.returns-else-config-eq1
returns-else-config-eq1 c =
    let many : c.args.plan.now.sub_slices ≢ 1 = rw c.config.ensures.value at c.if-config-eq1.false in
    c.requires.type1 ∙ type2_start-several c.args.plan.now c.args.counts.now c.config.ensures.plan many
