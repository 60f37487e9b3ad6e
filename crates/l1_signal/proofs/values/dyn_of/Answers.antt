use Rattle.std.proofs.Common.{ℕ, ◌%◌, ◌<◌, ◌^◌, subst}
use Rattle.l1_signal.specs.L1Of.{dyn_of}
use Rattle.l1_signal.proofs.ValueLemmas.{dyn_numbers_fit}
use Rattle.l1_signal.proofs.values.dyn_of.Goals as goal

pub returns-clause-fits : goal.returns-clause-fits
unfolding dyn_of
returns-clause-fits c = λ shape.
    let idx : c.args.frame % c.args.plan.now.frames < 2 ^ 8 =
    subst (λ (n : ℕ). n < 2 ^ 8) c.frame_idx-out.ensures c.frame_idx-out.type_inv in
    rw (c.frame_idx-out.ensures, c.interval-out.ensures, c.type2_start-out.ensures, c.set_dyn_plps.ensures.value)
    (dyn_numbers_fit c.args.plan.now c.args.frame c.args.shape.now c.set_dyn_plps.ensures.ids idx shape)
