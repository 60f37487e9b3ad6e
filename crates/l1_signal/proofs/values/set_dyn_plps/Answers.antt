use Rattle.std.proofs.Common.{length, arith}
use Rattle.std.proofs.lemmas.List.FromFn.{fill_by_all}
use Rattle.l1_signal.specs.L1Dynamic.{no_dyn_plp}
use Rattle.l1_signal.specs.L1Of.{dyn_plp_of}
use Rattle.l1_signal.proofs.values.set_dyn_plps.Goals as goal

pub returns-clause-value : goal.returns-clause-value
returns-clause-value c =
    fill_by_all (dyn_plp_of c.args.plan.now c.args.shape.now) c.loop-place.plps (length c.args.plan.now.plps) no_dyn_plp
    c.loop-place.invariant.len
    (λ k lt. c.loop-place.invariant.set k (omega (arith, lt, c.requires.plan, c.len-place-end.ensures)))
