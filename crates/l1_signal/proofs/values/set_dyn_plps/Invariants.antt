use Rattle.std.proofs.Common.{◌≡◌, ℕ, ◌<◌, ◌^◌, length, get_or}
use Rattle.plp_config.specs.Plps.{plp_at}
use Rattle.l1_signal.specs.L1Dynamic.{no_dyn_plp}
use Rattle.l1_signal.specs.L1Of.{dyn_plp_of}
use Rattle.l1_signal.proofs.values.set_dyn_plps.Given as goal

abbrev pub invariant-loop-place : goal.invariant-loop-place
invariant-loop-place l = record {
  len : length l.plps ≡ length l.plan.plps;
  set : (k : ℕ) → k < l.place → get_or l.plps k no_dyn_plp ≡ dyn_plp_of l.plan l.shape k;
  ids : (k : ℕ) → k < l.place → (plp_at l.plan.plps k).id < 2 ^ 8;
}
