use Rattle.std.proofs.Common.{ℕ, ◌<◌, ◌^◌}
use Rattle.plp_config.specs.Plps.{plp_at}
use Rattle.stream_laws.proofs.plan_laws.groups_fit_law.Given as goal

abbrev pub invariant-loop-plp : goal.invariant-loop-plp
invariant-loop-plp l = (k : ℕ) → k < l.plp → (plp_at l.plan.plps k).group < 2 ^ 8
