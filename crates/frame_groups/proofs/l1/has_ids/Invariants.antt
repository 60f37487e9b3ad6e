use Rattle.std.proofs.Common.{◌≡◌, ◌<◌, ℕ, get_or}
use Rattle.plp_config.specs.Plps.{plp_at}
use Rattle.l1_signal.specs.L1Dynamic.{no_dyn_plp}
use Rattle.frame_groups.proofs.l1.has_ids.Given as goal

abbrev pub invariant-loop-plp : goal.invariant-loop-plp
invariant-loop-plp l = (k : ℕ) → k < l.plp → (get_or l.dynamic.plps k no_dyn_plp).plp_id ≡ (plp_at l.plan.plps k).id
