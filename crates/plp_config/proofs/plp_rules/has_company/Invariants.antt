use Rattle.std.proofs.Common.{◌≢◌, ◌<◌, ℕ}
use Rattle.plp_config.specs.Plps.{plp_at}
use Rattle.plp_config.proofs.plp_rules.has_company.Given as goal

abbrev pub invariant-loop-other : goal.invariant-loop-other
invariant-loop-other l = (k : ℕ) → k < l.other → k ≢ l.place
    → (plp_at l.config.plps k).group ≢ (plp_at l.config.plps l.place).group
