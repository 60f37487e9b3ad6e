use Rattle.std.proofs.Common.{◌≡◌, take}
use Rattle.plp_config.specs.Plps.{spread_max}
use Rattle.plp_config.proofs.values.greatest_spread.Given as goal

abbrev pub invariant-loop-plp : goal.invariant-loop-plp
invariant-loop-plp l = l.greatest ≡ spread_max (take l.plp-index l.plps)
