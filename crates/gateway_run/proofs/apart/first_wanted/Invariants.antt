use Rattle.std.proofs.Common.{◌≡◌, ◌<◌, ◌≤◌, ◌-◌, ℕ}
use Rattle.gateway_core.specs.StandsFor.{wants_of}
use Rattle.gateway_run.proofs.apart.first_wanted.Given as goal

abbrev pub invariant-loop-plp : goal.invariant-loop-plp
invariant-loop-plp l = record {
  within : l.plp ≤ l.count;
  none : (k : ℕ) → l.from ≤ k → k < l.plp → wants_of l.gateway k ≡ 0;
}

abbrev pub decreases-loop-plp : goal.decreases-loop-plp
decreases-loop-plp l = l.count - l.plp
