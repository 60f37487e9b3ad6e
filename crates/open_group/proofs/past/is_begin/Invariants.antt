use Rattle.std.proofs.Common.{◌≡◌, ◌<◌, ◌==◌, ℕ, false}
use Rattle.plp_config.specs.InterleavingFrames.{begin_of}
use Rattle.open_group.proofs.past.is_begin.Given as goal

abbrev pub invariant-loop-plp : goal.invariant-loop-plp
invariant-loop-plp l = (k : ℕ) → k < l.plp → (begin_of l.plan k l.number == l.begin) ≡ false
