use Rattle.std.proofs.Common.{◌≡◌, ◌<◌, ℕ, length, get_or}
use Rattle.bit_slice.specs.Prbs.{PrbsStandsFor, prbs_byte}
use Rattle.bit_slice.proofs.prbs_blocks.PrbsBlocks.new.Given as goal

abbrev pub invariant-loop-byte : goal.invariant-loop-byte
invariant-loop-byte l =
    PrbsStandsFor l.sequence l.byte-index × (length l.byte-items ≡ 120)
    × ((k : ℕ) → k < l.byte-index → get_or l.byte-items k 0 ≡ prbs_byte k)
