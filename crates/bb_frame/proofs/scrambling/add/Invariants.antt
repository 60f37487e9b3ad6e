use Rattle.std.proofs.Common.{◌≡◌, ◌<◌, ◌≤◌, ℕ, length, get_or}
use Rattle.std.specs.Prelude.{bit_xor}
use Rattle.bb_frame.proofs.scrambling.add.Given as goal

abbrev pub invariant-loop-k : goal.invariant-loop-k
invariant-loop-k l =
    (length l.bytes ≡ length l.fn.bytes)
    × ((j : ℕ) → j < l.k → get_or l.bytes j 0 ≡ bit_xor (get_or l.fn.bytes j 0) (get_or l.sequence j 0))
    × ((j : ℕ) → l.k ≤ j → get_or l.bytes j 0 ≡ get_or l.fn.bytes j 0)
