use Rattle.std.proofs.Common.{◌≡◌, ◌*◌, take}
use Rattle.bit_slice.proofs.same.same_words.Given as goal

abbrev pub invariant-loop-k : goal.invariant-loop-k
invariant-loop-k l = take (64 * l.k) l.a ≡ take (64 * l.k) l.b
