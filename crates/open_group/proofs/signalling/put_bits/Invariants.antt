use Rattle.std.proofs.Common.{◌≡◌, ◌++◌, map}
use Rattle.std.specs.List.{range_with_len}
use Rattle.terms.specs.Bits.{byte_at}
use Rattle.open_group.proofs.signalling.put_bits.Given as goal

abbrev pub invariant-loop-k : goal.invariant-loop-k
invariant-loop-k l = l.out ≡ l.initial.out ++ map (byte_at l.bits) (range_with_len 0 l.k)
