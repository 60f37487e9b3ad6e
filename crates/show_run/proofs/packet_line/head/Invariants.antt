use Rattle.std.proofs.Common.{◌≡◌, map, take}
use Rattle.std.specs.List.{range_with_len}
use Rattle.terms.specs.Bits.{byte_at}
use Rattle.show_run.proofs.packet_line.head.Given as goal

-- the bytes so far are those of the bits
abbrev pub invariant-loop-k : goal.invariant-loop-k
invariant-loop-k l = take l.k l.bytes ≡ map (byte_at l.bits) (range_with_len 0 l.k)
