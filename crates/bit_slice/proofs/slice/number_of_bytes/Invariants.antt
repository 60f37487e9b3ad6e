use Rattle.std.proofs.Common.{◌≡◌, take}
use Rattle.terms.specs.Bits.{bits_of, number_of}
use Rattle.bit_slice.proofs.slice.number_of_bytes.Given as goal

abbrev pub invariant-loop-byte : goal.invariant-loop-byte
invariant-loop-byte l = l.number ≡ number_of (bits_of (take l.byte-index l.bytes))
