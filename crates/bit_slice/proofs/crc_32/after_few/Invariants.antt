use Rattle.std.proofs.Common.{◌≡◌, drop}
use Rattle.terms.specs.Bits.{bits_of}
use Rattle.bit_slice.specs.Register.{register}
use Rattle.bit_slice.proofs.crc_32.after_few.Given as goal

abbrev pub invariant-loop-byte : goal.invariant-loop-byte
invariant-loop-byte l = register 32 0x04C1_1DB7 l.register (bits_of (drop l.byte-index l.rest))
    ≡ register 32 0x04C1_1DB7 l.fn.register (bits_of l.bytes)
