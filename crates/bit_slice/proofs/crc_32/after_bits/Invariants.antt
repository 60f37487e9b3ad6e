use Rattle.std.proofs.Common.{◌≡◌, ◌*◌, drop}
use Rattle.bit_slice.specs.Register.{register}
use Rattle.bit_slice.proofs.crc_32.after_bits.Given as goal

abbrev pub invariant-loop-k : goal.invariant-loop-k
invariant-loop-k l = register 32 0x04C1_1DB7 l.register (drop (8 * l.k) l.bits) ≡ register 32 0x04C1_1DB7
    l.fn.register l.bits
