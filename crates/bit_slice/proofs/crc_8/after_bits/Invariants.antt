use Rattle.std.proofs.Common.{◌≡◌, ◌*◌, drop}
use Rattle.bit_slice.specs.Register.{register}
use Rattle.bit_slice.proofs.crc_8.after_bits.Given as goal

abbrev pub invariant-loop-k : goal.invariant-loop-k
invariant-loop-k l = register 8 0xD5 l.register (drop (8 * l.k) l.bits) ≡ register 8 0xD5 l.fn.register l.bits
