use Rattle.std.proofs.Common.{arith}
use Rattle.bit_slice.proofs.RunLemmas.{field_more}
use Rattle.bit_slice.proofs.crc_32.after_bits.Goals as goal

pub loop-k-preserved : goal.loop-k-preserved
loop-k-preserved c =
    field_more 32 0x04C1_1DB7 c.loop-k.register c.after_byte-register.result _ c.args.bits.now c.loop-k.k (omega arith)
    c.loop-k.invariant (rw (c.field.ensures.value) at c.after_byte-register.ensures)
