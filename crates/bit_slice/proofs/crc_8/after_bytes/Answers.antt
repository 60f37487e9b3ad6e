use Rattle.terms.specs.Bits.{field}
use Rattle.bit_slice.proofs.RunLemmas.{piece_more}
use Rattle.bit_slice.proofs.crc_8.after_bytes.Goals as goal

pub loop-byte-preserved : goal.loop-byte-preserved
loop-byte-preserved c =
    piece_more (field 8) 8 0xD5 c.loop-byte.register c.after_byte-register.result _ c.args.bytes.now
    c.loop-byte.byte-index 0
    c.loop-byte-test.true c.loop-byte.invariant c.after_byte-register.ensures
