use Rattle.std.proofs.Common.{length, ◌/◌, ◌∙◌}
use Rattle.terms.specs.Bits.{field}
use Rattle.bit_slice.proofs.RunLemmas.{piece_more, chunks_first}
use Rattle.bit_slice.proofs.crc_32.after_few.Goals as goal

pub loop-byte-init : goal.loop-byte-init
loop-byte-init c =
    chunks_first 4 32 0x04C1_1DB7 c.after_chunks.result c.after_words-register.result c.as_chunks.result.1.now
    c.as_chunks-2.result.1.now c.as_chunks-2.result.0.now
    (length c.as_chunks.result.1.now / 4) c.as_chunks-2.ensures.front c.as_chunks-2.ensures.back
    c.after_words-register.ensures
    ∙ chunks_first 16 32 0x04C1_1DB7 c.args.register c.after_chunks.result c.args.bytes.now c.as_chunks.result.1.now
    c.as_chunks.result.0.now
    (length c.args.bytes.now / 16) c.as_chunks.ensures.front c.as_chunks.ensures.back c.after_chunks.ensures

pub loop-byte-preserved : goal.loop-byte-preserved
loop-byte-preserved c =
    piece_more (field 8) 32 0x04C1_1DB7 c.loop-byte.register c.after_byte-register.result _ c.as_chunks-2.result.1.now
    c.loop-byte.byte-index 0
    c.loop-byte-test.true c.loop-byte.invariant c.after_byte-register.ensures
