use Rattle.std.proofs.Common.{[]}
use Rattle.terms.specs.Bits.{bits_of}
use Rattle.bit_slice.proofs.RunLemmas.{piece_more}
use Rattle.bit_slice.proofs.crc_32.after_chunks.Goals as goal

pub loop-chunk-preserved : goal.loop-chunk-preserved
loop-chunk-preserved c =
    piece_more bits_of 32 0x04C1_1DB7 c.loop-chunk.register c.after_chunk-register.result _ c.args.chunks.now
    c.loop-chunk.chunk-index []
    c.loop-chunk-test.true c.loop-chunk.invariant c.after_chunk-register.ensures
