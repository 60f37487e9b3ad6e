use Rattle.std.proofs.Common.{[]}
use Rattle.terms.specs.Bits.{bits_of}
use Rattle.bit_slice.specs.Window.{window_register}
use Rattle.bit_slice.proofs.RunLemmas.{piece_more}
use Rattle.bit_slice.proofs.crc_32.after_blocks.Goals as goal

pub loop-block-preserved : goal.loop-block-preserved
loop-block-preserved c =
    piece_more bits_of 32 0x04C1_1DB7 (window_register c.loop-block.window) _ _ c.args.blocks.now
    c.loop-block.block-index []
    c.loop-block-test.true c.loop-block.invariant c.pass.ensures
