use Rattle.std.proofs.Common.{[]}
use Rattle.terms.specs.Bits.{bits_of}
use Rattle.bit_slice.proofs.RunLemmas.{piece_more}
use Rattle.bit_slice.proofs.crc_32.after_words.Goals as goal

pub loop-word-preserved : goal.loop-word-preserved
loop-word-preserved c =
    piece_more bits_of 32 0x04C1_1DB7 c.loop-word.register c.after_word-register.result _ c.args.words.now
    c.loop-word.word-index []
    c.loop-word-test.true c.loop-word.invariant c.after_word-register.ensures
