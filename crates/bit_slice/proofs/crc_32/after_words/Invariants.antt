use Rattle.std.proofs.Common.{◌≡◌, drop}
use Rattle.std.specs.List.{flat_map}
use Rattle.terms.specs.Bits.{bits_of}
use Rattle.bit_slice.specs.Register.{register}
use Rattle.bit_slice.proofs.crc_32.after_words.Given as goal

abbrev pub invariant-loop-word : goal.invariant-loop-word
invariant-loop-word l =
    register 32 0x04C1_1DB7 l.register (flat_map bits_of (drop l.word-index l.words)) ≡ register 32 0x04C1_1DB7
    l.fn.register
    (flat_map bits_of l.words)
