use Rattle.std.proofs.Common.{◌≡◌, drop}
use Rattle.std.specs.List.{flat_map}
use Rattle.terms.specs.Bits.{bits_of}
use Rattle.bit_slice.specs.Register.{register}
use Rattle.bit_slice.proofs.crc_32.after_chunks.Given as goal

abbrev pub invariant-loop-chunk : goal.invariant-loop-chunk
invariant-loop-chunk l =
    register 32 0x04C1_1DB7 l.register (flat_map bits_of (drop l.chunk-index l.chunks)) ≡ register 32
    0x04C1_1DB7 l.fn.register
    (flat_map bits_of l.chunks)
