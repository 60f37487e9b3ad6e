use Rattle.std.proofs.Common.{◌≡◌, drop}
use Rattle.std.specs.List.{flat_map}
use Rattle.terms.specs.Bits.{bits_of}
use Rattle.bit_slice.specs.Register.{register}
use Rattle.bit_slice.specs.Window.{window_register}
use Rattle.bit_slice.proofs.crc_32.after_blocks.Given as goal

abbrev pub invariant-loop-block : goal.invariant-loop-block
invariant-loop-block l =
    register 32 0x04C1_1DB7 (window_register l.window) (flat_map bits_of (drop l.block-index l.blocks))
    ≡ register 32 0x04C1_1DB7 l.fn.register (flat_map bits_of l.blocks)
