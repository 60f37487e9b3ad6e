use Rattle.std.proofs.Common.{arith}
use Rattle.bit_slice.proofs.ByteLemmas.{zeros-word}
use Rattle.bit_slice.proofs.crc_32.after_zeros.Goals as goal

pub returns : goal.returns
returns c =
    rw (c.entry.ensures, c.entry-2.ensures, c.entry-3.ensures, c.entry-4.ensures, c.to_be_bytes.ensures)
    (zeros-word 0x04C1_1DB7 c.args.first c.args.register (omega arith) (omega arith))
