use Rattle.std.proofs.Common.{arith}
use Rattle.bit_slice.proofs.ByteLemmas.{register-four}
use Rattle.bit_slice.proofs.crc_32.after_word.Goals as goal

pub returns : goal.returns
returns c =
    rw (c.after_zeros.ensures, c.from_be_bytes.ensures)
    (register-four 0x04C1_1DB7 c.args.register c.args.word.now (omega arith) (omega arith) c.told-word c.fits-word)
