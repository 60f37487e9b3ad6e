use Rattle.std.proofs.Common.{sym, arith}
use Rattle.bit_slice.proofs.ByteLemmas.{register-byte}
use Rattle.bit_slice.proofs.crc_32.after_byte.Goals as goal

pub returns : goal.returns
returns c =
    rw (c.entry.ensures)
    (sym (register-byte 32 0x04C1_1DB7 (omega arith) (omega arith) c.args.register c.args.byte (omega arith)
    (omega arith)))
