use Rattle.std.proofs.Common.{sym, ◌∙◌, arith}
use Rattle.std.specs.Prelude.{bit_xor}
use Rattle.std.proofs.lemmas.Nat.{xor_lt}
use Rattle.bit_slice.proofs.ByteLemmas.{register-eight-bits}
use Rattle.bit_slice.proofs.TableLemmas.{byte_entry_is}
use Rattle.bit_slice.proofs.crc_8.after_byte.Goals as goal

pub returns : goal.returns
returns c =
    byte_entry_is (bit_xor c.args.register c.args.byte) (xor_lt 8 c.args.register c.args.byte (omega arith)
    (omega arith))
    ∙ sym (register-eight-bits 0xD5 c.args.register c.args.byte (omega arith) (omega arith) (omega arith))
