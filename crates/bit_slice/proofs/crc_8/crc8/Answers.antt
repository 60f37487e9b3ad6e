use Rattle.std.proofs.Common.{ap, sym, ◌∙◌}
use Rattle.terms.specs.Bits.{bits_of}
use Rattle.bit_slice.specs.Register.{register}
use Rattle.bit_slice.proofs.CrcLemmas.{crc8_of_is}
use Rattle.bit_slice.proofs.ZerosLemmas.{register-append}
use Rattle.bit_slice.proofs.crc_8.crc8.Goals as goal

pub returns : goal.returns
returns c =
    rw (c.after_bits.ensures, c.after_bytes.ensures)
    (sym (register-append 8 0xD5 0 (bits_of c.split_bytes-rest.result.0.now) c.split_bytes-rest.result.1)
    ∙ ap (register 8 0xD5 0) c.split_bytes-rest.ensures ∙ sym (crc8_of_is c.args.bits))
