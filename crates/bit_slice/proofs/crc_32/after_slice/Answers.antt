use Rattle.std.proofs.Common.{ap, sym, ◌∙◌}
use Rattle.terms.specs.Bits.{bits_of}
use Rattle.bit_slice.specs.Register.{register}
use Rattle.bit_slice.proofs.ZerosLemmas.{register-append}
use Rattle.bit_slice.proofs.crc_32.after_slice.Goals as goal

pub returns : goal.returns
returns c =
    rw (c.after_bits.ensures, c.after_bytes.ensures)
    (sym (register-append 32 0x04C1_1DB7 c.args.register (bits_of c.split_bytes-rest.result.0.now)
    c.split_bytes-rest.result.1)
    ∙ ap (register 32 0x04C1_1DB7 c.args.register) c.split_bytes-rest.ensures)
