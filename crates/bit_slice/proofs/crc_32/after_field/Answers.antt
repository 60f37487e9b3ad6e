use Rattle.std.proofs.Common.{◌-◌, List, Bool, ap, ◌∙◌}
use Rattle.terms.specs.Bits.{bits_of, part}
use Rattle.terms.proofs.BitLemmas.{bits_of-high-first}
use Rattle.bit_slice.specs.Register.{register}
use Rattle.bit_slice.proofs.FillingLemmas.{field_end}
use Rattle.bit_slice.proofs.crc_32.after_field.Goals as goal

pub returns : goal.returns
returns c =
    let whole = c.whole.ensures.bits ∙ ap bits_of c.to_be_bytes-bytes.ensures ∙ bits_of-high-first 8 c.args.value in
    c.after_slice.ensures ∙ ap (register 32 0x04C1_1DB7 c.args.register)
    (c.sub.ensures.bits ∙ ap (λ (bits : List Bool). part bits (64 - c.args.width) c.args.width) whole
    ∙ field_end c.args.width 64 c.args.value c.requires)
