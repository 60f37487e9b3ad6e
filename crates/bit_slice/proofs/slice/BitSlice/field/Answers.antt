use Rattle.std.proofs.Common.{◌≤◌, ◌+◌, arith, ap, sym, ◌∙◌}
use Rattle.terms.specs.Bits.{bits_of, number_of}
use Rattle.terms.proofs.BitLemmas.{part-part}
use Rattle.bit_slice.proofs.SliceLemmas.{seen_length, field_read}
use Rattle.bit_slice.proofs.slice.BitSlice.field.Goals as goal

pub returns-clause-value : goal.returns-clause-value
returns-clause-value c =
    let size = seen_length c.self.inside.bytes.now c.self.inside.first c.self.inside.len c.args.self.now c.self.view_is
    (omega arith) in
    let inside : c.args.at + c.args.width ≤ c.self.inside.len = omega arith in
    rw (c.number_of_bytes-number.ensures, ← c.self.view_is)
    (field_read c.self.inside.bytes.now (c.self.inside.first + c.args.at) c.args.width c.div_ceil-end_byte.result
    (omega arith) (omega (arith, c.div_ceil-end_byte.ensures)) (omega (arith, c.div_ceil-end_byte.ensures))
    (omega arith)
    ∙ sym (ap number_of
    (part-part (bits_of c.self.inside.bytes.now) c.self.inside.first c.self.inside.len c.args.at c.args.width inside)))
