use Rattle.std.proofs.Common.{◌<◌, ◌+◌, sym, ◌∙◌, arith, false}
use Rattle.terms.specs.Bits.{bits_of}
use Rattle.terms.proofs.BitLemmas.{get_or-part}
use Rattle.bit_slice.proofs.SliceLemmas.{seen_length, bit_read}
use Rattle.bit_slice.proofs.slice.BitSlice.bit.Goals as goal

pub returns : goal.returns
returns c =
    let size = seen_length c.self.inside.bytes.now c.self.inside.first c.self.inside.len c.args.self.now c.self.view_is
    (omega arith) in
    let inside : c.args.at < c.self.inside.len = omega arith in
    rw (← c.self.view_is)
    (bit_read c.self.inside.bytes.now (c.self.inside.first + c.args.at) (omega arith)
    ∙ sym (get_or-part (bits_of c.self.inside.bytes.now) c.self.inside.first c.self.inside.len c.args.at false inside))
