use Rattle.std.proofs.Common.{◌≤◌, ◌+◌, sym, ap, ◌∙◌, arith, length}
use Rattle.terms.specs.Bits.{bits_of}
use Rattle.terms.proofs.BitLemmas.{length-part, part-part}
use Rattle.bit_slice.proofs.SliceLemmas.{seen_length}
use Rattle.bit_slice.proofs.slice.BitSlice.sub.Goals as goal

pub returns-clause-bits : goal.returns-clause-bits
returns-clause-bits c =
    let size = seen_length c.self.inside.bytes.now c.self.inside.first c.self.inside.len c.args.self.now c.self.view_is
    (omega arith) in
    let inside : c.args.first + c.args.len ≤ c.self.inside.len = omega arith in
    rw (← c.self.view_is)
    (sym (part-part (bits_of c.self.inside.bytes.now) c.self.inside.first c.self.inside.len c.args.first
    c.args.len inside))

pub returns-clause-len : goal.returns-clause-len
returns-clause-len c = ap length (returns-clause-bits c) ∙ length-part c.args.self.now c.args.first c.args.len
    c.requires
