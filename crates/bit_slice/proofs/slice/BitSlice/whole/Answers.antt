use Rattle.std.proofs.Common.{◌*◌, length, arith, ap, ◌∙◌}
use Rattle.std.proofs.lemmas.List.{take_all}
use Rattle.terms.specs.Bits.{bits_of}
use Rattle.terms.proofs.BitLemmas.{length-bits_of}
use Rattle.bit_slice.proofs.slice.BitSlice.whole.Goals as goal

pub returns-clause-bits : goal.returns-clause-bits
returns-clause-bits c =
    let e = length-bits_of c.args.bytes.now in
    take_all (8 * length c.args.bytes.now) (bits_of c.args.bytes.now) (omega (arith, e))

pub returns-clause-len : goal.returns-clause-len
returns-clause-len c = ap length (returns-clause-bits c) ∙ length-bits_of c.args.bytes.now
