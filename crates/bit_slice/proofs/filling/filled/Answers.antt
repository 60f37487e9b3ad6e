use Rattle.std.proofs.Common.{◌≡◌, ℕ, Bool, List, length, take, arith, ap, ◌∙◌}
use Rattle.std.proofs.lemmas.List.{length-take-le}
use Rattle.terms.specs.Bits.{bits_of, bytes_for}
use Rattle.terms.proofs.BitLemmas.{length-bits_of}
use Rattle.bit_slice.proofs.FillingLemmas.{filled}
use Rattle.bit_slice.proofs.filling.filled.Goals as goal

pub returns : goal.returns
returns c =
    let bytes : List ℕ = c.args.bytes.now in
    let bits : List Bool = take c.args.used (bits_of bytes) in
    let long : length bits ≡ c.args.used =
    length-take-le c.args.used (bits_of bytes) (omega (arith, c.requires.inside, length-bits_of bytes)) in
    let end : c.div_ceil-end.result ≡ bytes_for (length bits) = omega (arith, c.div_ceil-end.ensures, long) in
    ap (λ (n : ℕ). take n bytes) end ∙ filled bytes bits c.requires.holds (λ k h. omega (arith, c.type_inv.bytes k))
