use Rattle.std.proofs.Common.{◌≡◌, ℕ, [], ◌∷◌, ◌++◌, Bool, List, length, ap, ap₂, ◌∙◌, append-nil, rules, arith}
use Rattle.std.specs.Prelude.{bit_xor}
use Rattle.std.proofs.lemmas.List.{set-append_right}
use Rattle.terms.specs.Bits.{field, bits_of}
use Rattle.terms.proofs.BitLemmas.{bits_of-append}
use Rattle.bit_slice.specs.Crc.{crc8_of}
use Rattle.bb_frame.specs.BasebandFrame.{fields_bits, mode}
use Rattle.bb_frame.proofs.writing.header_bytes.Goals as goal

pub returns : goal.returns
returns c =
    let front = c.copy_from_slice.new.self in
    let last : ℕ = bit_xor c.crc8.result mode in
    let nine : length front ≡ 9 = search rules in
    let fields : bits_of front ≡ fields_bits c.args.header.now =
    ap bits_of c.copy_from_slice.ensures.after ∙ c.field_bytes-fields.ensures in
    let crc : c.crc8.result ≡ crc8_of (fields_bits c.args.header.now) =
    c.crc8.ensures ∙ ap crc8_of (c.whole.ensures.bits ∙ c.field_bytes-fields.ensures) in
    ap bits_of (set-append_right front (0 ∷ []) 9 9 last nine (omega arith))
    ∙ bits_of-append front (last ∷ [])
    ∙ ap₂ (λ (xs ys : List Bool). xs ++ ys) fields
    (append-nil (field 8 last) ∙ ap (λ (n : ℕ). field 8 (bit_xor n mode)) crc)
