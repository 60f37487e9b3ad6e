-- Writing a frame: the bytes of its header, and its zeros.
use Rattle.std.proofs.Common.{◌≡◌, ℕ, zero, suc, ◌+◌, ◌/◌, ◌^◌, ◌≤◌, ◌==◌, Bool, false, List, [], ◌∷◌, ◌++◌, refl, ap}
use Rattle.std.proofs.Common.{sym, ◌∙◌}
use Rattle.std.proofs.Common.{append_assoc, append-nil}
use Rattle.std.specs.Prelude.{replicate}
use Rattle.std.specs.Int.{byte_at}
use Rattle.std.proofs.lemmas.Nat.{shr-shr}
use Rattle.std.proofs.lemmas.Nat.Bits.{bit_at-zero}
use Rattle.std.proofs.lemmas.List.{replicate-append-replicate}
use Rattle.terms.specs.Bits.{field}
use Rattle.terms.proofs.BitLemmas.{field-add, field-low, field-byte, field-two-bytes}
use Rattle.bb_frame.specs.declared.header.Header.{Header}
use Rattle.bb_frame.specs.BasebandFrame.{fields_bits}

-- the two upper bytes of three
upper_bytes : (n : ℕ) → field 8 (byte_at 2 n) ++ field 8 (byte_at 1 n) ≡ field 16 (n / 2 ^ 8)
upper_bytes n =
    ap (λ (xs : List Bool). xs ++ field 8 (byte_at 1 n)) (field-byte 2 n)
    ∙ ap (λ (xs : List Bool). field 8 (n / 2 ^ 16) ++ xs)
    (field-byte 1 n)
    ∙ ap (λ (k : ℕ). field 8 k ++ field 8 (n / 2 ^ 8)) (sym (shr-shr n 8 8)) ∙ sym (field-add 8 8 (n / 2 ^ 8))

pub fields_written : (h : Header) →
    field 8 h.matype1
    ++ (field 8 h.matype2
    ++ (field 8 (byte_at 2 h.issy) ++ (field 8 (byte_at 1 h.issy) ++ (field 8 (byte_at 1 h.dfl)
    ++ (field 8 (byte_at 0 h.dfl)
    ++ (field 8 (byte_at 0 h.issy) ++ (field 8 (byte_at 1 h.syncd) ++ (field 8 (byte_at 0 h.syncd) ++ []))))))))
    ≡ fields_bits h
fields_written h =
    let lower : field 8 (byte_at 0 h.issy) ≡ field 8 h.issy = field-low 8 h.issy in
    let pairs : field 8 h.matype1
    ++ (field 8 h.matype2
    ++ (field 8 (byte_at 2 h.issy) ++ (field 8 (byte_at 1 h.issy) ++ (field 8 (byte_at 1 h.dfl)
    ++ (field 8 (byte_at 0 h.dfl)
    ++ (field 8 (byte_at 0 h.issy) ++ (field 8 (byte_at 1 h.syncd) ++ (field 8 (byte_at 0 h.syncd) ++ []))))))))
    ≡ field 8 h.matype1 ++ field 8 h.matype2 ++ (field 8 (byte_at 2 h.issy) ++ field 8 (byte_at 1 h.issy))
    ++ (field 8 (byte_at 1 h.dfl) ++ field 8 (byte_at 0 h.dfl))
    ++ field 8 (byte_at 0 h.issy) ++ (field 8 (byte_at 1 h.syncd) ++ field 8 (byte_at 0 h.syncd)) =
    simp (append_assoc, append-nil) in
    pairs ∙ rw (upper_bytes h.issy, field-two-bytes h.dfl, lower, field-two-bytes h.syncd) refl

-- a field of zeros
pub field-zero : (w : ℕ) → field w 0 ≡ replicate w false
unfolding field
field-zero zero = refl
field-zero (suc w) = ap (λ (k : ℕ). (k == 1) ∷ field w 0) (bit_at-zero w)
    ∙ ap (λ (xs : List Bool). false ∷ xs) (field-zero w)

-- zeros that are put and those that are left
pub zeros_more : (put width all : ℕ) → put + width ≤ all → replicate put false ++ field width 0 ≡ replicate
    (put + width) false
zeros_more put width all h = ap (λ (xs : List Bool). replicate put false ++ xs) (field-zero width)
    ∙ replicate-append-replicate put width false

pub zeros_left : (put left : ℕ) → replicate put false ++ replicate left false ≡ replicate (put + left) false
zeros_left put left = replicate-append-replicate put left false
