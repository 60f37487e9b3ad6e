-- A loop over bits: the register and the bits that are left give what all bits give.
use Rattle.std.proofs.Common.{◌≡◌, ℕ, zero, suc, ◌+◌, ◌*◌, ◌<◌, ◌≤◌, Bool, List, ◌++◌, length, take, drop, get_or, refl}
use Rattle.std.proofs.Common.{ap, sym}
use Rattle.std.proofs.Common.{◌∙◌, arith}
use Rattle.std.specs.List.{flat_map}
use Rattle.std.specs.Simd.{first_chunks}
use Rattle.std.proofs.lemmas.List.{append_assoc, at_drop_more, take-append-drop, drop-drop}
use Rattle.terms.specs.Bits.{field, bits_of, number_at}
use Rattle.terms.proofs.BitLemmas.{bits_of-append, field-number_at}
use Rattle.bit_slice.specs.Register.{register}
use Rattle.bit_slice.proofs.ZerosLemmas.{register-append}

-- one more piece
pub piece_more : {X : Type 0} (f : X → List Bool) (degree low s next all : ℕ) (xs : List X) (i : ℕ) (x : X)
    → i < length xs →
    register degree low s (flat_map f (drop i xs)) ≡ all → next ≡ register degree low s (f (get_or xs i x)) →
    register degree low next (flat_map f (drop (i + 1) xs)) ≡ all
piece_more f degree low s next all xs i x inside e step =
    ap (λ (n : ℕ). register degree low n (flat_map f (drop (i + 1) xs))) step
    ∙ sym (register-append degree low s (f (get_or xs i x)) (flat_map f (drop (i + 1) xs)))
    ∙ ap (register degree low s) (sym (at_drop_more (flat_map f) xs i x inside)) ∙ e

-- one more field of eight bits
pub field_more : (degree low s next all : ℕ) (bits : List Bool) (k : ℕ) → 8 * k + 8 ≤ length bits →
    register degree low s (drop (8 * k) bits) ≡ all → next ≡ register degree low s (field 8 (number_at bits (8 * k) 8))
    →
    register degree low next (drop (8 * (k + 1)) bits) ≡ all
field_more degree low s next all bits k inside e step =
    let here : field 8 (number_at bits (8 * k) 8) ≡ take 8 (drop (8 * k) bits) = field-number_at bits
    (8 * k) 8 inside in
    let place : 8 * (k + 1) ≡ 8 * k + 8 = omega arith in
    let rest : drop (8 * (k + 1)) bits ≡ drop 8 (drop (8 * k) bits) = ap (λ (n : ℕ). drop n bits) place
    ∙ sym (drop-drop 8 (8 * k) bits) in
    let parts : take 8 (drop (8 * k) bits) ++ drop (8 * (k + 1)) bits ≡ drop (8 * k) bits =
    rw rest (take-append-drop 8 (drop (8 * k) bits)) in
    ap (λ (n : ℕ). register degree low n (drop (8 * (k + 1)) bits)) (step ∙ ap (register degree low s) here)
    ∙ sym (register-append degree low s (take 8 (drop (8 * k) bits)) (drop (8 * (k + 1)) bits))
    ∙ ap (register degree low s) parts ∙ e

-- the bits of bytes in chunks, and of those behind the last chunk
bits_of-chunks : (n k : ℕ) (bytes : List ℕ) → flat_map bits_of (first_chunks n k bytes) ++ bits_of (drop (k * n) bytes)
    ≡ bits_of bytes
bits_of-chunks n zero bytes = let e : 0 * n ≡ 0 = omega arith in rw e refl
bits_of-chunks n (suc k) bytes =
    let e : suc k * n ≡ n + k * n = omega arith in
    append_assoc (bits_of (take n bytes)) (flat_map bits_of (first_chunks n k (drop n bytes)))
    (bits_of (drop (suc k * n) bytes))
    ∙ ap (λ (bits : List Bool). bits_of (take n bytes) ++ bits)
    (ap (λ (m : ℕ). flat_map bits_of (first_chunks n k (drop n bytes)) ++ bits_of (drop m bytes)) e
    ∙ ap (λ (xs : List ℕ). flat_map bits_of (first_chunks n k (drop n bytes)) ++ bits_of xs)
    (sym (drop-drop (k * n) n bytes))
    ∙ bits_of-chunks n k (drop n bytes))
    ∙ sym (bits_of-append (take n bytes) (drop n bytes)) ∙ ap bits_of (take-append-drop n bytes)

-- the chunks first, and then the bytes behind them
pub chunks_first : (size degree low s next : ℕ) (bytes rest : List ℕ) (chunks : List (List ℕ)) (k : ℕ)
    → chunks ≡ first_chunks size k bytes → rest ≡ drop (k * size) bytes →
    next ≡ register degree low s (flat_map bits_of chunks) → register degree low next (bits_of rest)
    ≡ register degree low s (bits_of bytes)
chunks_first size degree low s next bytes rest chunks k is_chunks is_rest step =
    rw (step, is_chunks, is_rest)
    (sym (register-append degree low s (flat_map bits_of (first_chunks size k bytes)) (bits_of (drop (k * size) bytes)))
    ∙ ap (register degree low s) (bits_of-chunks size k bytes))
