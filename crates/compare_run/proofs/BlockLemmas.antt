-- Where two lists of blocks differ first.
use Rattle.std.proofs.Common.{◌≡◌, ℕ, ◌+◌, ◌==◌, ◌&&◌, not, min, Bool, true, false, List, [], ◌∷◌, ◌++◌, length}
use Rattle.std.proofs.Common.{Option, Some, None, refl, ap, ap₂, sym, ◌∙◌, arith, option_map}
use Rattle.std.specs.Prelude.{◌↔◌, IsTrue, bytes_eq, if◌then◌else◌}
use Rattle.std.proofs.lemmas.Bool.{true≢false, false_from_ne_true}
use Rattle.std.proofs.lemmas.List.{length-append}
use Rattle.std.proofs.lemmas.Slice.Eq.{slice_eq-Decides, bytes_eq-Decides}
use Rattle.terms.proofs.OptionLemmas.{none_some}
use Rattle.linked_pool.specs.Pool.{chunk_len}
use Rattle.compare_run.specs.Comparing.{same_bit, same_bits, first_other, other_by, one_later}
use Rattle.compare_run.specs.declared.answer.Other.{Other}

bit_true : (a b : Bool) → same_bit a b ≡ true → a ≡ b
bit_true true b e = sym e
bit_true false true e = absurd (true≢false (sym e))
bit_true false false e = refl

bit_same : (a b : Bool) → a ≡ b → same_bit a b ≡ true
bit_same true b e = sym e
bit_same false true e = absurd (true≢false (sym e))
bit_same false false e = refl

-- what a test of bits has told
pub bits_told : (r : Bool) (a b : List Bool) → (IsTrue r ↔ (a ≡ b)) → r ≡ same_bits a b
bits_told r a b h = go (same_bits a b) refl
  where
    go : (s : Bool) → same_bits a b ≡ s → r ≡ s
    go true e = h.1 ((slice_eq-Decides (λ x y. (bit_true x y, bit_same x y)) a b (same_bits a b) refl).0 e)
    go false e = false_from_ne_true r
        (λ t. true≢false (sym ((slice_eq-Decides (λ x y. (bit_true x y, bit_same x y)) a b (same_bits a b) refl).1
        (h.0 t)) ∙ e))

pub bits_equal : (a b : List Bool) → same_bits a b ≡ true → a ≡ b
bits_equal a b e = (slice_eq-Decides (λ x y. (bit_true x y, bit_same x y)) a b (same_bits a b) refl).0 e

pub bits_same : (a b : List Bool) → a ≡ b → same_bits a b ≡ true
bits_same a b e = (slice_eq-Decides (λ x y. (bit_true x y, bit_same x y)) a b (same_bits a b) refl).1 e

-- ---- piece by piece

fronts_same : (p q xs ys : List ℕ) → length p ≡ length q
    → bytes_eq (p ++ xs) (q ++ ys) ≡ (bytes_eq p q && bytes_eq xs ys)
fronts_same [] [] xs ys l = refl
fronts_same [] (y ∷ q) xs ys l = absurd (omega (arith, l))
fronts_same (x ∷ p) [] xs ys l = absurd (omega (arith, l))
fronts_same (x ∷ p) (y ∷ q) xs ys l =
    ap (λ (t : Bool). (x == y) && t) (fronts_same p q xs ys (omega (arith, l)))
    ∙ go (x == y)
  where
    go : (t : Bool) → (t && (bytes_eq p q && bytes_eq xs ys)) ≡ ((t && bytes_eq p q) && bytes_eq xs ys)
    go true = refl
    go false = refl

-- two strings of one length are the same if their first pieces are, and what is left
pub pieces_same : (a b left right p q xs ys : List ℕ) → length left ≡ length right → bytes_eq a b ≡ bytes_eq left right
    → left ≡ p ++ xs
    → right ≡ q ++ ys → length p ≡ min (length left) chunk_len → length q ≡ min (length right) chunk_len
    → (length xs ≡ length ys) × (bytes_eq a b ≡ (bytes_eq p q && bytes_eq xs ys))
pieces_same a b left right p q xs ys size same e f m n =
    let one : length p ≡ length q = omega (arith, m, n, size) in
    let whole = ap length e ∙ length-append p xs in
    let other = ap length f ∙ length-append q ys in (
      omega (arith, size, whole, other, one),
      same ∙ ap₂ bytes_eq e f ∙ fronts_same p q xs ys one,
    )

pub not_false : (t : Bool) → true ≡ not t → t ≡ false
not_false true e = e
not_false false e = refl

pub not_true : (t : Bool) → false ≡ not t → t ≡ true
not_true true e = refl
not_true false e = e

-- ---- one block more that is the same

abbrev pub shifted : ℕ → Option Other → Option Other
shifted k None = None
shifted k (Some o) = Some (other_by (k + o.number) o.is_end)

-- The first k are the same, and these are left.
abbrev pub AreSame : List (List ℕ) → List (List ℕ) → ℕ → List (List ℕ) → List (List ℕ) → Type 0
AreSame a b k xs ys = first_other a b ≡ shifted k (first_other xs ys)

-- what two blocks and what follows them make of the first that differs
abbrev pub by_front : Bool → Option Other → Option Other
by_front same rest = if same then option_map one_later rest else Some (other_by 0 false)

pub none_left : {X : Type 0} (xs : List X) → length xs ≡ 0 → xs ≡ []
none_left [] e = refl
none_left (x ∷ xs) e = absurd (omega (arith, e))

-- ---- all blocks that are the same

pub other_none : (a : List (List ℕ)) → first_other a a ≡ None
other_none [] = refl
other_none (x ∷ a) = ap₂ by_front ((bytes_eq-Decides x x).1 refl) (other_none a)

pub none_other : (a b : List (List ℕ)) → first_other a b ≡ None → a ≡ b
none_other [] [] e = refl
none_other [] (y ∷ b) e = none_some (other_by 0 true) (sym e)
none_other (x ∷ a) [] e = none_some (other_by 0 true) (sym e)
none_other (x ∷ a) (y ∷ b) e = go (bytes_eq x y) (first_other a b) refl refl e (none_other a b)
  where
    go : (t : Bool) (o : Option Other) → bytes_eq x y ≡ t → first_other a b ≡ o → by_front t o ≡ None
        → (first_other a b ≡ None → a ≡ b) → x ∷ a ≡ y ∷ b
    go true None t o e rest = ap₂ (λ (z : List ℕ) (l : List (List ℕ)). z ∷ l) ((bytes_eq-Decides x y).0 t) (rest o)
    go true (Some k) t o e rest = none_some (one_later k) (sym e)
    go false s t o e rest = none_some (other_by 0 false) (sym e)
