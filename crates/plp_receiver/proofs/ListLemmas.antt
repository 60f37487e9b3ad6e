-- Lists, from a place on.
use Rattle.std.proofs.Common.{◌≡◌, ℕ, zero, suc, ◌+◌, ◌<◌, ◌≤◌, List, [], ◌∷◌, ◌++◌, length, drop, Option, Some, None}
use Rattle.std.proofs.Common.{ap, sym, ◌∙◌, arith}
use Rattle.std.specs.Prelude.{slice_get, MatchOption}
use Rattle.std.specs.List.{AllZip, range_with_len}
use Rattle.std.proofs.lemmas.List.{length-drop, drop-drop}

module _ {X : Type 0} where
  -- what the next one is
  pub next_is : (xs rest : List X) (k : ℕ) (x : X) → drop k xs ≡ x ∷ rest → slice_get xs k ≡ Some x
  next_is [] rest zero x e = ap (λ (l : List X). slice_get l 0) e
  next_is [] rest (suc k) x e = ap (λ (l : List X). slice_get l 0) e
  next_is (y ∷ xs) rest zero x e = ap (λ (l : List X). slice_get l 0) e
  next_is (y ∷ xs) rest (suc k) x e = next_is xs rest k x e

  -- one was gone past, if one was there
  pub gone_past : {A : Type 0} (view : A → X) (xs old new : List X) (k : ℕ) (r : Option A) → old ≡ drop k xs
      → MatchOption r ((old ≡ []) × (new ≡ [])) (λ x. old ≡ view x ∷ new) → new ≡ drop (k + 1) xs
  gone_past view xs old new k None e n = n.1 ∙ sym (ap (drop 1) (sym e ∙ n.0)) ∙ drop-drop 1 k xs
  gone_past view xs old new k (Some a) e n = sym (ap (drop 1) (sym e ∙ n)) ∙ drop-drop 1 k xs

  -- one more is left
  pub some_left : {P : Type 0} (xs rest : List X) (k : ℕ) → k < length xs → rest ≡ drop k xs → rest ≡ [] → P
  some_left xs rest k l d e = let none = ap length (sym d ∙ e) in absurd (omega (arith, l, none, length-drop k xs))

-- lists in step, one item more
pub zip_more : {A B : Type 0} (R : A → B → Type 0) (xs : List A) (ys : List B) (x : A) (y : B) → AllZip R xs ys → R x y
    → AllZip R (xs ++ x ∷ []) (ys ++ y ∷ [])
zip_more R [] [] x y z r = (r, tt)
zip_more R [] (b ∷ ys) x y z r = absurd z
zip_more R (a ∷ xs) [] x y z r = absurd z
zip_more R (a ∷ xs) (b ∷ ys) x y z r = (z.0, zip_more R xs ys x y z.1 r)

-- each of a range in step with another relation
pub zip_over : {B : Type 0} (R S : ℕ → B → Type 0) (a n : ℕ) (ys : List B)
    → ((k : ℕ) (y : B) → a ≤ k → k < a + n → R k y → S k y)
    → AllZip R (range_with_len a n) ys → AllZip S (range_with_len a n) ys
zip_over R S a zero [] f z = tt
zip_over R S a zero (y ∷ ys) f z = absurd z
zip_over R S a (suc n) [] f z = absurd z
zip_over R S a (suc n) (y ∷ ys) f z = (
  f a y (omega arith) (omega arith) z.0,
  zip_over R S (a + 1) n ys (λ k x l m r. f k x (omega (arith, l)) (omega (arith, m)) r)
      z.1,
)
