-- One number more in a range, a range in two parts, what is made of each number of a range, and a list of one number.
use Rattle.std.proofs.Common.{◌≡◌, ℕ, zero, suc, ◌+◌, ◌<◌, ◌≤◌, ◌&&◌, Bool, List, [], ◌∷◌, ◌++◌, map, length}
use Rattle.std.proofs.Common.{refl, ap, ap₂, ◌∙◌, sym, arith}
use Rattle.std.specs.Prelude.{slice_index, sum_by}
use Rattle.std.specs.List.{range_with_len, flat_map, list_all}
use Rattle.std.proofs.lemmas.List.Sums.{sum_by-cons}

pub range_more : (a n : ℕ) → range_with_len a (n + 1) ≡ range_with_len a n ++ (a + n) ∷ []
range_more a zero = let e : a ≡ a + 0 = omega arith in ap (λ (x : ℕ). x ∷ []) e
range_more a (suc n) =
    let e : a + 1 + n ≡ a + suc n = omega arith in
    let step : suc n + 1 ≡ suc (n + 1) = omega arith in
    rw step (ap (λ (xs : List ℕ). a ∷ xs) (range_more (a + 1) n ∙ ap (λ (x : ℕ). range_with_len (a + 1) n ++ x ∷ []) e))

-- the same of the places below a number
pub places_more : (n : ℕ) → range_with_len 0 (n + 1) ≡ range_with_len 0 n ++ n ∷ []
places_more n = let e : 0 + n ≡ n = omega arith in range_more 0 n ∙ ap (λ (x : ℕ). range_with_len 0 n ++ x ∷ []) e

pub range_append : (a m n : ℕ) → range_with_len a (m + n) ≡ range_with_len a m ++ range_with_len (a + m) n
range_append a zero n =
    let e : zero + n ≡ n = omega arith in
    let f : a ≡ a + zero = omega arith in
    ap₂ (λ (x y : ℕ). range_with_len x y) f e
range_append a (suc m) n =
    let e : suc m + n ≡ suc (m + n) = omega arith in
    let f : a + 1 + m ≡ a + suc m = omega arith in
    ap (range_with_len a) e
    ∙ ap (λ (l : List ℕ). a ∷ l) (range_append (a + 1) m n
    ∙ ap (λ (x : ℕ). range_with_len (a + 1) m ++ range_with_len x n) f)

-- Of two functions that agree on a range: what they make of each of its numbers, in a list, in lists joined, in a sum,
-- in a test of all.
pub map_same : {X : Type 0} (f g : ℕ → X) (a n : ℕ) → ((k : ℕ) → a ≤ k → k < a + n → f k ≡ g k)
    → map f (range_with_len a n) ≡ map g (range_with_len a n)
map_same f g a zero h = refl
map_same f g a (suc n) h =
    ap₂ (λ x l. x ∷ l) (h a (omega arith) (omega arith))
    (map_same f g (a + 1) n (λ k le lt. h k (omega (arith, le)) (omega (arith, lt))))

pub flat_same : {X : Type 0} (f g : ℕ → List X) (a n : ℕ) → ((k : ℕ) → a ≤ k → k < a + n → f k ≡ g k)
    → flat_map f (range_with_len a n) ≡ flat_map g (range_with_len a n)
flat_same f g a zero h = refl
flat_same f g a (suc n) h =
    ap₂ (λ x l. x ++ l) (h a (omega arith) (omega arith))
    (flat_same f g (a + 1) n (λ k le lt. h k (omega (arith, le)) (omega (arith, lt))))

pub sums_same : (f g : ℕ → ℕ) (a n : ℕ) → ((k : ℕ) → a ≤ k → k < a + n → f k ≡ g k)
    → sum_by f (range_with_len a n) ≡ sum_by g (range_with_len a n)
sums_same f g a zero h = refl
sums_same f g a (suc n) h =
    sum_by-cons f a (range_with_len (a + 1) n)
    ∙ ap₂ (λ (x y : ℕ). x + y) (h a (omega arith) (omega arith))
    (sums_same f g (a + 1) n (λ k le lt. h k (omega (arith, le)) (omega (arith, lt))))
    ∙ sym (sum_by-cons g a (range_with_len (a + 1) n))

pub alls_same : (f g : ℕ → Bool) (a n : ℕ) → ((k : ℕ) → a ≤ k → k < a + n → f k ≡ g k)
    → list_all f (range_with_len a n) ≡ list_all g (range_with_len a n)
alls_same f g a zero h = refl
alls_same f g a (suc n) h =
    ap₂ (λ (x y : Bool). x && y) (h a (omega arith) (omega arith))
    (alls_same f g (a + 1) n (λ k le lt. h k (omega (arith, le)) (omega (arith, lt))))

pub one_listed : (xs : List ℕ) → length xs ≡ 1 → xs ≡ slice_index xs 0 ∷ []
one_listed [] e = absurd (omega (arith, e))
one_listed (x ∷ []) e = refl
one_listed (x ∷ y ∷ xs) e = absurd (omega (arith, e))
