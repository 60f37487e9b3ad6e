-- The chains at the start.
use Rattle.std.proofs.Common.{◌≡◌, ℕ, zero, suc, ◌+◌, ◌-◌, ◌^◌, ◌<◌, ◌≤◌, false, eqb, List, [], ◌∷◌, ◌++◌, length}
use Rattle.std.proofs.Common.{get_or, set}
use Rattle.std.proofs.Common.{replicate, refl, ap, sym, ◌∙◌, subst, arith, length-set}
use Rattle.std.proofs.lemmas.List.{get_or-replicate, length-replicate}
use Rattle.std.proofs.lemmas.Bool.{eqb-true, ne_eqb}
use Rattle.linked_pool.specs.Chains.{walk, last_on, chains_of, count, occurs, total, rising, opened, IsSound}
use Rattle.linked_pool.specs.Blocks.{lists_of, all_of, IsPool, view_of}
use Rattle.terms.proofs.CaseLemmas.{bool_cases}

pub rising_more : (n s : ℕ) → rising (n + 1) s ≡ rising n s ++ (s + n) ∷ []
rising_more zero s = let d : s ≡ s + 0 = omega arith in ap (λ (x : ℕ). x ∷ []) d
rising_more (suc n) s =
    let e : suc n + 1 ≡ suc (n + 1) = omega arith in
    let d : s + 1 + n ≡ s + suc n = omega arith in
    rw e (ap (λ (xs : List ℕ). s ∷ xs) (rising_more n (s + 1) ∙ ap (λ (x : ℕ). rising n (s + 1) ++ x ∷ []) d))

pub length-rising : (n s : ℕ) → length (rising n s) ≡ n
length-rising zero s = refl
length-rising (suc n) s = ap suc (length-rising n (s + 1))

get_or-rising : (n s i : ℕ) → i < n → get_or (rising n s) i 0 ≡ s + i
get_or-rising zero s i h = absurd (omega arith)
get_or-rising (suc n) s zero h = omega arith
get_or-rising (suc n) s (suc i) h = get_or-rising n (s + 1) i (omega arith) ∙ omega arith

walk-rising : (n m f : ℕ) → f + m ≤ n → walk (rising n 1) m f ≡ rising m f
walk-rising n zero f h = refl
walk-rising n (suc m) f h =
    let e : get_or (rising n 1) f 0 ≡ f + 1 = get_or-rising n 1 f (omega arith) ∙ omega arith in
    rw e (ap (λ (xs : List ℕ). f ∷ xs) (walk-rising n m (f + 1) (omega arith)))

last_on-rising : (n m f : ℕ) → f + m ≤ n → last_on (rising n 1) m f ≡ f + m
last_on-rising n zero f h = omega arith
last_on-rising n (suc m) f h =
    let e : get_or (rising n 1) f 0 ≡ f + 1 = get_or-rising n 1 f (omega arith) ∙ omega arith in
    rw e (last_on-rising n m (f + 1) (omega arith) ∙ omega arith)

below_none : (x n s : ℕ) → x < s → count x (rising n s) ≡ 0
below_none x zero s h = refl
below_none x (suc n) s h =
    let e : eqb x s ≡ false = ne_eqb x s (λ z. omega (arith, z)) in let k = below_none x n (s + 1) (omega arith) in
    rw e (omega (arith, k))

pub above_none : (x n s : ℕ) → s + n ≤ x → count x (rising n s) ≡ 0
above_none x zero s h = refl
above_none x (suc n) s h =
    let e : eqb x s ≡ false = ne_eqb x s (λ z. omega (arith, z)) in let k = above_none x n (s + 1) (omega arith) in
    rw e (omega (arith, k))

pub once : (x n s : ℕ) → count x (rising n s) ≤ 1
once x zero s = omega arith
once x (suc n) s =
    bool_cases (eqb x s)
    (λ e. let same = eqb-true x s e in let none = below_none x n (s + 1) (omega (arith, same)) in rw
    e (omega (arith, none)))
    (λ e. let k = once x n (s + 1) in rw e (omega (arith, k)))

chains-zeros : (next : List ℕ) (n : ℕ) → chains_of next (replicate n 0) (replicate n 0) ≡ replicate n []
chains-zeros next zero = refl
chains-zeros next (suc n) = ap (λ (cs : List (List ℕ)). [] ∷ cs) (chains-zeros next n)

occurs-zeros : (x n : ℕ) → occurs x (replicate n []) ≡ 0
occurs-zeros x zero = refl
occurs-zeros x (suc n) = omega (arith, occurs-zeros x n)

total-zeros : (n : ℕ) → total (replicate n 0) ≡ 0
total-zeros zero = refl
total-zeros (suc n) = omega (arith, total-zeros n)

pub opened_chains : (n lists : ℕ) → chains_of (rising n 1) (replicate (lists + 1) 0) (set (replicate (lists + 1) 0) 0 n)
    ≡ opened n lists
opened_chains n lists = grind (arith, walk-rising, chains-zeros)

pub zero_at : (n i : ℕ) → get_or {A = ℕ} (replicate n 0) i 0 ≡ 0
zero_at zero i = refl
zero_at (suc n) zero = refl
zero_at (suc n) (suc i) = zero_at n i

ends_of : (n lists : ℕ) (tails : List ℕ) → (0 < n → get_or tails 0 0 ≡ n - 1) →
    (i : ℕ) → i < length (set (replicate (suc lists) 0) 0 n) → 0 < get_or (set (replicate (suc lists) 0) 0 n) i 0
    → get_or tails i 0 ≡ last_on (rising n 1) (get_or (set (replicate (suc lists) 0) 0 n) i 0 - 1)
    (get_or (replicate (suc lists) 0) i 0)
ends_of n lists tails last zero h some = last some ∙ sym (last_on-rising n (n - 1) 0 (omega arith) ∙ omega arith)
ends_of n lists tails last (suc i) h some = let z = zero_at lists i in absurd (omega (arith, z, some))

pub opened_sound : (n lists : ℕ) (tails : List ℕ) → n < 2 ^ 32 → length tails ≡ lists + 1
    → (0 < n → get_or tails 0 0 ≡ n - 1)
    → IsSound (rising n 1) (replicate (lists + 1) 0) tails (set (replicate (lists + 1) 0) 0 n)
opened_sound n lists tails few long last =
    grind (
      arith,
      opened_chains,
      replicate,
      length-set,
      length-replicate,
      occurs-zeros,
      ends_of,
      length-rising,
      total-zeros,
      once,
      above_none,
    )

pub opened_both : (n lists : ℕ) (next heads tails sizes : List ℕ) → n < 2 ^ 32 → next ≡ rising n 1
    → heads ≡ replicate (lists + 1) 0 → tails ≡ set (replicate (lists + 1) 0) 0 (n - 1)
    → sizes ≡ replicate (lists + 1) 0 →
    IsSound next heads tails (set sizes 0 n) × (chains_of next heads (set sizes 0 n) ≡ opened n lists)
opened_both n lists next heads tails sizes few a b c d =
    let e : suc lists ≡ lists + 1 = omega arith in
    let long : length tails ≡ lists + 1 = ap length c ∙ length-set (replicate (lists + 1) 0) 0 (n - 1)
    ∙ length-replicate (lists + 1) 0 in
    let first : get_or (set (replicate (suc lists) 0) 0 (n - 1)) 0 0 ≡ n - 1 = refl in
    let last : get_or tails 0 0 ≡ n - 1 = ap (λ (xs : List ℕ). get_or xs 0 0) c
    ∙ subst (λ (m : ℕ). get_or (set (replicate m 0) 0 (n - 1)) 0 0 ≡ n - 1) e first in
    rw (a, b, d) (opened_sound n lists tails few long (λ z. last), opened_chains n lists)

lists-blank : (chunks : List (List ℕ)) (lens : List ℕ) (n : ℕ) → lists_of chunks lens (replicate n 0) (replicate n [])
    ≡ replicate n []
lists-blank chunks lens zero = refl
lists-blank chunks lens (suc n) = ap (λ (xs : List (List (List ℕ))). [] ∷ xs) (lists-blank chunks lens n)

all-blank : (n : ℕ) → all_of (replicate n []) ≡ 0
all-blank zero = refl
all-blank (suc n) = omega (arith, all-blank n)

blank_at : (n i : ℕ) → get_or {A = List ℕ} (replicate n []) i [] ≡ []
blank_at zero i = refl
blank_at (suc n) zero = refl
blank_at (suc n) (suc i) = blank_at n i

-- a pool at the start
pub blank_pool : (n lists : ℕ) (chains chunks : List (List ℕ)) (lens counts : List ℕ) → n < 2 ^ 32
    → chains ≡ opened n lists
    → chunks ≡ replicate n (replicate 256 0) → lens ≡ replicate n 0 → counts ≡ replicate lists 0 →
    IsPool chains chunks lens counts × ((view_of chains chunks lens counts).lists ≡ replicate lists [])
    × ((view_of chains chunks lens counts).spare ≡ n) × ((view_of chains chunks lens counts).opened ≡ n)
blank_pool n lists chains chunks lens counts hn a b c d =
    grind (
      arith,
      replicate,
      length-replicate,
      occurs-zeros,
      once,
      above_none,
      all-blank,
      length-rising,
      zero_at,
      blank_at,
      get_or-replicate,
      lists-blank,
    )
