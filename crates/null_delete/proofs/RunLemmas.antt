-- Runs of slots that end directly before a slot.
use Rattle.std.proofs.Common.{◌≡◌, ℕ, zero, suc, ◌+◌, ◌%◌, ◌<◌, ◌==◌, Bool, true, false, cond, List, [], ◌∷◌, length}
use Rattle.std.proofs.Common.{take}
use Rattle.std.proofs.Common.{⊎_elim, ◌≢◌, refl, ap, sym, subst, ◌∙◌, arith, add-one}
use Rattle.std.specs.Prelude.{not, ◌||◌, take_while, reverse}
use Rattle.std.specs.List.{range_with_len, prefix_len}
use Rattle.std.proofs.lemmas.Bool.{eq-eqb, ne_eqb, cases_eq}
use Rattle.std.proofs.lemmas.List.{reverse-append}
use Rattle.null_delete.specs.Deletion.{run_before, is_kept, dnp}
use Rattle.terms.proofs.RangeLemmas.{places_more}

-- the first element stays if it passes
take_while_more : (passes : ℕ → Bool) (x : ℕ) (xs : List ℕ) → take_while passes (x ∷ xs)
    ≡ cond (passes x) (x ∷ take_while passes xs) []
take_while_more passes x xs =
    let e : 1 + prefix_len passes xs ≡ suc (prefix_len passes xs) = omega arith in
    elim (passes x) as (λ b. take (cond b (1 + prefix_len passes xs) 0) (x ∷ xs) ≡ cond b
    (x ∷ take_while passes xs) []) [
      | true ↦ ap (λ (n : ℕ). take n (x ∷ xs)) e
      | false ↦ refl
    ]

-- the run before the next slot
run_more : (passes : ℕ → Bool) (k : ℕ) → run_before passes (k + 1) ≡ cond (passes k) (k ∷ run_before passes k) []
unfolding run_before
run_more passes k =
    ap (λ (xs : List ℕ). take_while passes (reverse xs)) (places_more k)
    ∙ ap (take_while passes) (reverse-append (range_with_len 0 k) (k ∷ []))
    ∙ take_while_more passes k (reverse (range_with_len 0 k))

-- a run goes on if its last slot passes
pub length-run_more : (passes : ℕ → Bool) (k : ℕ) → length (run_before passes (k + 1))
    ≡ cond (passes k) (length (run_before passes k) + 1) 0
length-run_more passes k =
    ap length (run_more passes k)
    ∙ elim (passes k) as (λ b. length (cond b (k ∷ run_before passes k) []) ≡ cond b (length (run_before passes k) + 1)
    0)
    [ true ↦ omega arith | false ↦ refl ]

-- no slot stands before slot 0
pub run_none : (passes : ℕ → Bool) → length (run_before passes 0) ≡ 0
unfolding run_before
run_none passes = refl

-- the same below n
abbrev pub Same : (ℕ → Bool) → (ℕ → Bool) → ℕ → Type 0
Same f g n = (j : ℕ) → j < n → f j ≡ g j

-- A run follows from the slots before its end.
pub run_same : (f g : ℕ → Bool) (n : ℕ) → Same f g n → length (run_before f n) ≡ length (run_before g n)
run_same f g zero same = run_none f ∙ sym (run_none g)
run_same f g (suc n) same =
    let before : length (run_before f n) ≡ length (run_before g n) = run_same f g n (λ j h. same j (omega arith)) in
    let here : f n ≡ g n = same n (omega arith) in
    let step : cond (f n) (length (run_before f n) + 1) 0 ≡ cond (g n) (length (run_before g n) + 1)
    0 = rw (before, here) refl in
    subst (λ (m : ℕ). length (run_before f m) ≡ length (run_before g m)) (add-one n)
    (length-run_more f n ∙ step ∙ sym (length-run_more g n))

-- What is kept below n follows from what is null below n.
pub kept_same : (deletes : Bool) (f g : ℕ → Bool) (n : ℕ) → Same f g n → Same (is_kept deletes f) (is_kept deletes g) n
kept_same false f g n same = λ j h. refl
kept_same true f g n same = λ j h.
    let before = run_same f g j (λ i lt. same i (omega arith)) in
    let here : f j ≡ g j = same j h in
    rw (before, here) refl

-- So does a dnp.
pub dnp_same : (deletes : Bool) (f g : ℕ → Bool) (n : ℕ) → Same f g n
    → dnp (is_kept deletes f) n ≡ dnp (is_kept deletes g) n
dnp_same deletes f g n same = run_same _ _ n (λ j h. ap not (kept_same deletes f g n same j h))

-- one slot more behind the last kept one
pub dnp_more : (keeps : ℕ → Bool) (k : ℕ) → dnp keeps (k + 1) ≡ cond (keeps k) 0 (dnp keeps k + 1)
dnp_more keeps k =
    length-run_more (λ j. not (keeps j)) k
    ∙ elim (keeps k) as (λ b. cond (not b) (dnp keeps k + 1) 0 ≡ cond b 0 (dnp keeps k + 1))
    [ true ↦ refl | false ↦ refl ]

-- the run of nulls and the run of deleted slots, one slot on
counted : (null : Bool) (nulls deleted : ℕ) → deleted ≡ nulls % 256
    → cond (not null || (nulls % 256 == 255)) 0 (deleted + 1)
    ≡ (cond null (nulls + 1) 0) % 256
counted false nulls deleted h = refl
counted true nulls deleted h =
    ⊎_elim (λ (e : nulls % 256 ≡ 255). rw (eq-eqb (nulls % 256) 255 e) (omega arith))
    (λ (ne : nulls % 256 ≢ 255). rw (ne_eqb (nulls % 256) 255 ne) (omega arith)) (cases_eq (nulls % 256) 255)

-- A dnp is the length of the run of null packets modulo 256.
pub dnp_is_run : (nulls : ℕ → Bool) (k : ℕ) → dnp (is_kept true nulls) k ≡ length (run_before nulls k) % 256
dnp_is_run nulls zero = run_none _ ∙ sym (ap (λ (n : ℕ). n % 256) (run_none nulls))
dnp_is_run nulls (suc k) =
    let before : dnp (is_kept true nulls) k ≡ length (run_before nulls k) % 256 = dnp_is_run nulls k in
    subst (λ (m : ℕ). dnp (is_kept true nulls) m ≡ length (run_before nulls m) % 256) (add-one k)
    (dnp_more (is_kept true nulls) k ∙ counted (nulls k) (length (run_before nulls k)) (dnp (is_kept true nulls) k)
    before
    ∙ sym (ap (λ (n : ℕ). n % 256) (length-run_more nulls k)))

-- with deletion off nothing is deleted
pub dnp_off : (nulls : ℕ → Bool) (k : ℕ) → dnp (is_kept false nulls) k ≡ 0
dnp_off nulls zero = run_none _
dnp_off nulls (suc k) = subst (λ (m : ℕ). dnp (is_kept false nulls) m ≡ 0) (add-one k)
    (dnp_more (is_kept false nulls) k)

-- Whether a slot is kept follows from its dnp.
pub kept_by_dnp : (deletes : Bool) (nulls : ℕ → Bool) (k : ℕ) → is_kept deletes nulls k
    ≡ cond deletes (not (nulls k) || (dnp (is_kept deletes nulls) k == 255)) true
kept_by_dnp false nulls k = refl
kept_by_dnp true nulls k = rw (dnp_is_run nulls k) refl
