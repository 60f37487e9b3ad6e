-- Walks from chunk to chunk.
use Rattle.std.proofs.Common.{◌≡◌, ◌≢◌, ℕ, zero, suc, ◌+◌, ◌-◌, ◌<◌, ◌≤◌, true, false, eqb, List, [], ◌∷◌, ◌++◌}
use Rattle.std.proofs.Common.{length, take, drop, get_or, set, refl, ap, sym, ◌∙◌, arith, length-set}
use Rattle.std.proofs.lemmas.List.{get_or-set_other, take-append-drop}
use Rattle.std.proofs.lemmas.Bool.{eqb-false, eq-eqb}
use Rattle.terms.proofs.CaseLemmas.{bool_cases}
use Rattle.linked_pool.specs.Chains.{walk, last_on, chains_of, count, occurs, total, moved}

pub length-walk : (next : List ℕ) (n first : ℕ) → length (walk next n first) ≡ n
length-walk next zero first = refl
length-walk next (suc n) first = ap suc (length-walk next n (get_or next first 0))

pub walk_split : (next : List ℕ) (n m first : ℕ) → walk next (n + m) first ≡ walk next n first
    ++ walk next m (last_on next n first)
walk_split next zero m first = let e : 0 + m ≡ m = omega arith in ap (λ (k : ℕ). walk next k first) e
walk_split next (suc n) m first = let e : suc n + m ≡ suc (n + m) = omega arith in
    rw e (ap (λ (ys : List ℕ). first ∷ ys) (walk_split next n m (get_or next first 0)))

pub last_on_more : (next : List ℕ) (n first : ℕ) → last_on next (suc n) first ≡ get_or next (last_on next n first) 0
last_on_more next zero first = refl
last_on_more next (suc n) first = last_on_more next n (get_or next first 0)

pub last_on_split : (next : List ℕ) (n m first : ℕ) → last_on next (n + m) first ≡ last_on next m (last_on next n first)
last_on_split next zero m first = let e : 0 + m ≡ m = omega arith in ap (λ (k : ℕ). last_on next k first) e
last_on_split next (suc n) m first = let e : suc n + m ≡ suc (n + m) = omega arith in
    rw e (last_on_split next n m (get_or next first 0))

pub count-append : (x : ℕ) (xs ys : List ℕ) → count x (xs ++ ys) ≡ count x xs + count x ys
count-append x [] ys = omega arith
count-append x (y ∷ xs) ys = omega (arith, count-append x xs ys)

pub eqb_same : (x : ℕ) → eqb x x ≡ true
eqb_same x = eq-eqb x x refl

pub eqb_other : (x y : ℕ) → eqb x y ≡ false → x ≢ y
eqb_other x y e = eqb-false x y e

pub count_one : (x : ℕ) (ys : List ℕ) → count x (x ∷ ys) ≡ 1 + count x ys
count_one x ys = rw (eqb_same x) refl

-- a chunk that a list doesn't have first
pub not_first : (x y : ℕ) (ys : List ℕ) → count x (y ∷ ys) ≡ 0 → (y ≢ x) × (count x ys ≡ 0)
not_first x y ys h = grind (arith, bool_cases, eqb, eqb_other)

-- a write to a chunk that isn't passed
pub walk-set : (next : List ℕ) (t v n first : ℕ) → count t (walk next n first) ≡ 0 → walk (set next t v) (suc n) first
    ≡ walk next (suc n) first
walk-set next t v zero first h = refl
walk-set next t v (suc n) first h =
    let (ne, rest) = not_first t first (walk next n (get_or next first 0)) h in
    let e : get_or (set next t v) first 0 ≡ get_or next first 0 = get_or-set_other next t first v 0 ne in
    rw e (ap (λ (ys : List ℕ). first ∷ ys) (walk-set next t v n (get_or next first 0) rest))

pub walk-set_all : (next : List ℕ) (t v n first : ℕ) → count t (walk next n first) ≡ 0 → walk (set next t v) n first
    ≡ walk next n first
walk-set_all next t v zero first h = refl
walk-set_all next t v (suc n) first h =
    let (ne, rest) = not_first t first (walk next n (get_or next first 0)) h in
    let e : get_or (set next t v) first 0 ≡ get_or next first 0 = get_or-set_other next t first v 0 ne in
    rw e (ap (λ (ys : List ℕ). first ∷ ys) (walk-set_all next t v n (get_or next first 0) rest))

pub last_on-set : (next : List ℕ) (t v n first : ℕ) → count t (walk next n first) ≡ 0 → last_on (set next t v) n first
    ≡ last_on next n first
last_on-set next t v zero first h = refl
last_on-set next t v (suc n) first h =
    let (ne, rest) = not_first t first (walk next n (get_or next first 0)) h in
    let e : get_or (set next t v) first 0 ≡ get_or next first 0 = get_or-set_other next t first v 0 ne in
    rw e (last_on-set next t v n (get_or next first 0) rest)

-- a chunk that was passed is in the walk
pub passed : (next : List ℕ) (n i first : ℕ) → i < n → 0 < count (last_on next i first) (walk next n first)
passed next zero i first h = absurd (omega arith)
passed next (suc n) zero first h = let e = count_one first (walk next n (get_or next first 0)) in omega (arith, e)
passed next (suc n) (suc i) first h =
    let k = passed next n i (get_or next first 0) (omega arith) in omega (arith, k)

-- the chain at a place
pub get_or-chains_of : (next heads sizes : List ℕ) (i : ℕ) → length heads ≡ length sizes → i < length sizes →
    get_or (chains_of next heads sizes) i [] ≡ walk next (get_or sizes i 0) (get_or heads i 0)
get_or-chains_of next [] [] i e h = absurd (omega arith)
get_or-chains_of next [] (s ∷ sizes) i e h = absurd (omega arith)
get_or-chains_of next (x ∷ heads) [] i e h = absurd (omega arith)
get_or-chains_of next (x ∷ heads) (s ∷ sizes) zero e h = refl
get_or-chains_of next (x ∷ heads) (s ∷ sizes) (suc i) e h = get_or-chains_of next heads sizes i (omega (arith, e))
    (omega arith)

pub length-chains_of : (next heads sizes : List ℕ) → length heads ≡ length sizes → length (chains_of next heads sizes)
    ≡ length sizes
length-chains_of next [] [] e = refl
length-chains_of next [] (s ∷ sizes) e = absurd (omega arith)
length-chains_of next (x ∷ heads) [] e = absurd (omega arith)
length-chains_of next (x ∷ heads) (s ∷ sizes) e = ap suc (length-chains_of next heads sizes (omega (arith, e)))

pub chains-set : (next heads sizes : List ℕ) (i h s : ℕ) → chains_of next (set heads i h) (set sizes i s)
    ≡ set (chains_of next heads sizes) i (walk next s h)
chains-set next [] [] i h s = refl
chains-set next [] (y ∷ sizes) i h s = refl
chains-set next (x ∷ heads) [] zero h s = refl
chains-set next (x ∷ heads) [] (suc i) h s = refl
chains-set next (x ∷ heads) (y ∷ sizes) zero h s = refl
chains-set next (x ∷ heads) (y ∷ sizes) (suc i) h s =
    ap (λ (cs : List (List ℕ)). walk next y x ∷ cs) (chains-set next heads sizes i h s)

-- a chunk's occurrences by chain
pub occurs-at : (x : ℕ) (cs : List (List ℕ)) (i : ℕ) → i < length cs → count x (get_or cs i []) ≤ occurs x cs
occurs-at x [] i h = absurd (omega arith)
occurs-at x (c ∷ cs) zero h = omega arith
occurs-at x (c ∷ cs) (suc i) h = let k = occurs-at x cs i (omega arith) in omega (arith, k)

pub occurs-two : (x : ℕ) (cs : List (List ℕ)) (i j : ℕ) → i < length cs → j < length cs → i ≢ j
    → count x (get_or cs i []) + count x (get_or cs j []) ≤ occurs x cs
occurs-two x [] i j h k n = absurd (omega arith)
occurs-two x (c ∷ cs) zero zero h k n = absurd (n refl)
occurs-two x (c ∷ cs) zero (suc j) h k n = let m = occurs-at x cs j (omega arith) in omega (arith, m)
occurs-two x (c ∷ cs) (suc i) zero h k n = let m = occurs-at x cs i (omega arith) in omega (arith, m)
occurs-two x (c ∷ cs) (suc i) (suc j) h k n = let m = occurs-two x cs i j (omega arith) (omega arith)
    (λ e. n (ap suc e)) in
    omega (arith, m)

pub occurs-set : (x : ℕ) (cs : List (List ℕ)) (i : ℕ) (c : List ℕ) → i < length cs
    → occurs x (set cs i c) + count x (get_or cs i []) ≡ occurs x cs + count x c
occurs-set x [] i c h = absurd (omega arith)
occurs-set x (d ∷ cs) zero c h = omega arith
occurs-set x (d ∷ cs) (suc i) c h = let m = occurs-set x cs i c (omega arith) in omega (arith, m)

pub total-set : (ns : List ℕ) (i n : ℕ) → i < length ns → total (set ns i n) + get_or ns i 0 ≡ total ns + n
total-set [] i n h = absurd (omega arith)
total-set (m ∷ ns) zero n h = omega arith
total-set (m ∷ ns) (suc i) n h = let k = total-set ns i n (omega arith) in omega (arith, k)

pub total-at : (ns : List ℕ) (i : ℕ) → i < length ns → get_or ns i 0 ≤ total ns
total-at [] i h = absurd (omega arith)
total-at (m ∷ ns) zero h = omega arith
total-at (m ∷ ns) (suc i) h = let k = total-at ns i (omega arith) in omega (arith, k)

pub total-two : (ns : List ℕ) (i j : ℕ) → i < length ns → j < length ns → i ≢ j
    → get_or ns i 0 + get_or ns j 0 ≤ total ns
total-two [] i j h k n = absurd (omega arith)
total-two (m ∷ ns) zero zero h k n = absurd (n refl)
total-two (m ∷ ns) zero (suc j) h k n = let x = total-at ns j (omega arith) in omega (arith, x)
total-two (m ∷ ns) (suc i) zero h k n = let x = total-at ns i (omega arith) in omega (arith, x)
total-two (m ∷ ns) (suc i) (suc j) h k n = let x = total-two ns i j (omega arith) (omega arith) (λ e. n (ap suc e)) in
    omega (arith, x)

-- a move changes no chunk's occurrences
pub occurs-moved : (x : ℕ) (cs : List (List ℕ)) (a b n : ℕ) → a < length cs → b < length cs → a ≢ b
    → occurs x (moved cs a b n)
    ≡ occurs x cs
occurs-moved x cs a b n ha hb ne =
    let c : List ℕ = get_or cs a [] in
    let d : List ℕ = get_or cs b [] in
    let first = occurs-set x cs a (drop n c) ha in
    let long : b < length (set cs a (drop n c)) = rw (length-set cs a (drop n c)) hb in
    let second = occurs-set x (set cs a (drop n c)) b (d ++ take n c) long in
    let kept : get_or (set cs a (drop n c)) b [] ≡ d = get_or-set_other cs a b (drop n c) [] (λ e. ne (sym e)) in
    let third : occurs x (moved cs a b n) + count x d ≡ occurs x (set cs a (drop n c)) + count x (d ++ take n c) =
    rw kept at second in
    let joined = count-append x d (take n c) in
    let parts : count x (take n c) + count x (drop n c) ≡ count x c = sym (count-append x (take n c) (drop n c))
    ∙ ap (count x) (take-append-drop n c) in
    omega (arith, first, third, joined, parts)

pub count_prefix : (x : ℕ) (next : List ℕ) (m n first : ℕ) → m ≤ n → count x (walk next m first) ≤ count
    x (walk next n first)
count_prefix x next m n first h =
    let e : m + (n - m) ≡ n = omega arith in
    let split = walk_split next m (n - m) first in
    let whole : walk next n first ≡ walk next m first ++ walk next (n - m) (last_on next m first) =
    ap (λ (k : ℕ). walk next k first) (sym e) ∙ split in
    let sum = count-append x (walk next m first) (walk next (n - m) (last_on next m first)) in
    rw whole (omega (arith, sum))

pub count_suffix : (x : ℕ) (next : List ℕ) (m n first : ℕ) → count x (walk next n (last_on next m first))
    ≤ count x (walk next (m + n) first)
count_suffix x next m n first = grind (arith, count-append, walk_split)

-- a write that no walk passes before its end
pub chains_kept : (next : List ℕ) (t v : ℕ) (heads sizes : List ℕ) → length heads ≡ length sizes →
    ((i : ℕ) → i < length sizes → count t (walk next (get_or sizes i 0 - 1) (get_or heads i 0)) ≡ 0)
    → chains_of (set next t v) heads sizes ≡ chains_of next heads sizes
chains_kept next t v [] sizes e h = refl
chains_kept next t v (x ∷ heads) [] e h = refl
chains_kept next t v (x ∷ heads) (zero ∷ sizes) e h =
    ap (λ (cs : List (List ℕ)). [] ∷ cs) (chains_kept next t v heads sizes (omega (arith, e))
    (λ i lt. h (suc i) (omega arith)))
chains_kept next t v (x ∷ heads) (suc s ∷ sizes) e h =
    let less : suc s - 1 ≡ s = omega arith in
    let here : count t (walk next s x) ≡ 0 = rw less at (h 0 (omega arith)) in
    rw (walk-set next t v s x here)
    (ap (λ (cs : List (List ℕ)). walk next (suc s) x ∷ cs)
    (chains_kept next t v heads sizes (omega (arith, e)) (λ i lt. h (suc i) (omega arith))))
