-- In which element of a list a byte stands, if each has bytes.
use Rattle.std.proofs.Common.{◌≡◌, ℕ, suc, ◌+◌, ◌-◌, ◌<◌, ◌≤◌, Bool, List, [], ◌∷◌, ◌++◌, length, refl, ap, sym, ◌∙◌}
use Rattle.std.proofs.Common.{arith, length-append, lt-ltb, le-ltb}
use Rattle.std.specs.Prelude.{nat_lt, if◌then◌else◌, flat_map}
use Rattle.plp_config.specs.declared.config.Config.{Config}
use Rattle.frame_groups.specs.Modulated.{FrameRecord}
use Rattle.frame_groups.specs.declared.waiting.Waiting.{Waiting}
use Rattle.open_group.specs.Written.{spelled}
use Rattle.modulator.specs.StandsFor.{WaitsAs, records_due}

-- how many elements end before a byte, or with it
abbrev pub place : {X : Type 0} → (X → List ℕ) → List X → ℕ → ℕ
place f [] n = 0
place f (x ∷ xs) n = if nat_lt n (length (f x)) then 0 else suc (place f xs (n - length (f x)))

abbrev pub AllSome : {X : Type 0} → (X → List ℕ) → Type 0
AllSome {X} f = (x : X) → 0 < length (f x)

place_zero : {X : Type 0} (f : X → List ℕ) (xs : List X) → AllSome f → place f xs 0 ≡ 0
place_zero f [] some = refl
place_zero f (x ∷ xs) some = rw (lt-ltb 0 (length (f x)) (some x)) refl

-- behind a front of the list
pub place_front : {X : Type 0} (f : X → List ℕ) (xs ys : List X) (n : ℕ)
    → place f (xs ++ ys) (length (flat_map f xs) + n)
    ≡ length xs + place f ys n
place_front f [] ys n = let e : 0 + n ≡ n = omega arith in let z : 0 + place f ys n ≡ place f ys n = omega arith in
    ap (place f ys) e ∙ sym z
place_front f (x ∷ xs) ys n =
    let size = length-append (f x) (flat_map f xs) in
    let past : length (f x) ≤ length (flat_map f (x ∷ xs)) + n = omega (arith, size) in
    let left : length (flat_map f (x ∷ xs)) + n - length (f x) ≡ length (flat_map f xs) + n = omega (arith, size) in
    let rest : place f (xs ++ ys) (length (flat_map f (x ∷ xs)) + n - length (f x)) ≡ length xs + place f ys n =
    ap (place f (xs ++ ys)) left ∙ place_front f xs ys n in
    rw (le-ltb (length (flat_map f (x ∷ xs)) + n) (length (f x)) past) (omega (arith, rest))

-- within the element that comes next
pub place_within : {X : Type 0} (f : X → List ℕ) (before : List X) (next : X) (after : List X) (n : ℕ)
    → n < length (f next)
    → place f (before ++ next ∷ after) (length (flat_map f before) + n) ≡ length before
place_within f before next after n less =
    let here : place f (next ∷ after) n ≡ 0 = rw (lt-ltb n (length (f next)) less) refl in
    place_front f before (next ∷ after) n ∙ ap (λ (k : ℕ). length before + k) here ∙ omega arith

-- at its end
pub place_end : {X : Type 0} (f : X → List ℕ) (before : List X) (next : X) (after : List X) → AllSome f
    → place f (before ++ next ∷ after) (length (flat_map f before) + length (f next)) ≡ length before + 1
place_end f before next after some =
    let none : length (f next) - length (f next) ≡ 0 = omega arith in
    let here : place f (next ∷ after) (length (f next)) ≡ 1 =
    rw (le-ltb (length (f next)) (length (f next)) (omega arith)) (ap suc (ap (place f after) none
    ∙ place_zero f after some)) in
    place_front f before (next ∷ after) (length (f next)) ∙ ap (λ (k : ℕ). length before + k) here

-- at the end of all
pub place_all : {X : Type 0} (f : X → List ℕ) (xs ys : List X) → AllSome f → place f (xs ++ ys) (length (flat_map f xs))
    ≡ length xs
place_all f xs ys some =
    let e : length (flat_map f xs) ≡ length (flat_map f xs) + 0 = omega arith in
    ap (place f (xs ++ ys)) e ∙ place_front f xs ys 0 ∙ ap (λ (k : ℕ). length xs + k) (place_zero f ys some)
    ∙ omega arith

-- nothing has no bytes but no element
pub none_left : {X : Type 0} (f : X → List ℕ) (xs : List X) → AllSome f → length (flat_map f xs) ≡ 0 → xs ≡ []
none_left f [] some e = refl
none_left f (x ∷ xs) some e = absurd (omega (arith, e, length-append (f x) (flat_map f xs), some x))

-- a list is cut in one way
pub record SameCut {X : Type 0} (before before' : List X) (next next' : X) (after after' : List X) : Type 0 where
  pub same_before : before' ≡ before
  pub same_next : next' ≡ next
  pub same_after : after' ≡ after

pub same_cut : {X : Type 0} (before before' : List X) (next next' : X) (after after' : List X)
    → length before' ≡ length before
    → before ++ next ∷ after ≡ before' ++ next' ∷ after' → SameCut before before' next next' after after'
same_cut [] [] next next' after after' n e = record { same_before = refl; same_next = cc; same_after = cc }
same_cut [] (y ∷ before') next next' after after' n e = absurd (omega (arith, n))
same_cut (x ∷ before) [] next next' after after' n e = absurd (omega (arith, n))
same_cut (x ∷ before) (y ∷ before') next next' after after' n e =
    let rest : before ++ next ∷ after ≡ before' ++ next' ∷ after' = cc in
    let first : y ≡ x = cc in
    let s = same_cut before before' next next' after after' (omega (arith, n)) rest in
    record { same_before = rw (first, s.same_before) refl; same_next = s.same_next; same_after = s.same_after }

-- two fronts of a list that are as long are the same
pub same_front : {X : Type 0} (xs ys xs' ys' : List X) → length xs' ≡ length xs → xs ++ ys ≡ xs' ++ ys' → xs' ≡ xs
same_front [] ys [] ys' n e = refl
same_front [] ys (x' ∷ xs') ys' n e = absurd (omega (arith, n))
same_front (x ∷ xs) ys [] ys' n e = absurd (omega (arith, n))
same_front (x ∷ xs) ys (x' ∷ xs') ys' n e =
    let rest : xs ++ ys ≡ xs' ++ ys' = cc in
    let first : x' ≡ x = cc in
    rw (first, same_front xs ys xs' ys' (omega (arith, n)) rest) refl

-- the bytes that were taken end in the record that waits, or with it
pub place_of : (c : Config) (finished : Bool) (bytes taken : List ℕ) (w : Waiting)
    (a : WaitsAs c finished bytes taken w)
    → place (spelled c) (records_due c finished bytes) (length taken) ≡ length a.before
place_of c finished bytes taken w a =
    let size : length taken ≡ length (flat_map (spelled c) a.before) + length a.part =
    ap length a.taken_is ∙ length-append (flat_map (spelled c) a.before) a.part in
    let less : length a.part < length (spelled c a.next) =
    let p = ap length a.cut ∙ length-append a.part a.rest in let s = a.some in omega (arith, p, s) in
    ap (λ (xs : List FrameRecord). place (spelled c) xs (length taken)) a.all
    ∙ ap (place (spelled c) (a.before ++ a.next ∷ a.after)) size
    ∙ place_within (spelled c) a.before a.next a.after (length a.part) less
