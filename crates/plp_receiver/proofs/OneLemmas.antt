-- Strings that begin a user packet with their first byte and no other.
use Rattle.std.proofs.Common.{◌≡◌, ◌≤◌, ◌&&◌, Bool, true, false, List, [], ◌∷◌, ◌++◌, length, refl, ap, ap₂, ◌∙◌, sym}
use Rattle.std.proofs.Common.{arith}
use Rattle.std.proofs.lemmas.Bool.{and_parts, both_ways, false_from_ne_true}
use Rattle.plp_receiver.specs.Strings.{Item, is_start, is_inside}
use Rattle.plp_receiver.specs.Packets.{all_inside, is_one}

all_front : (xs ys : List Item) → all_inside (xs ++ ys) ≡ true → all_inside xs ≡ true
all_front [] ys h = refl
all_front (x ∷ xs) ys h =
    let p = and_parts (is_inside x.mark) (all_inside (xs ++ ys)) h in
    ap₂ (λ (a b : Bool). a && b) p.0 (all_front xs ys p.1)

all_push : (xs : List Item) (x : Item) → all_inside xs ≡ true → is_inside x.mark ≡ true
    → all_inside (xs ++ x ∷ []) ≡ true
all_push [] x h e = ap (λ (a : Bool). a && true) e
all_push (y ∷ xs) x h e =
    let p = and_parts (is_inside y.mark) (all_inside xs) h in
    ap₂ (λ (a b : Bool). a && b) p.0 (all_push xs x p.1 e)

-- one that is cut by a start or a gap
all_cut : (xs : List Item) (x : Item) (ys : List Item) → is_inside x.mark ≡ false → all_inside (xs ++ x ∷ ys) ≡ true
    → true ≡ false
all_cut [] x ys e h = sym (and_parts (is_inside x.mark) (all_inside ys) h).0 ∙ e
all_cut (y ∷ xs) x ys e h = all_cut xs x ys e (and_parts (is_inside y.mark) (all_inside (xs ++ x ∷ ys)) h).1

pub one_parts : (x : Item) (xs : List Item) → is_one (x ∷ xs) ≡ true → (is_start x.mark ≡ true) × (all_inside xs ≡ true)
unfolding is_one
one_parts x xs h = and_parts (is_start x.mark) (all_inside xs) h

pub one_from : (x : Item) (xs : List Item) → is_start x.mark ≡ true → all_inside xs ≡ true → is_one (x ∷ xs) ≡ true
unfolding is_one
one_from x xs h e = ap₂ (λ (a b : Bool). a && b) h e

-- what is none stays none
pub none_on : (xs ys : List Item) → 1 ≤ length xs → is_one xs ≡ false → is_one (xs ++ ys) ≡ false
none_on [] ys l h = absurd (omega arith)
none_on (x ∷ xs) ys l h =
    false_from_ne_true _ (λ (t : is_one (x ∷ (xs ++ ys)) ≡ true).
    let p = one_parts x (xs ++ ys) t in both_ways _ h (one_from x xs p.0 (all_front xs ys p.1)))

-- a start or a gap behind the first byte
pub none_cut : (xs : List Item) (x : Item) (ys : List Item) → 1 ≤ length xs → is_inside x.mark ≡ false
    → is_one (xs ++ x ∷ ys)
    ≡ false
none_cut [] x ys l e = absurd (omega arith)
none_cut (y ∷ xs) x ys l e =
    false_from_ne_true _ (λ (t : is_one (y ∷ (xs ++ x ∷ ys)) ≡ true).
    both_ways true (all_cut xs x ys e (one_parts y (xs ++ x ∷ ys) t).1) refl)

pub one_on : (xs : List Item) (x : Item) → is_one xs ≡ true → is_inside x.mark ≡ true → is_one (xs ++ x ∷ []) ≡ true
unfolding is_one
one_on [] x h e = absurd (both_ways _ refl h)
one_on (y ∷ xs) x h e = let p = one_parts y xs h in one_from y (xs ++ x ∷ []) p.0 (all_push xs x p.1 e)

pub none_alone : (x : Item) (xs : List Item) → is_start x.mark ≡ false → is_one (x ∷ xs) ≡ false
none_alone x xs e = false_from_ne_true _ (λ (t : is_one (x ∷ xs) ≡ true). both_ways _ e (one_parts x xs t).0)

pub one_alone : (x : Item) → is_start x.mark ≡ true → is_one (x ∷ []) ≡ true
unfolding is_one
one_alone x h = ap (λ (a : Bool). a && true) h
