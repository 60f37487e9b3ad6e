-- Runs of frames, one frame more.
use Rattle.std.proofs.Common.{◌≡◌, ℕ, ◌+◌, ◌==◌, ◌&&◌, Bool, true, false, cond, List, [], ◌∷◌, ◌++◌, length, filter}
use Rattle.std.proofs.Common.{find, Option, Some, None, refl, ap, sym, ◌∙◌, arith, length-append, eqb-true}
use Rattle.std.specs.Prelude.{nat_lt, option_map, option_to_list}
use Rattle.std.specs.Option.{option_or}
use Rattle.std.proofs.lemmas.Bool.{and_parts, ltb-true, ne_eqb}
use Rattle.std.proofs.lemmas.List.Elements.{filter-append}
use Rattle.std.proofs.lemmas.List.Folds.{find-append}
use Rattle.std.proofs.lemmas.Option.{same_Some}
use Rattle.terms.proofs.CaseLemmas.{bool_cases}
use Rattle.terms.proofs.OptionLemmas.{none_some}
use Rattle.compare_run.specs.Comparing.{Answered}
use Rattle.compare_run.specs.Runs.{kind, is_differing, is_same, is_one, single, in_front, runs_of, known, open_run}
use Rattle.compare_run.specs.Runs.{goes_on, longer_by, next_open, told_by, first_differing}
use Rattle.compare_run.specs.Runs.{counts_of, counted, one_if}
use Rattle.compare_run.specs.declared.answer.Answer.{Answer}
use Rattle.compare_run.specs.declared.counts.CompareRan.{CompareRan}
use Rattle.compare_run.specs.declared.answer_run.Run.{Run}

-- ---- two answers that are one

one_kind : (a b : Answer) → is_one a b ≡ true → kind a ≡ kind b
one_kind a b e = eqb-true (kind a) (kind b) (and_parts (kind a == kind b) (nat_lt (kind a) 6) e).0

-- are told with the same others
same_one : (a b z : Answer) → is_one a b ≡ true → is_one a z ≡ is_one b z
same_one a b z e = ap (λ (k : ℕ). (k == kind z) && nat_lt k 6) (one_kind a b e)

-- and do not differ
one_alike : (a b : Answer) → is_one a b ≡ true → is_differing a ≡ false
one_alike a b e =
    let low = ltb-true (kind a) 6 (and_parts (kind a == kind b) (nat_lt (kind a) 6) e).1 in
    ne_eqb (kind a) 6 (λ is. absurd (omega (arith, is, low)))

-- nor does the other
pub other_alike : (a b : Answer) → is_one a b ≡ true → is_differing b ≡ false
other_alike a b e = ap (λ (k : ℕ). k == 6) (sym (one_kind a b e)) ∙ one_alike a b e

-- ---- a frame behind runs

abbrev join : Answered → Run → Bool
join y r = (y.frame + 1 == r.first) && is_one y.answer r.answer

abbrev joined : Answered → Run → Run
joined y r = record { first = y.frame; last = r.last; answer = y.answer }

abbrev push_by : Bool → Run → Answered → List Run
push_by g r x = cond g (longer_by r x ∷ []) (r ∷ single x ∷ [])

push : List Run → Answered → List Run
push [] x = single x ∷ []
push (r ∷ []) x = push_by (goes_on r x) r x
push (r ∷ s ∷ runs) x = r ∷ push (s ∷ runs) x

joined_goes : (y : Answered) (r : Run) (x : Answered) → join y r ≡ true → goes_on (joined y r) x ≡ goes_on r x
joined_goes y r x e =
    ap (λ (b : Bool). (r.last + 1 == x.frame) && b)
    (same_one y.answer r.answer x.answer (and_parts (y.frame + 1 == r.first) (is_one y.answer r.answer) e).1)

front_push : (y : Answered) (runs : List Run) (x : Answered) → in_front y (push runs x) ≡ push (in_front y runs) x
unfolding push
front_push y [] x = refl
front_push y (r ∷ []) x =
    bool_cases (join y r)
    (λ b. let same = joined_goes y r x b in
    bool_cases (goes_on r x) (λ a. rw (a, b, same, a)) (λ a. rw (a, b, same, a)))
    (λ b. bool_cases (goes_on r x) (λ a. rw (a, b, a)) (λ a. rw (a, b, a)))
front_push y (r ∷ s ∷ runs) x = bool_cases (join y r) (λ b. rw b) (λ b. rw b)

runs_push : (xs : List Answered) (x : Answered) → runs_of (xs ++ x ∷ []) ≡ push (runs_of xs) x
unfolding push
runs_push [] x = refl
runs_push (y ∷ xs) x = ap (in_front y) (runs_push xs x) ∙ front_push y (runs_of xs) x

-- ---- which are known to be whole, and which may go on

goes_alike : (r : Run) (x : Answered) → goes_on r x ≡ true → is_differing r.answer ≡ false
goes_alike r x e = one_alike r.answer x.answer (and_parts (r.last + 1 == x.frame) (is_one r.answer x.answer) e).1

abbrev open_by : Bool → Run → Option Run
open_by d r = cond d None (Some r)

known_more : (r s : Run) (runs : List Run) (x : Answered) → known (r ∷ push (s ∷ runs) x) ≡ r ∷ known
    (push (s ∷ runs) x)
unfolding push
known_more r s [] x = bool_cases (goes_on s x) (λ a. rw a) (λ a. rw a)
known_more r s (t ∷ runs) x = refl

open_more : (r s : Run) (runs : List Run) (x : Answered) → open_run (r ∷ push (s ∷ runs) x) ≡ open_run
    (push (s ∷ runs) x)
unfolding push
open_more r s [] x = bool_cases (goes_on s x) (λ a. rw a) (λ a. rw a)
open_more r s (t ∷ runs) x = refl

known_push : (runs : List Run) (x : Answered) → known (push runs x) ≡ known runs ++ told_by (open_run runs) x
unfolding push
known_push [] x = refl
known_push (r ∷ []) x =
    bool_cases (goes_on r x) (λ a. rw (a, goes_alike r x a, a))
    (λ a. bool_cases (is_differing r.answer) (λ b. rw (a, b)) (λ b. rw (a, b, a)))
known_push (r ∷ s ∷ runs) x = known_more r s runs x ∙ ap (λ (l : List Run). r ∷ l) (known_push (s ∷ runs) x)

open_push : (runs : List Run) (x : Answered) → open_run (push runs x) ≡ next_open (open_run runs) x
unfolding push
open_push [] x = refl
open_push (r ∷ []) x =
    bool_cases (goes_on r x) (λ a. rw (a, goes_alike r x a, a))
    (λ a. bool_cases (is_differing r.answer) (λ b. rw (a, b)) (λ b. rw (a, b, a)))
open_push (r ∷ s ∷ runs) x = open_more r s runs x ∙ open_push (s ∷ runs) x

-- one that may go on does not differ
pub open_alike : (runs : List Run) (r : Run) → open_run runs ≡ Some r → is_differing r.answer ≡ false
open_alike [] r e = none_some r e
open_alike (s ∷ []) r e = go (is_differing s.answer) refl e
  where
    go : (d : Bool) → is_differing s.answer ≡ d → open_by d s ≡ Some r → is_differing r.answer ≡ false
    go true off e = none_some r e
    go false off e = ap (λ (t : Run). is_differing t.answer) (sym (same_Some s r e)) ∙ off
open_alike (s ∷ t ∷ runs) r e = open_alike (t ∷ runs) r e

pub known_behind : (xs : List Answered) (x : Answered) → known (runs_of (xs ++ x ∷ [])) ≡ known (runs_of xs)
    ++ told_by (open_run (runs_of xs)) x
known_behind xs x = ap known (runs_push xs x) ∙ known_push (runs_of xs) x

pub open_behind : (xs : List Answered) (x : Answered) → open_run (runs_of (xs ++ x ∷ [])) ≡ next_open
    (open_run (runs_of xs)) x
open_behind xs x = ap open_run (runs_push xs x) ∙ open_push (runs_of xs) x

-- so all are told at the end
pub all_told : (runs : List Run) → runs ≡ known runs ++ option_to_list (open_run runs)
all_told [] = refl
all_told (r ∷ []) = bool_cases (is_differing r.answer) (λ b. rw b) (λ b. rw b)
all_told (r ∷ s ∷ runs) = ap (λ (l : List Run). r ∷ l) (all_told (s ∷ runs))

-- ---- numbers

one_more : {X : Type 0} (p : X → Bool) (xs : List X) (x : X) → length (filter p (xs ++ x ∷ [])) ≡ length
    (filter p xs) + one_if (p x)
one_more p xs x = simp (filter-append, length-append) (bool_cases (p x) (λ b. rw b) (λ b. rw b))

first_more : (xs : List Answered) (x : Answered)
    → first_differing (xs ++ x ∷ []) ≡ option_or (first_differing xs) (cond (is_differing x.answer) (Some x.frame) None)
first_more xs x =
    ap (option_map (λ (y : Answered). y.frame)) (find-append (λ (y : Answered). is_differing y.answer) xs (x ∷ []))
    ∙ over (find (λ (y : Answered). is_differing y.answer) xs) (find (λ (y : Answered). is_differing y.answer) (x ∷ []))
    ∙ ap (option_or (first_differing xs)) (go (is_differing x.answer))
  where
    over : (a b : Option Answered) → option_map (λ (y : Answered). y.frame) (option_or a b)
        ≡ option_or (option_map (λ (y : Answered). y.frame) a) (option_map (λ (y : Answered). y.frame) b)
    over None b = refl
    over (Some a) b = refl

    go : (b : Bool) → option_map (λ (y : Answered). y.frame) (cond b (Some x) None) ≡ cond b (Some x.frame) None
    go true = refl
    go false = refl

pub counts_behind : (xs : List Answered) (x : Answered) → counts_of (xs ++ x ∷ []) ≡ counted (counts_of xs) x
counts_behind xs x =
    by (length-append xs (x ∷ [])) (one_more (λ (y : Answered). is_same y.answer) xs x)
    (one_more (λ (y : Answered). is_differing y.answer) xs x) (first_more xs x)
  where
    by : {a b c d e f : ℕ} {o p : Option ℕ} → a ≡ b → c ≡ d → e ≡ f → o ≡ p
        → (let n : CompareRan = record { frames = a; same = c; differ = e; first = o } in n)
        ≡ record { frames = b; same = d; differ = f; first = p }
    by i j k l = rw (i, j, k, l) refl
