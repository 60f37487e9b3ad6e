-- The laws of deletion.
use Rattle.std.proofs.Common.{◌≡◌, ℕ, zero, suc, ◌+◌, ◌-◌, ◌<◌, ◌≤◌, Bool, true, false, cond, List, [], ◌∷◌, ◌++◌, map}
use Rattle.std.proofs.Common.{refl, ap}
use Rattle.std.proofs.Common.{sym, subst, ◌∙◌, arith, add-one, ⊎_elim}
use Rattle.std.specs.Prelude.{filter}
use Rattle.std.specs.List.{range_with_len}
use Rattle.std.proofs.lemmas.Bool.{cases_lt}
use Rattle.std.proofs.lemmas.List.Sums.{sum_by-append}
use Rattle.null_delete.specs.Deletion.{is_kept, dnp, slot_after}
use Rattle.null_delete.specs.Laws.{NoneKept, NextKept, FirstKept, WithoutDeletion, SlotsRestored, DnpFits}
use Rattle.null_delete.specs.Laws.{DecidedByThePast}
use Rattle.null_delete.proofs.RunLemmas.{run_none, dnp_same, kept_same, dnp_more, dnp_is_run, dnp_off}

-- one slot more if none is kept
one_deleted : (keeps : ℕ → Bool) (k d : ℕ) → keeps k ≡ false → dnp keeps k ≡ d → dnp keeps (k + 1) ≡ d + 1
one_deleted keeps k d off before = dnp_more keeps k ∙ rw (off, before) refl

-- so many slots behind a kept one
behind_kept : (keeps : ℕ → Bool) (i d : ℕ) → keeps i ≡ true → NoneKept keeps (i + 1) (i + 1 + d)
    → dnp keeps (i + 1 + d) ≡ d
behind_kept keeps i zero on none = let e : i + 1 + 0 ≡ i + 1 = omega arith in rw e (dnp_more keeps i ∙ rw on refl)
behind_kept keeps i (suc d) on none =
    let before = behind_kept keeps i d on (λ j from to. none j from (omega arith)) in
    let e : i + 1 + suc d ≡ (i + 1 + d) + 1 = omega arith in
    rw e (one_deleted keeps (i + 1 + d) d (none (i + 1 + d) (omega arith) (omega arith)) before ∙ omega arith)

pub next_kept : NextKept
next_kept keeps i k on after none =
    let d : ℕ = k - (i + 1) in
    let e : i + 1 + d ≡ k = omega arith in
    let counted : dnp keeps (i + 1 + d) ≡ d = behind_kept keeps i d on (λ j from to. none j from (omega arith)) in
    omega (arith, rw e at counted)

pub first_kept : FirstKept
first_kept keeps zero none = sym (run_none _)
first_kept keeps (suc k) none =
    let before : k ≡ dnp keeps k = first_kept keeps k (λ j from to. none j from (omega arith)) in
    subst (λ (m : ℕ). m ≡ dnp keeps m) (add-one k)
    (sym (one_deleted keeps k k (none k (omega arith) (omega arith)) (sym before)))

pub without_deletion : WithoutDeletion
without_deletion nulls i k = (
  refl,
  dnp_off nulls k,
  λ after none. next_kept (is_kept false nulls) i k refl after none ∙ ap (λ (n : ℕ). i + 1 + n) (dnp_off nulls k)
      ∙ omega arith,
)

pub dnp_fits : DnpFits
dnp_fits false nulls k = omega (arith, dnp_off nulls k)
dnp_fits true nulls k = omega (arith, dnp_is_run nulls k)

pub decided_by_the_past : DecidedByThePast
decided_by_the_past deletes f g k same = (
  kept_same deletes f g (k + 1) (λ j h. same j (omega arith)) k (omega arith),
  dnp_same deletes f g k (λ j h. same j (omega arith)),
)

-- one dnp more in front
slot_first : (last dnp : ℕ) (dnps : List ℕ) → slot_after last (dnp ∷ dnps) ≡ slot_after (last + 1 + dnp) dnps
slot_first last dnp dnps = omega (arith, sum_by-append (λ n. 1 + n) (dnp ∷ []) dnps)

-- The kept slots from one on, behind a kept one: their dnps lead to each.
abbrev Restored : (ℕ → Bool) → List ℕ → ℕ → Type 0
Restored keeps kept at = (last k : ℕ) (front rest : List ℕ) → keeps last ≡ true → last < at
    → NoneKept keeps (last + 1) at
    → kept ≡ front ++ k ∷ rest
    → k ≡ slot_after last (map (dnp keeps) (front ++ k ∷ []))

-- one slot more is looked at
restored_step : (keeps : ℕ → Bool) (kept : List ℕ) (at : ℕ) (b : Bool) → keeps at ≡ b → Restored keeps kept (at + 1)
    → Restored keeps (cond b (at ∷ kept) kept) at
restored_step keeps kept at false off next last k front rest on after none e =
    next last k front rest on (omega arith)
    (λ j from to. ⊎_elim (λ (lt : j < at). none j from lt) (λ (le : at ≤ j). let here : j ≡ at = omega arith in
    ap keeps here ∙ off) (cases_lt j at)) e
restored_step keeps kept at true here next last k [] rest on after none e =
    let same : at ≡ k = cc in
    let counted : at ≡ last + 1 + dnp keeps at = next_kept keeps last at on after none in
    let led : at ≡ slot_after last (dnp keeps at ∷ []) = omega arith in
    subst (λ (n : ℕ). n ≡ slot_after last (dnp keeps n ∷ [])) same led
restored_step keeps kept at true here next last k (x ∷ front) rest on after none e =
    let same : at ≡ x = cc in
    let behind : kept ≡ front ++ k ∷ rest = cc in
    let counted : at ≡ last + 1 + dnp keeps at = next_kept keeps last at on after none in
    let later = next at k front rest here (omega arith) (λ j from to. absurd (omega arith)) behind in
    let led : slot_after at (map (dnp keeps) (front ++ k ∷ []))
    ≡ slot_after last (dnp keeps at ∷ map (dnp keeps) (front ++ k ∷ [])) =
    ap (λ (n : ℕ). slot_after n (map (dnp keeps) (front ++ k ∷ []))) counted
    ∙ sym (slot_first last (dnp keeps at) (map (dnp keeps) (front ++ k ∷ []))) in
    later ∙ led ∙ ap (λ (n : ℕ). slot_after last (dnp keeps n ∷ map (dnp keeps) (front ++ k ∷ []))) same

-- Nothing stands in an empty list.
none_behind : (front : List ℕ) (k : ℕ) (rest : List ℕ) → [] ≡ front ++ k ∷ rest → ⊥
none_behind [] k rest e = cc
none_behind (x ∷ front) k rest e = cc

-- all kept slots from one on
restored : (keeps : ℕ → Bool) (len at : ℕ) → Restored keeps (filter keeps (range_with_len at len)) at
restored keeps zero at = λ last k front rest on after none e. absurd (none_behind front k rest e)
restored keeps (suc len) at = restored_step keeps (filter keeps (range_with_len (at + 1) len)) at (keeps at) refl
    (restored keeps len (at + 1))

-- The kept slots from one on: the dnps behind the first lead to each.
abbrev FromFirst : (ℕ → Bool) → List ℕ → Type 0
FromFirst keeps kept = (first k : ℕ) (front rest : List ℕ) → kept ≡ first ∷ (front ++ k ∷ rest)
    → k ≡ slot_after first (map (dnp keeps) (front ++ k ∷ []))

-- one slot more is looked at
first_step : (keeps : ℕ → Bool) (kept : List ℕ) (at : ℕ) (b : Bool) → keeps at ≡ b → FromFirst keeps kept
    → Restored keeps kept (at + 1) → FromFirst keeps (cond b (at ∷ kept) kept)
first_step keeps kept at false off next behind first k front rest e = next first k front rest e
first_step keeps kept at true here next behind first k front rest e =
    let same : at ≡ first = cc in
    let others : kept ≡ front ++ k ∷ rest = cc in
    subst (λ (n : ℕ). k ≡ slot_after n (map (dnp keeps) (front ++ k ∷ []))) same
    (behind at k front rest here (omega arith) (λ j from to. absurd (omega arith)) others)

-- all kept slots
from_first : (keeps : ℕ → Bool) (len at : ℕ) → FromFirst keeps (filter keeps (range_with_len at len))
from_first keeps zero at = λ first k front rest e. cc
from_first keeps (suc len) at = first_step keeps (filter keeps (range_with_len (at + 1) len)) at (keeps at) refl
    (from_first keeps len (at + 1)) (restored keeps len (at + 1))

pub slots_restored : SlotsRestored
slots_restored keeps n first k front rest e = from_first keeps n 0 first k front rest e
