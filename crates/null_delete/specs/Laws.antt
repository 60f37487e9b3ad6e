-- Laws of null-packet deletion.
use Rattle.std.specs.Prelude.{◌≡◌, ◌<◌, ◌≤◌, ℕ, ◌+◌, Bool, true, false, List, [], ◌∷◌, ◌++◌, length, map, if◌then◌else◌}
use Rattle.null_delete.specs.Deletion.{run_before, is_kept, dnp, kept_slots, slot_after}

-- no slot from one on and before another is kept
abbrev pub NoneKept : (ℕ → Bool) → ℕ → ℕ → Type 0
NoneKept keeps from to = (j : ℕ) → from ≤ j → j < to → keeps j ≡ false

-- Each kept slot is the kept slot before it plus 1 plus its own dnp, whichever slots are kept.
abbrev pub NextKept : Type 0
NextKept = (keeps : ℕ → Bool) (i k : ℕ) → keeps i ≡ true → i < k → NoneKept keeps (i + 1) k → k ≡ i + 1 + dnp keeps k

-- The first kept slot is its own dnp.
abbrev pub FirstKept : Type 0
FirstKept = (keeps : ℕ → Bool) (k : ℕ) → NoneKept keeps 0 k → k ≡ dnp keeps k

-- With deletion off each slot is kept, its dnp is 0, and it is the kept slot before it plus 1.
abbrev pub WithoutDeletion : Type 0
WithoutDeletion = (nulls : ℕ → Bool) (i k : ℕ) → (is_kept false nulls k ≡ true) × (dnp (is_kept false nulls) k ≡ 0)
    × (i < k → NoneKept (is_kept false nulls) (i + 1) k → k ≡ i + 1)

-- The dnps of the kept slots lead from the first of them to all others.
abbrev pub SlotsRestored : Type 0
SlotsRestored = (keeps : ℕ → Bool) (n first k : ℕ) (front rest : List ℕ)
    → kept_slots keeps n ≡ first ∷ front ++ k ∷ rest → k ≡ slot_after first (map (dnp keeps) (front ++ k ∷ []))

-- A dnp fits a byte.
abbrev pub DnpFits : Type 0
DnpFits = (deletes : Bool) (nulls : ℕ → Bool) (k : ℕ) → dnp (is_kept deletes nulls) k < 256

-- Whether a slot is kept, and its dnp, follow from the packets up to it.
abbrev pub DecidedByThePast : Type 0
DecidedByThePast = (deletes : Bool) (f g : ℕ → Bool) (k : ℕ) → ((j : ℕ) → j ≤ k → f j ≡ g j)
    → (is_kept deletes f k ≡ is_kept deletes g k) × (dnp (is_kept deletes f) k ≡ dnp (is_kept deletes g) k)

-- A run that ends before the next slot goes on if that slot passes; before slot 0 there is none.
pub record RunsOn (passes : ℕ → Bool) : Type 0 where
  pub none : length (run_before passes 0) ≡ 0
  pub next : (k : ℕ) → length (run_before passes (k + 1)) ≡ (if passes k then length (run_before passes k) + 1 else 0)

abbrev pub RunLaw : Type 0
RunLaw = (passes : ℕ → Bool) → RunsOn passes
