-- The first place at which a demand fails.
use Rattle.std.specs.Prelude.{ℕ, ◌<◌, Option, MatchOption}

-- the demand holds at each place below a count
abbrev pub HoldsBelow : (ℕ → Type 0) → ℕ → Type 0
HoldsBelow holds count = (place : ℕ) → place < count → holds place

-- the demand fails at this place of the count, and at none before
pub record IsFirstFailure (holds : ℕ → Type 0) (count place : ℕ) : Type 0 where
  pub inside : place < count
  pub fails : ¬ (holds place)
  pub before : HoldsBelow holds place

-- the answer of a search for it: None if the demand holds everywhere
abbrev pub FindsFailure : (ℕ → Type 0) → ℕ → Option ℕ → Type 0
FindsFailure holds count answer = MatchOption answer (HoldsBelow holds count) (IsFirstFailure holds count)
