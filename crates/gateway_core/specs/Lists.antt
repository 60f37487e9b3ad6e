-- The lists of a pool, one for each PLP.
use Rattle.std.specs.Prelude.{◌≡◌, ◌<◌, ◌≤◌, ℕ, Bool, true, List, [], length, map, if◌then◌else◌}
use Rattle.terms.specs.Bits.{bits_of}
use Rattle.linked_pool.specs.Pool.{State, list_at}
use Rattle.plp_config.specs.InterleavingFrames.{is_first}
use Rattle.plp_config.specs.declared.config.Config.{Config}
use Rattle.mode_adapt.specs.Place.{AreShort}

-- the blocks of each list, as bits
abbrev pub bits_in : State → ℕ → List (List Bool)
bits_in pool j = map bits_of (list_at pool j)

-- those that are sent in frame n: the blocks of the PLPs of which an interleaving frame begins in it
abbrev pub own_in : Config → ℕ → State → ℕ → List (List Bool)
own_in c n pool j = if is_first c j n then bits_in pool j else []

-- those of the others, which begin in a later frame
abbrev pub later_in : Config → ℕ → State → ℕ → List (List Bool)
later_in c n pool j = if is_first c j n then [] else bits_in pool j

-- No block of a list is longer than one of a PLP can be.
abbrev pub AllShort : State → Type 0
AllShort pool = (j : ℕ) → AreShort (list_at pool j)

-- This is the first list from a given one on that has a block that is sent in frame n.
pub record IsNext (c : Config) (n : ℕ) (pool : State) (from list : ℕ) : Type 0 where
  pub order : from ≤ list
  pub inside : list < length pool.lists
  pub own : is_first c list n ≡ true
  pub some : 0 < length (list_at pool list)
  pub none : (j : ℕ) → from ≤ j → j < list → own_in c n pool j ≡ []
