-- How bytes are said.
use Rattle.std.specs.Prelude.{◌≡◌, ◌≢◌, ℕ, List, [], ◌∷◌, ◌++◌, Option, option_map, All}
use Rattle.std.specs.List.{concat}
use Rattle.ports.specs.Desk.{State, Keeps, Says}

-- Of the texts that were said, these bytes are the new ones, joined: each has one byte at least.
pub record Grows (old new : Option (List (List ℕ))) (bytes : List ℕ) : Type 0 where
  pub texts : List (List ℕ)
  pub said : new ≡ option_map (λ said. said ++ texts) old
  pub joined : concat texts ≡ bytes
  pub some : All (λ text. text ≢ []) texts

-- Bytes were said, by some calls, and nothing else was done. Of counts it says nothing.
pub record SaysBytes (old new : State) (bytes : List ℕ) : Type 0 where
  pub held : new.held ≡ old.held
  pub grew : Grows old.said new.said bytes
  pub opened : new.opened ≡ old.opened
  pub ended : new.ended ≡ old.ended
  pub created : new.created ≡ old.created

-- A page was said by one call, or nothing was done if nothing is on it.
abbrev pub SaysPage : State → State → List ℕ → Type 0
SaysPage old new [] = Keeps old new
SaysPage old new (byte ∷ bytes) = Says old new (byte ∷ bytes)
