-- A file that is opened to be read.
use Rattle.std.specs.Prelude.{◌≡◌, ℕ, List, [], ◌∷◌, ◌++◌, IsSome, IfSome, option_map}
use Rattle.std.specs.FinMap.{get}
use Rattle.ports.specs.Desk.{State, with_name}

-- The file was opened once, and reads gave so many of its bytes. No file changed, and none was created.
pub record Opened (old new : State) (name : List ℕ) (given : ℕ) : Type 0 where
  pub present : IfSome old.held (λ h. IsSome (get h.files name))
  pub held : new.held ≡ option_map (with_name name) old.held
  pub opened : new.opened ≡ old.opened ++ given ∷ []
  pub created : new.created ≡ old.created

-- No file was opened, and none created or changed, and nothing was said.
pub record Unopened (old new : State) : Type 0 where
  pub held : new.held ≡ old.held
  pub opened : new.opened ≡ old.opened
  pub created : new.created ≡ old.created
  pub said : new.said ≡ old.said
