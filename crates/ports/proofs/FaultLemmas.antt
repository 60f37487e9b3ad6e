-- A state with one more fault is as before.
use Rattle.std.proofs.Common.{◌≡◌, List, ℕ, Option, Some, None, refl, subst, sym}
use Rattle.ports.specs.Desk.{State, Held, SameButFor, FailsToCreate}
use Rattle.ports.specs.Faults.{with_write_fault}

same_held : (name : List ℕ) (held : Option Held) → SameButFor name held held
same_held name None = refl
same_held name (Some h) = (h, refl, refl, refl, λ other apart. refl)

pub fails : (old new : State) (name : List ℕ) → new ≡ with_write_fault old → FailsToCreate old new name
fails old new name e =
    subst (λ (s : State). FailsToCreate old s name) (sym e)
    (record { held = same_held name old.held; said = refl; opened = refl; ended = refl; created = refl })
