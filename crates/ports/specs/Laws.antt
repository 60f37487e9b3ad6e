-- What holds of the definitions. The functions without a body ensure it.
use Rattle.std.specs.Prelude.{ℕ, List, ◌++◌}
use Rattle.ports.specs.Desk.{State, Writes}

-- What was written and then more is written as one.
abbrev pub WritesJoin : Type 0
WritesJoin = (a b c : State) (out : ℕ) (front more : List ℕ) → Writes a b out front → Writes b c out more
    → Writes a c out (front ++ more)
