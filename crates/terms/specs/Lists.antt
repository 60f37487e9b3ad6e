-- Words for lists that std lacks.
use Rattle.std.specs.Prelude.{◌≡◌, List, ◌++◌}

-- The one is the front of the other.
abbrev pub IsPrefix : {X : Type 0} → List X → List X → Type 0
IsPrefix {X} xs ys = (more : List X) × (ys ≡ xs ++ more)
