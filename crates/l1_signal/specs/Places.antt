-- What the code needs of a table and its values, place by place. No public clause cites this module.
use Rattle.std.specs.Prelude.{◌≤◌, ◌<◌, ℕ, ◌+◌, ◌^◌, List, [], ◌∷◌, slice_index}
use Rattle.std.specs.List.{AllByRecursion}
use Rattle.l1_signal.specs.declared.fields.Field.{Field}

-- no field is wider than a number of 64 bits
abbrev pub Narrow : List Field → Type 0
Narrow fs = AllByRecursion (λ f. f.width ≤ 64) fs

-- the values from a place on fit their fields
abbrev pub AreSmall : ℕ → List Field → List ℕ → Type 0
AreSmall place [] vs = Unit {0}
AreSmall place (f ∷ fs) vs = (slice_index vs place < 2 ^ f.width) × AreSmall (place + 1) fs vs
