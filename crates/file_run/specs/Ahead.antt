-- Bytes that were read of a file and not yet taken.
use Rattle.std.specs.Prelude.{◌≡◌, ◌≢◌, ℕ, ◌+◌, ◌-◌, ◌≤◌, List, [], ◌++◌, length, slice_index, slice_set, IfSome}
use Rattle.std.specs.Prelude.{option_map}
use Rattle.ports.specs.Desk.{State, left_of, has_run_out}

-- The handle's file was read to its end, if the desk tells.
abbrev pub IsAtEnd : State → ℕ → Type 0
IsAtEnd s handle = IfSome (left_of s handle) (λ left. left ≡ [])

-- Bytes of the handle's file went behind those that waited, and nothing else was done. Of counts it says nothing.
pub record ReadsAhead (old new : State) (handle : ℕ) (waiting more : List ℕ) : Type 0 where
  pub held : new.held ≡ old.held
  pub said : new.said ≡ old.said
  pub opened : new.opened ≡ slice_set old.opened handle (slice_index old.opened handle + (length more - length waiting))
  pub created : new.created ≡ old.created
  pub grown : length waiting ≤ length more
  pub next : option_map (λ left. more ++ left) (left_of new handle) ≡ option_map (λ left. waiting ++ left)
      (left_of old handle)
  -- so every other handle has left what it had, and is at its end only if it was
  pub others : (other : ℕ) → other ≢ handle → left_of new other ≡ left_of old other
  pub others_end : (other : ℕ) → other ≢ handle → has_run_out new other ≡ has_run_out old other
