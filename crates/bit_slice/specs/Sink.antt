-- Sinks of bits: what they hold, what a put does to it, and why it does not.
use Rattle.std.specs.Prelude.{◌≡◌, ◌<◌, ◌≤◌, ℕ, ◌-◌, Bool, true, List, [], ◌∷◌, ◌++◌, length, take, drop}
use Rattle.std.specs.Prelude.{slice_index_or, Some}
use Rattle.std.specs.Prelude.{None, IfSome}
use Rattle.std.specs.declared.option.Option.{Option}
use Rattle.std.specs.Option.{option_map}
use Rattle.bit_slice.specs.declared.sink.SinkFault.{SinkFault}
use Rattle.bit_slice.specs.declared.sink.SinkFault.TheVariants.{Full, OutOfMemory}

-- the bits written, the room left if the sink has an end, and whether it takes memory as it grows; and for a sink
-- around others what stood in each when it was put around them, the outermost first
pub record State : Type 0 where
  pub written : List Bool
  pub room : Option ℕ
  pub grows : Bool
  pub below : List (List Bool)

-- These bits were appended, for which there was room.
pub record Puts (old new : State) (bits : List Bool) : Type 0 where
  pub written : new.written ≡ old.written ++ bits
  pub fits : IfSome old.room (λ room. length bits ≤ room)
  pub room : new.room ≡ option_map (λ room. room - length bits) old.room
  pub grows : new.grows ≡ old.grows
  pub below : new.below ≡ old.below

-- Why so many bits were not put: there was less room, or the sink has no end and grows, and no memory was found.
abbrev pub Refuses : State → ℕ → SinkFault → Type 0
Refuses s count (Full need room) = (need ≡ count) × (s.room ≡ Some room) × (room < need)
Refuses s count OutOfMemory = (s.room ≡ None) × (s.grows ≡ true)

-- Why a writer stopped with so many bits still to be put: some of them had no room, or no memory was found.
abbrev pub StopsFor : State → ℕ → SinkFault → Type 0
StopsFor s left (Full need room) = (s.room ≡ Some room) × (room < need) × (need ≤ left)
StopsFor s left OutOfMemory = (s.room ≡ None) × (s.grows ≡ true)

-- A writer of these bits stopped: so many of them were put, and then no more.
pub record Stops (old new : State) (bits : List Bool) (fault : SinkFault) : Type 0 where
  pub count : ℕ
  pub front : Puts old new (take count bits)
  pub cause : StopsFor new (length bits - count) fault

-- a sink around one in this state, with nothing put through it
abbrev pub wrapped : State → State
wrapped s = record { written = []; room = s.room; grows = s.grows; below = s.written ∷ s.below }

-- the state of the inner sink: what was put through stands behind what stood in it
abbrev pub unwrapped : State → State
unwrapped s = record {
  written = slice_index_or s.below 0 [] ++ s.written;
  room = s.room;
  grows = s.grows;
  below = drop 1 s.below;
}
