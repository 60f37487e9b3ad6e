-- What was done to a machine.
use Rattle.std.specs.Prelude.{◌≡◌, ℕ, ◌==◌, Bool, false, List, [], if◌then◌else◌}
use Rattle.std.specs.List.{flat_map, list_any}

-- It was fed bytes of an input; an input ended behind these last bytes; it gave bytes.
pub data Event : Type 0 where
  Fed : ℕ → List ℕ → Event
  Ended : ℕ → List ℕ → Event
  Gave : List ℕ → Event

abbrev pub bytes_to : ℕ → Event → List ℕ
bytes_to input (Fed to bytes) = if to == input then bytes else []
bytes_to input (Ended to bytes) = if to == input then bytes else []
bytes_to input (Gave bytes) = []

-- the bytes of an input that it was fed
abbrev pub fed : ℕ → List Event → List ℕ
fed input events = flat_map (bytes_to input) events

abbrev pub ends : ℕ → Event → Bool
ends input (Fed to bytes) = false
ends input (Ended to bytes) = to == input
ends input (Gave bytes) = false

-- whether an input ended
abbrev pub has_ended : ℕ → List Event → Bool
has_ended input events = list_any (ends input) events

abbrev pub bytes_from : Event → List ℕ
bytes_from (Fed to bytes) = []
bytes_from (Ended to bytes) = []
bytes_from (Gave bytes) = bytes

-- the bytes that it gave
abbrev pub gave : List Event → List ℕ
gave events = flat_map bytes_from events

-- Nothing but bytes was given.
pub record OnlyGave (events : List Event) : Type 0 where
  pub fed : (input : ℕ) → fed input events ≡ []
  pub ended : (input : ℕ) → has_ended input events ≡ false
