-- What was done to a gateway.
use Rattle.std.specs.Prelude.{ℕ, ◌==◌, Bool, true, false, List, [], ◌∷◌, count_by, if◌then◌else◌}
use Rattle.std.specs.List.{flat_map, list_any}

-- A packet was offered to the input of a PLP, or that input ended; a frame was begun; a unit was given; no more frames
-- come.
pub data Event : Type 0 where
  Offered : ℕ → List ℕ → Event
  Ended : ℕ → Event
  Begun : Event
  Gave : Event
  Finished : Event

abbrev pub packets_to : ℕ → Event → List (List ℕ)
packets_to plp (Offered to packet) = if to == plp then packet ∷ [] else []
packets_to plp (Ended to) = []
packets_to plp Begun = []
packets_to plp Gave = []
packets_to plp Finished = []

-- the packets offered to the input of a PLP, in order
abbrev pub offered : ℕ → List Event → List (List ℕ)
offered plp events = flat_map (packets_to plp) events

abbrev pub ends : ℕ → Event → Bool
ends plp (Offered to packet) = false
ends plp (Ended to) = to == plp
ends plp Begun = false
ends plp Gave = false
ends plp Finished = false

-- whether the input of a PLP ended
abbrev pub has_ended : ℕ → List Event → Bool
has_ended plp events = list_any (ends plp) events

abbrev pub begins : Event → Bool
begins (Offered to packet) = false
begins (Ended to) = false
begins Begun = true
begins Gave = false
begins Finished = false

-- how many frames were begun, which is the number of the next frame
abbrev pub begun : List Event → ℕ
begun events = count_by begins events

abbrev pub gives : Event → Bool
gives (Offered to packet) = false
gives (Ended to) = false
gives Begun = false
gives Gave = true
gives Finished = false

-- how many units were given
abbrev pub given : List Event → ℕ
given events = count_by gives events

abbrev pub finishes : Event → Bool
finishes (Offered to packet) = false
finishes (Ended to) = false
finishes Begun = false
finishes Gave = false
finishes Finished = true

-- whether no more frames come
abbrev pub finished : List Event → Bool
finished events = list_any finishes events
