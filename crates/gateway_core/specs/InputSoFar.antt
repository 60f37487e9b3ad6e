-- What is known of the input of a PLP.
use Rattle.std.specs.Prelude.{◌≡◌, ℕ, ◌+◌, Bool, true, List, [], ◌∷◌, ◌++◌}
use Rattle.gateway_core.specs.Events.{Event, offered, has_ended, begun}

-- the packets offered, whether it ended, and the next frame
pub record Told : Type 0 where
  pub packets : List (List ℕ)
  pub ended : Bool
  pub frame : ℕ

abbrev pub with_packet : Told → List ℕ → Told
with_packet t packet = record t { packets = t.packets ++ packet ∷ [] }

abbrev pub at_end : Told → Told
at_end t = record t { ended = true }

abbrev pub in_next : Told → Told
in_next t = record t { frame = t.frame + 1 }

-- what events tell of it
abbrev pub told : ℕ → List Event → Told
told plp events = record { packets = offered plp events; ended = has_ended plp events; frame = begun events }

-- These packets of an input continue what is known: what was offered is their front, and all of them if the input
-- ended.
pub record Continues (t : Told) (input : List (List ℕ)) : Type 0 where
  pub rest : List (List ℕ)
  pub front : input ≡ t.packets ++ rest
  pub whole : t.ended ≡ true → rest ≡ []
