-- What is seen of a gateway between files. No public clause cites this module.
use Rattle.std.specs.Prelude.{◌≡◌, ◌<◌, ◌-◌, ◌*◌, ℕ, true, false, List, length, Option, Some, None, slice_get, ◌++◌, []}
use Rattle.plp_config.specs.SlotTime.{slots_by}
use Rattle.plp_config.specs.declared.config.Config.{Config}
use Rattle.t2mi_stream.specs.Pipe.{pipe}
use Rattle.gateway_core.specs.Events.{Event, offered, has_ended, begun, given, finished}
use Rattle.gateway_core.specs.Packets.{front_packets}
use Rattle.gateway_core.specs.StandsFor.{Status}
use Rattle.common_plp.specs.Inputs.{place_of, input_count, streams_by}
use Rattle.common_plp.specs.Sharing.{Sharing}
use Rattle.gateway_run.specs.Holds.{HasAll}
use Rattle.gateway_run.specs.Inputs.{Continue, IsBefore}

-- What is seen of a gateway of a configuration.
pub record Seen : Type 1 where
  -- It stands for what was done to it, in turn.
  pub stands : List Event → Type 0
  -- It is one of this configuration.
  pub is_of : Type 0
  -- It asks for a packet of this input, or for none.
  pub asks : Option ℕ → Type 0
  -- how many packets the next frame still wants of an input that is asked for
  pub wants : ℕ → ℕ
  -- Either has one proof at most.
  pub of_prop : IsProp is_of
  pub asks_prop : (asked : Option ℕ) → IsProp (asks asked)

-- The next frame wants so many packets of this input, and none of a slot that is looked at before.
pub record WantsFirst (w : Sharing) (c : Config) (events : List Event) (input wants : ℕ) : Type 0 where
  pub inside : input < input_count w c
  pub is_open : has_ended (place_of w c input) events ≡ false
  pub less : length (offered (place_of w c input) events) < slots_by c (place_of w c input) (begun events * c.ticks)
  pub wants_are : wants ≡ slots_by c (place_of w c input) (begun events * c.ticks) - length
      (offered (place_of w c input) events)
  pub below : (other : ℕ) → other < input_count w c
      → IsBefore w c other (length (offered (place_of w c other) events)) input
      (length (offered (place_of w c input) events))
      → HasAll w c events other

-- It wants no more.
abbrev pub WantsNone : Sharing → Config → List Event → Type 0
WantsNone w c events = (input : ℕ) → input < input_count w c → HasAll w c events input

-- What is asked for is what the next frame wants first.
abbrev pub IsRight : Sharing → Config → (ℕ → ℕ) → Option ℕ → List Event → Type 0
IsRight w c wants None events = WantsNone w c events
IsRight w c wants (Some input) events = WantsFirst w c events input (wants input)

abbrev pub IsInput : Sharing → Config → Option ℕ → Type 0
IsInput w c None = Unit {0}
IsInput w c (Some input) = input < input_count w c

-- A gateway to which no end was told asks for this.
pub record Asks (w : Sharing) (c : Config) (s : Seen) (asked : Option ℕ) : Type 0 where
  pub is_of : s.is_of
  pub asks : s.asks asked
  pub inside : IsInput w c asked
  pub right : (events : List Event) → s.stands events → IsRight w c s.wants asked events
  pub is_going : (events : List Event) → s.stands events → finished events ≡ false

-- All complete units were given, and no frame was the last.
pub record IsIdle (t : Status) : Type 0 where
  pub given : t.unit ≡ false
  pub is_open : t.finished ≡ false

-- What is told of a unit that was given: whatever packets follow, it is the next one of all.
abbrev pub IsNext : Sharing → Config → List Event → List ℕ → Type 0
IsNext w c events unit = (inputs : ℕ → List (List ℕ)) → Continue w c events inputs → (more : List (List ℕ))
    → (finished events ≡ true → more ≡ [])
    → slice_get (pipe c.pid (front_packets c (streams_by w c inputs) (begun events) ++ more)) (given events) ≡ Some unit
