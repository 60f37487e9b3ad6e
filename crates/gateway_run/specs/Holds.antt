-- What a gateway between files holds. No public clause cites this module.
use Rattle.std.specs.Prelude.{◌≡◌, ◌≢◌, ◌⊎◌, ℕ, ◌-◌, ◌*◌, ◌<◌, ◌≤◌, Bool, true, false, List, [], ◌++◌, length}
use Rattle.std.specs.Prelude.{slice_index}
use Rattle.plp_config.specs.Capacity.{IsPlan}
use Rattle.plp_config.specs.RunLength.{frame_count}
use Rattle.plp_config.specs.SlotTime.{slots_by}
use Rattle.plp_config.specs.declared.config.Config.{Config}
use Rattle.plp_config.specs.declared.moment.TheConstants.{MOST_FRAMES}
use Rattle.ts_packet.specs.TsFile.{joined, begins_with_packet, ArePackets}
use Rattle.ts_packet.specs.declared.sizes.TheConstants.{SYNC}
use Rattle.t2mi_stream.specs.Complete.{complete_units}
use Rattle.t2mi_stream.specs.Pipe.{pipe}
use Rattle.file_run.specs.Events as run
use Rattle.gateway_core.specs.Events.{Event, offered, has_ended, begun, given, finished}
use Rattle.gateway_core.specs.Packets.{front_packets}
use Rattle.common_plp.specs.Inputs.{place_of, input_count, streams_by}
use Rattle.common_plp.specs.Sharing.{Sharing}
use Rattle.gateway_run.specs.Inputs.{Continue, IsLastBy, IsBefore}
use Rattle.gateway_run.specs.declared.stop.GatewayStop.{GatewayStop}
use Rattle.gateway_run.specs.declared.stop.GatewayStop.TheVariants.{Bad, TooManyFrames}
use Rattle.gateway_run.specs.declared.place.Phase.{Phase}
use Rattle.gateway_run.specs.declared.place.Phase.TheVariants.{Wants, Begins, Gives, Rests, Done, Stopped}
use Rattle.gateway_run.specs.declared.place.Place.{Place}
use Rattle.gateway_run.specs.declared.stop.GatewayRan.{GatewayRan}

-- What an input was fed: packets, which were offered, and a tail that is none.
pub record IsOffered (bytes : List ℕ) (ended : Bool) (packets : List (List ℕ)) (over : Bool) (tail : List ℕ) :
    Type 0 where
  pub parts : bytes ≡ joined packets ++ tail
  pub each : ArePackets packets
  pub end : tail ≡ [] → ended ≡ over

-- So it is for each input, and one that ended has no tail.
pub record AreOffered (w : Sharing) (c : Config) (done : List run.Event) (events : List Event) (tails : ℕ
    → List ℕ) : Type 0 where
  pub each : (input : ℕ) → input < input_count w c → IsOffered (run.fed input done) (run.has_ended input done)
      (offered (place_of w c input) events)
      (has_ended (place_of w c input) events) (tails input)
  pub whole : (input : ℕ) → has_ended (place_of w c input) events ≡ true → tails input ≡ []

-- No more packets were offered than the next frame wants, all that earlier frames wanted, and no more frames begun than
-- there are.
pub record IsInTime (w : Sharing) (c : Config) (events : List Event) : Type 0 where
  pub within : (input : ℕ) → input < input_count w c → length (offered (place_of w c input) events) ≤ slots_by
      c (place_of w c input) (begun events * c.ticks)
  pub there : (input : ℕ) → input < input_count w c → has_ended (place_of w c input) events ≡ false
      → slots_by c (place_of w c input) ((begun events - 1) * c.ticks)
      ≤ length (offered (place_of w c input) events)
  pub few : (inputs : ℕ → List (List ℕ)) → Continue w c events inputs
      → begun events ≤ frame_count c (λ input. length (streams_by w c inputs input))
  pub last : finished events ≡ true → IsLastBy w c events

-- Units were given, the first ones whatever packets follow.
pub record Sends (w : Sharing) (c : Config) (done : List run.Event) (events : List Event) : Type 0 where
  pub units : List (List ℕ)
  pub gave : run.gave done ≡ joined units
  pub count : given events ≡ length units
  pub front : (inputs : ℕ → List (List ℕ)) → Continue w c events inputs → (more : List (List ℕ))
      → (finished events ≡ true → more ≡ [])
      → (rest : List (List ℕ)) × (pipe c.pid (front_packets c (streams_by w c inputs) (begun events) ++ more) ≡ units
      ++ rest)

-- all complete units of the frames begun were given
abbrev pub AreComplete : Sharing → Config → List Event → Type 0
AreComplete w c events = (inputs : ℕ → List (List ℕ)) → Continue w c events inputs
    → given events ≡ length (complete_units c.pid (front_packets c (streams_by w c inputs) (begun events)))

-- all complete units of so many frames were given, which were begun
pub record HasGiven (w : Sharing) (c : Config) (events : List Event) (frames : ℕ) : Type 0 where
  pub begun_all : frames ≤ begun events
  pub units : (inputs : ℕ → List (List ℕ)) → Continue w c events inputs
      → length (complete_units c.pid (front_packets c (streams_by w c inputs) frames)) ≤ given events

-- all units were given
abbrev pub AreAll : Sharing → Config → List Event → Type 0
AreAll w c events = (inputs : ℕ → List (List ℕ)) → Continue w c events inputs
    → length (pipe c.pid (front_packets c (streams_by w c inputs) (begun events))) ≡ given events

-- All that the next frame wants of an input was offered, unless it ended.
abbrev pub HasAll : Sharing → Config → List Event → ℕ → Type 0
HasAll w c events input = has_ended (place_of w c input) events ≡ false
    → slots_by c (place_of w c input) (begun events * c.ticks) ≤ length (offered (place_of w c input) events)

-- The next packet of an input is bad, one that the next frame wants, and nothing is wanted that is looked at before.
pub record MetBad (w : Sharing) (c : Config) (events : List Event) (tails : ℕ → List ℕ) (input packet : ℕ) :
    Type 0 where
  pub place : input < input_count w c
  pub number : packet ≡ length (offered (place_of w c input) events)
  pub is_open : has_ended (place_of w c input) events ≡ false
  pub wanted : packet < slots_by c (place_of w c input) (begun events * c.ticks)
  pub some : tails input ≢ []
  pub bad : begins_with_packet (tails input) ≡ false
  pub below : (other : ℕ) → other < input_count w c
      → IsBefore w c other (length (offered (place_of w c other) events)) input packet → HasAll w c events other
  pub others : (other : ℕ) → other ≢ input → tails other ≡ []
  pub complete : AreComplete w c events
  pub is_going : finished events ≡ false

abbrev pub NoTails : (ℕ → List ℕ) → Type 0
NoTails tails = (input : ℕ) → tails input ≡ []

-- All that the next frame wants was offered, one of which none may have the number, and the run has it.
pub record IsOneTooMany (w : Sharing) (c : Config) (events : List Event) (tails : ℕ → List ℕ) : Type 0 where
  pub none : NoTails tails
  pub frame : begun events ≡ MOST_FRAMES
  pub complete : AreComplete w c events
  pub all : (input : ℕ) → input < input_count w c → HasAll w c events input
  pub more : (inputs : ℕ → List (List ℕ)) → Continue w c events inputs
      → begun events < frame_count c (λ input. length (streams_by w c inputs input))

abbrev pub StopsFor : Sharing → Config → List Event → (ℕ → List ℕ) → GatewayStop → Type 0
StopsFor w c events tails (Bad input packet) = MetBad w c events tails input packet
StopsFor w c events tails TooManyFrames = IsOneTooMany w c events tails

abbrev pub IsIn : Sharing → Config → List Event → (ℕ → List ℕ) → Phase → Type 0
IsIn w c events tails Wants = NoTails tails × AreComplete w c events
IsIn w c events tails Begins = NoTails tails × AreComplete w c events
IsIn w c events tails Gives = NoTails tails × HasGiven w c events (begun events - 1)
IsIn w c events tails Rests = NoTails tails × HasGiven w c events (begun events) × (finished events ≡ true)
IsIn w c events tails Done = NoTails tails × (finished events ≡ true) × AreAll w c events
IsIn w c events tails (Stopped why) = StopsFor w c events tails why

-- What was done to it as a machine, and what was done to the gateway.
pub record Holds (w : Sharing) (c : Config) (done : List run.Event) (g : List Event → Type 0) (place : Place)
    (ran : GatewayRan) : Type 0 where
  pub plan : IsPlan c
  pub events : List Event
  pub stands : g events
  pub frames : ran.frames ≡ begun events
  pub units : ran.units ≡ given events
  pub tails : ℕ → List ℕ
  pub inputs : AreOffered w c done events tails
  pub time : IsInTime w c events
  pub sends : Sends w c done events
  pub is_in : IsIn w c events tails place.phase
  -- a tail is no packet for its first byte, or since nothing follows
  pub cut : (input : ℕ) → tails input ≢ [] → (slice_index (tails input) 0 ≢ SYNC) ⊎ (run.has_ended input done ≡ true)
