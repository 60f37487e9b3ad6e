-- What a gateway between files is ready for. No public clause cites this module.
use Rattle.std.specs.Prelude.{◌≡◌, ℕ, ◌≤◌, ◌^◌, ◌*◌, ◌+◌, false, Option, Some, None, List}
use denote.Struct.Props as logic
use Rattle.plp_config.specs.declared.config.Config.{Config}
use Rattle.plp_config.specs.declared.moment.TheConstants.{MOST_FRAMES}
use Rattle.common_plp.specs.Sharing.{Sharing}
use Rattle.file_run.specs.Events.{Event}
use Rattle.gateway_core.specs.StandsFor.{Status}
use Rattle.gateway_run.specs.Holds.{Holds}
use Rattle.gateway_run.specs.Seen.{Seen, Asks, IsIdle}
use Rattle.gateway_run.specs.declared.place.Phase.TheVariants.{Wants, Begins, Gives}
use Rattle.gateway_run.specs.declared.place.Place.{Place}
use Rattle.gateway_run.specs.declared.stop.GatewayRan.{GatewayRan}

-- where a gateway is that asks for this
abbrev pub place_by : Option ℕ → Place
place_by None = record { input = 0; phase = Begins }
place_by (Some input) = record { input = input; phase = Wants }

-- What it counted is what the gateway tells, and so few that the units can be counted.
pub record IsCounted (t : Status) (ran : GatewayRan) : Type 0 where
  pub frames : ran.frames ≡ t.frame
  pub early : ran.frames ≤ MOST_FRAMES
  pub few : ran.units + t.left ≤ ran.frames * 2 ^ 32

-- What a step finds of the gateway at its place.
pub record IsReady (w : Sharing) (c : Config) (s : Seen) (t : Status) (place : Place) (ran : GatewayRan) : Type 0 where
  pub is_of : s.is_of
  pub counted : IsCounted t ran
  pub wanting : place.phase ≡ Wants → Asks w c s (Some place.input) × IsIdle t
  pub beginning : place.phase ≡ Begins → Asks w c s None × IsIdle t
  pub giving : place.phase ≡ Gives → t.finished ≡ false

-- That has one proof at most, so it may be a ghost field.
pub IsReady-prop : (w : Sharing) (c : Config) (s : Seen) (t : Status) (place : Place) (ran : GatewayRan)
    → IsProp (IsReady w c s t place ran)
IsReady-prop w c s t place ran = Prim.hlevel (logic.props, s.of_prop, s.asks_prop)

-- To a gateway of the configuration of the first this was done, and it is that of the second.
abbrev pub Becomes : Sharing → Config → Config → Seen → Place → GatewayRan → List Event → Type 0
Becomes w start c s place ran done = (c ≡ start) × Holds w c done s.stands place ran
