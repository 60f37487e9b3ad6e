-- A gateway, and the packets that are held for it. No public clause cites this module.
use Rattle.std.specs.Prelude.{◌≡◌, ◌<◌, ℕ, List, length, Some, None}
use Rattle.std.specs.declared.option.Option.{Option}
use Rattle.plp_config.specs.declared.config.Config.{Config}
use Rattle.common_plp.specs.Groups.{common_of}
use Rattle.gateway_core.specs.Events.{Event}
use Rattle.gateway_core.specs.StandsFor.{GatewayStandsFor, status_of, wants_of}
use Rattle.gateway_core.specs.declared.gateway.Gateway.{Gateway}
use Rattle.gateway_core.specs.Slots.{HeldWanted, ComesNext}
use Rattle.gateway_core.specs.Splitting.{Splitting}

-- What came of the inputs was split, and went to the gateway.
pub record Works (c : Config) (g : Gateway) (held : List (Option (List ℕ))) (events : List Event) : Type 0 where
  pub done : List Event
  pub stands : GatewayStandsFor g c done
  pub splits : Splitting c held events done

-- Something came so.
pub record HasWorked (c : Config) (g : Gateway) (held : List (Option (List ℕ))) : Type 0 where
  pub events : List Event
  pub works : Works c g held events

-- It goes on with what came.
abbrev pub GoesOn : Config → Gateway → Gateway → List (Option (List ℕ)) → List (Option (List ℕ)) → Type 0
GoesOn c old new was is = (events : List Event) → Works c old was events → Works c new is events

-- and nothing else changes.
pub record Moves (c : Config) (old new : Gateway) (was is : List (Option (List ℕ))) : Type 0 where
  pub goes : GoesOn c old new was is
  pub size : length is ≡ length was
  pub wanted : HeldWanted c new is
  pub status : status_of new ≡ status_of old

-- Nothing is wanted of the first PLP of a group, or a packet of this input comes next.
abbrev pub SettlesOn : Config → Gateway → List (Option (List ℕ)) → ℕ → Option ℕ → Type 0
SettlesOn c g held turn None = wants_of g turn ≡ 0
SettlesOn c g held turn (Some plp) = ComesNext c g held turn (length c.plps) plp

-- Nothing is wanted of the groups before a place.
abbrev pub AreSettled : Config → Gateway → ℕ → Type 0
AreSettled c g count = (turn : ℕ) → turn < count → common_of c turn ≡ None → wants_of g turn ≡ 0

-- A packet of an input comes next, of the first group of which one is wanted; or none is wanted.
pub record ComesOfTurn (c : Config) (g : Gateway) (held : List (Option (List ℕ))) (plp : ℕ) : Type 0 where
  pub turn : ℕ
  pub inside : turn < length c.plps
  pub first : common_of c turn ≡ None
  pub before : AreSettled c g turn
  pub next : ComesNext c g held turn (length c.plps) plp

abbrev pub FindsFirst : Config → Gateway → List (Option (List ℕ)) → Option ℕ → Type 0
FindsFirst c g held None = AreSettled c g (length c.plps)
FindsFirst c g held (Some plp) = ComesOfTurn c g held plp
