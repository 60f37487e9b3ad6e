-- What a `SplitGateway` stands for.
use Rattle.std.specs.Prelude.{◌≡◌, ◌<◌, ℕ, Bool, false, List, Some, None, length}
use Rattle.std.specs.declared.option.Option.{Option}
use Rattle.plp_config.specs.declared.config.Config.{Config}
use Rattle.common_plp.specs.Groups.{is_common}
use Rattle.gateway_core.specs.Events.{Event}
use Rattle.gateway_core.specs.StandsFor as core
use Rattle.gateway_core.specs.StandsFor.{Status}
use Rattle.gateway_core.specs.Order.{IsWanted, IsWantedFirst}
use Rattle.gateway_core.specs.Slots.{held_at}
use Rattle.gateway_core.specs.Works.{Works}
use Rattle.gateway_core.specs.declared.split_gateway.SplitGateway.{SplitGateway}

-- Of its configuration, what was done to it, in turn: packets came of inputs, and inputs ended; frames were begun, and
-- units given.
unfoldable pub SplitGatewayStandsFor : SplitGateway → Config → List Event → Type 0
SplitGatewayStandsFor s c events = (s.plan.now ≡ c) × Works s.plan.now s.gateway s.held.items events

-- A packet of this input can come: one that the next frame wants, and all before it of its group went on.
pub record IsAsked (s : SplitGateway) (plp : ℕ) : Type 0 where
  pub inside : plp < length s.plan.now.plps
  pub own : is_common s.plan.now plp ≡ false
  pub none : held_at s.held.items plp ≡ None
  pub some : 0 < core.wants_of s.gateway plp

-- The next frame wants nothing more.
abbrev pub NoneWanted : SplitGateway → Type 0
NoneWanted s = (plp : ℕ) → plp < length s.plan.now.plps → core.wants_of s.gateway plp ≡ 0

abbrev pub Asks : SplitGateway → Option ℕ → Type 0
Asks s None = NoneWanted s
Asks s (Some plp) = IsAsked s plp

-- The next frame wants a packet of this input first, or of none.
abbrev pub FindsWanted : Config → List Event → Option ℕ → Type 0
FindsWanted c events None = (plp : ℕ) → ¬ (IsWanted c events plp)
FindsWanted c events (Some plp) = IsWantedFirst c events plp

-- how many packets the next frame still wants of an input that was asked for
abbrev pub wants_of : SplitGateway → ℕ → ℕ
wants_of s plp = core.wants_of s.gateway plp

-- its configuration, and what a caller sees of it besides
abbrev pub config_of : SplitGateway → Config
config_of s = s.plan.now

abbrev pub frame_of : SplitGateway → ℕ
frame_of s = core.frame_of s.gateway

abbrev pub has_unit : SplitGateway → Bool
has_unit s = core.has_unit s.gateway

abbrev pub bytes_left : SplitGateway → ℕ
bytes_left s = core.bytes_left s.gateway

abbrev pub has_finished : SplitGateway → Bool
has_finished s = core.has_finished s.gateway

abbrev pub status_of : SplitGateway → Status
status_of s = core.status_of s.gateway
