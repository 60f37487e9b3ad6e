-- A gateway with common PLPs, by its inputs. No public clause cites this module.
use Rattle.std.specs.Prelude.{◌≡◌, ℕ, Option, Some, None}
use denote.Struct.Props as logic
use Rattle.plp_config.specs.declared.config.Config.{Config}
use Rattle.common_plp.specs.Inputs.{place_of}
use Rattle.common_plp.specs.Sharing.{Joint}
use Rattle.gateway_core.specs.SplitStandsFor.{SplitGatewayStandsFor, IsAsked, NoneWanted, config_of, wants_of}
use Rattle.gateway_core.specs.declared.split_gateway.SplitGateway.{SplitGateway}
use Rattle.gateway_run.specs.Seen.{Seen}

abbrev pub AsksFor : SplitGateway → Config → Option ℕ → Type 0
AsksFor s c None = NoneWanted s
AsksFor s c (Some input) = IsAsked s (place_of Joint c input)

pub AsksFor-prop : (s : SplitGateway) (c : Config) (asked : Option ℕ) → IsProp (AsksFor s c asked)
AsksFor-prop s c None = Prim.hlevel logic.props
AsksFor-prop s c (Some input) = Prim.hlevel logic.props

pub IsOf-prop : (s : SplitGateway) (c : Config) → IsProp (config_of s ≡ c)
IsOf-prop s c = Prim.hlevel logic.props

abbrev pub seen_of : SplitGateway → Config → Seen
seen_of s c = record {
  stands = SplitGatewayStandsFor s c;
  is_of = config_of s ≡ c;
  asks = AsksFor s c;
  wants = λ input. wants_of s (place_of Joint c input);
  of_prop = IsOf-prop s c;
  asks_prop = AsksFor-prop s c;
}
