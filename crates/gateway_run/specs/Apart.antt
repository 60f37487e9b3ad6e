-- A gateway each of whose inputs goes in its own PLP. No public clause cites this module.
use Rattle.std.specs.Prelude.{◌≡◌, ◌<◌, ◌≤◌, ℕ, length, Option, Some, None}
use denote.Struct.Props as logic
use Rattle.plp_config.specs.declared.config.Config.{Config}
use Rattle.gateway_core.specs.StandsFor.{GatewayStandsFor, plps_of, wants_of}
use Rattle.gateway_core.specs.declared.gateway.Gateway.{Gateway}
use Rattle.gateway_run.specs.Seen.{Seen}

-- This is the first input from one on of which packets are wanted, or there is none below a count.
abbrev pub IsFirst : Gateway → ℕ → ℕ → Option ℕ → Type 0
IsFirst g from count None = (k : ℕ) → from ≤ k → k < count → wants_of g k ≡ 0
IsFirst g from count (Some plp) = (plp < count) × (0 < wants_of g plp) × ((k : ℕ) → from ≤ k → k < plp
    → wants_of g k ≡ 0)

pub IsFirst-prop : (g : Gateway) (from count : ℕ) (asked : Option ℕ) → IsProp (IsFirst g from count asked)
IsFirst-prop g from count None = Prim.hlevel logic.props
IsFirst-prop g from count (Some plp) = Prim.hlevel logic.props

pub IsOf-prop : (g : Gateway) (c : Config) → IsProp (plps_of g ≡ length c.plps)
IsOf-prop g c = Prim.hlevel logic.props

abbrev pub seen_of : Gateway → Config → Seen
seen_of g c = record {
  stands = GatewayStandsFor g c;
  is_of = plps_of g ≡ length c.plps;
  asks = IsFirst g 0 (length c.plps);
  wants = wants_of g;
  of_prop = IsOf-prop g c;
  asks_prop = IsFirst-prop g 0 (length c.plps);
}
