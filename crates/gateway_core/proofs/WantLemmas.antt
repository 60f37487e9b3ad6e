-- What a gateway wants of an input.
use Rattle.std.proofs.Common.{◌≡◌, ℕ, ◌-◌, ◌<◌, ◌≤◌, Bool, true, false, cond, List, refl, arith}
use Rattle.std.proofs.lemmas.Bool.{true≢false}
use Rattle.plp_config.specs.declared.config.Config.{Config}
use Rattle.gateway_core.specs.Events.{Event}
use Rattle.gateway_core.specs.StandsFor.{GatewayStandsFor, plps_of, wants_of, wants_by}
use Rattle.gateway_core.specs.declared.gateway.Gateway.{Gateway}
use Rattle.gateway_core.proofs.HoldsLemmas.{wants_are}

pub wants_is : (g : Gateway) (c : Config) (events : List Event) (plp : ℕ) → GatewayStandsFor g c events
    → plp < plps_of g
    → wants_of g plp ≡ wants_by c events plp
unfolding GatewayStandsFor
wants_is g c events plp s lt = wants_are g.inputs.items _ plp c events lt s.1.fed

-- An input that has not ended has fewer packets than there are slots.
pub record IsWanted (ended : Bool) (n slots : ℕ) : Type 0 where
  pub is_open : ended ≡ false
  pub less : n < slots

pub some_wanted : (ended : Bool) (slots n wants : ℕ) → wants ≡ cond ended 0 (slots - n) → 0 < wants
    → IsWanted ended n slots
some_wanted true slots n wants e lt = absurd (omega (arith, e, lt))
some_wanted false slots n wants e lt = record { is_open = refl; less = omega (arith, e, lt) }

pub none_wanted : (ended : Bool) (slots n wants : ℕ) → wants ≡ cond ended 0 (slots - n) → wants ≡ 0 → ended ≡ false
    → slots ≤ n
none_wanted true slots n wants e z off = absurd (true≢false off)
none_wanted false slots n wants e z off = omega (arith, e, z)
