-- The places of the PLPs of a network that are not common.
use Rattle.std.specs.Prelude.{◌≡◌, ◌≢◌, ◌<◌, ℕ, false, length}
use Rattle.plp_config.specs.Places.{IsPlace}
use Rattle.plp_config.specs.Plps.{plp_at}
use Rattle.plp_config.specs.declared.config.Config.{Config}
use Rattle.common_plp.specs.Groups.{is_common}

-- The PLP at a place has an identifier, no other has it, and it is not common.
pub record IsOwnPlace (c : Config) (id plp : ℕ) : Type 0 where
  pub place : IsPlace c id plp
  pub own : is_common c plp ≡ false

-- No PLP that is not common has it.
abbrev pub HasNoOwnPlace : Config → ℕ → Type 0
HasNoOwnPlace c id = (plp : ℕ) → plp < length c.plps → is_common c plp ≡ false → (plp_at c.plps plp).id ≢ id
