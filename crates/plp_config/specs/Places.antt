-- The places of the PLPs of a configuration.
use Rattle.std.specs.Prelude.{◌≡◌, ◌≢◌, ℕ, ◌<◌, List, length}
use Rattle.std.specs.List.{range_with_len}
use Rattle.plp_config.specs.FirstFailure.{HoldsBelow}
use Rattle.plp_config.specs.Plps.{plp_at, StandsAlone}
use Rattle.plp_config.specs.declared.config.Config.{Config}

-- in configuration order
abbrev pub places : Config → List ℕ
places c = range_with_len 0 (length c.plps)

-- The PLP at a place has an identifier, and no other has it.
pub record IsPlace (c : Config) (id place : ℕ) : Type 0 where
  pub inside : place < length c.plps
  pub own : (plp_at c.plps place).id ≡ id
  pub others : (plp : ℕ) → plp < length c.plps → plp ≢ place → (plp_at c.plps plp).id ≢ id

-- No PLP has it.
abbrev pub HasNoPlace : Config → ℕ → Type 0
HasNoPlace c id = (plp : ℕ) → plp < length c.plps → (plp_at c.plps plp).id ≢ id

-- Each interleaving frame of every PLP is carried by one frame.
abbrev pub FramesStandAlone : Config → Type 0
FramesStandAlone c = HoldsBelow (StandsAlone c.plps) (length c.plps)
