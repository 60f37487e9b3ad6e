-- The ranges of a configuration's numbers by their types.
use Rattle.std.specs.Prelude.{ℕ, ◌<◌, ◌^◌, length}
use Rattle.plp_config.specs.Plps.{plp_at}
use Rattle.plp_config.specs.declared.config.Config.{Config}
use Rattle.record_laws.specs.Frames.{HasByteIds}

-- The numbers of a configuration fit their types, if no rule says so.
pub record TypesFit (c : Config) : Type 0 where
  pub ids : HasByteIds c
  pub groups : (plp : ℕ) → plp < length c.plps → (plp_at c.plps plp).group < 2 ^ 8
  pub tx_id : c.l1.tx_id < 2 ^ 8
  pub cell_id : c.cell_id < 2 ^ 16
  pub network_id : c.network_id < 2 ^ 16
  pub system_id : c.system_id < 2 ^ 16
  pub frequency : c.frequency < 2 ^ 32
