-- What a dynamic part tells of the PLPs. No public clause cites this module.
use Rattle.std.specs.Prelude.{◌<◌, ◌≤◌, ℕ, Bool, List, [], length, slice_index, IsSome}
use Rattle.std.specs.declared.option.Option.{Option}
use Rattle.std.specs.Option.{option_map_or}
use Rattle.plp_config.specs.Plps.{plp_at}
use Rattle.plp_config.specs.declared.config.Config.{Config}
use Rattle.l1_signal.specs.L1Dynamic.{dyn_read}
use Rattle.l1_signal.specs.L1Of.{told_shape}
use Rattle.l1_signal.specs.declared.dynamic.L1Dyn.{L1Dyn}
use Rattle.frame_groups.specs.Tests.{read_whole}

-- what a dynamic part tells, if it reads, and how many blocks of each PLP (PLP_NUM_BLOCKS)
abbrev pub told_by : Config → List Bool → Option L1Dyn
told_by c dynamic = read_whole (dyn_read (length c.plps) dynamic)

abbrev pub counts_told : Config → List Bool → List ℕ
counts_told c dynamic = option_map_or (λ d. (told_shape d).counts) (told_by c dynamic) []

-- It reads, and tells no PLP more blocks than it may have.
pub record TellsCounts (c : Config) (dynamic : List Bool) : Type 0 where
  pub reads : IsSome (told_by c dynamic)
  pub few : (plp : ℕ) → plp < length c.plps → slice_index (counts_told c dynamic) plp ≤ (plp_at c.plps plp).blocks
