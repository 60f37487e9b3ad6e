-- The ranges of a plan's numbers, as the rules and the tests give them.
use Rattle.std.specs.Prelude.{◌<◌, ◌≤◌, ◌^◌, length}
use Rattle.plp_config.specs.declared.config.Config.{Config}
use Rattle.plp_config.specs.declared.config.TheConstants.{MOST_CELLS}

pub record HasRanges (c : Config) : Type 0 where
  pub ticks : (1000 ≤ c.ticks) × (c.ticks < 2 ^ 22)
  pub frames : (2 ≤ c.frames) × (c.frames ≤ 255)
  pub cells : (2025 ≤ c.cells) × (c.cells ≤ MOST_CELLS)
  pub sub_slices : (1 ≤ c.sub_slices) × (c.sub_slices ≤ 6480)
  pub plps : (1 ≤ length c.plps) × (length c.plps ≤ 255)
