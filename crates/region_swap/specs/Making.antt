-- The dynamic part of a frame whose PLP is replaced. No public clause cites this module.
use Rattle.std.specs.Prelude.{◌≡◌, ℕ, Bool, List, length, slice_set}
use Rattle.plp_config.specs.declared.config.Config.{Config}
use Rattle.l1_signal.specs.Lengths.{dyn_len}
use Rattle.gateway_core.specs.Signalling.{dyn_part}
use Rattle.region_swap.specs.Telling.{counts_told}
use Rattle.region_swap.specs.declared.dynamic.Dynamic.{Dynamic}

-- Another is made of what one tells, with so many blocks of the PLP.
pub record IsMade (c : Config) (n plp count : ℕ) (own bits : List Bool) : Type 0 where
  pub is : bits ≡ dyn_part c n (slice_set (counts_told c own) plp count)
  pub size : length bits ≡ dyn_len (length c.plps)

-- for how many PLPs a dynamic part has memory
abbrev pub plps_in : Dynamic → ℕ
plps_in d = length d.rows.plps
