-- How the parts of a swapper stand to each other. No public clause cites this module.
use Rattle.std.specs.Prelude.{◌≡◌, ℕ, ◌+◌, ◌≤◌, Bool, true, false, length, if◌then◌else◌}
use Rattle.plp_config.specs.declared.config.Config.{Config}
use Rattle.plp_config.specs.declared.moment.TheConstants.{MOST_FRAMES}
use Rattle.region_swap.specs.Left.{IsOver, number_of}
use Rattle.region_swap.specs.RegionFed.{IsRegionOf}
use Rattle.region_swap.specs.Making.{plps_in}
use Rattle.region_swap.specs.declared.dynamic.Dynamic.{Dynamic}
use Rattle.region_swap.specs.declared.place.SwapPlace.{SwapPlace}
use Rattle.region_swap.specs.declared.region.Region.{Region}

-- the frame that the region takes packets of: behind the frame under way, once that one was begun
abbrev pub next_by : Bool → ℕ → ℕ
next_by begun number = if begun then number + 1 else number

-- The region and the dynamic part are of the network; the frame under way may be, and the last one begun; between
-- frames nothing is left to build, and the list is free.
pub record AreParts (c : Config) (plp : ℕ) (region : Region) (dynamic : Dynamic) (dry : Bool) (place : SwapPlace)
    (number : ℕ)
    (begun : Bool) : Type 0 where
  pub region_is : IsRegionOf region c plp
  pub plps : plps_in dynamic ≡ length c.plps
  pub next_is : region.next ≡ next_by begun number
  pub early : number ≤ MOST_FRAMES
  pub last : number_of place ≤ MOST_FRAMES
  pub inside : place.plp ≤ length c.plps
  pub under_way : begun ≡ true → number_of place ≡ number
  pub over : dry ≡ true → IsOver place
  pub idle : begun ≡ false → dry ≡ true
  pub free : begun ≡ false → region.sends ≡ false
