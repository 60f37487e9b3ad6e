-- The PLPs of a configuration, by their places from 0.
use Rattle.std.specs.Prelude.{◌≡◌, ℕ, Bool, true, false, List, [], ◌∷◌, max, slice_index_or}
use Rattle.std.specs.List.{list_any}
use Rattle.plp_config.specs.declared.plp.Plp.{Plp}
use Rattle.plp_config.specs.declared.plp.PlpType.{PlpType}
use Rattle.plp_config.specs.declared.plp.PlpType.TheVariants.{Common, Type1, Type2}
use Rattle.plp_config.specs.declared.plp.FecSize.TheVariants.{Short}
use Rattle.plp_config.specs.declared.plp.Rate.TheVariants.{R1_2}
use Rattle.plp_config.specs.declared.plp.Modulation.TheVariants.{Qpsk}

-- what `plp_at` gives past the end, where nobody asks: the PLP that the check itself reads there
abbrev pub no_plp : Plp
no_plp = record {
  id = 0;
  plp_type = Common;
  group = 0;
  rate = R1_2;
  modulation = Qpsk;
  fec = Short;
  rotation = false;
  blocks = 0;
  interleave = 0;
  delete = false;
  bits_per_second = 0;
  spread = 0;
}

-- the PLP at a place
abbrev pub plp_at : List Plp → ℕ → Plp
plp_at plps place = slice_index_or plps place no_plp

-- PLP_TYPE (EN 302 755, clause 7.2.3.1)
abbrev pub type_number : PlpType → ℕ
type_number Common = 0
type_number Type1 = 1
type_number Type2 = 2

abbrev pub is_type2 : PlpType → Bool
is_type2 Common = false
is_type2 Type1 = false
is_type2 Type2 = true

-- the frames that carry an interleaving frame of the PLP at a place
abbrev pub spread : List Plp → ℕ → ℕ
spread plps place = (plp_at plps place).spread

-- the greatest spread
unfoldable pub spread_max : List Plp → ℕ
spread_max [] = 0
spread_max (plp ∷ plps) = max plp.spread (spread_max plps)

-- each interleaving frame of a PLP is carried by one frame
abbrev pub StandsAlone : List Plp → ℕ → Type 0
StandsAlone plps place = spread plps place ≡ 1

-- whether a PLP is of type 2
abbrev pub has_type2 : List Plp → Bool
has_type2 plps = list_any (λ plp. is_type2 plp.plp_type) plps
