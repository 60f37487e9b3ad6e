-- The groups of a network (EN 302 755, clauses 4.2 and 7.2.3.1): what the PLPs of one group have in common goes in its
-- common PLP.
use Rattle.std.specs.Prelude.{ℕ, ◌==◌, ◌&&◌, not, Bool, true, false, List, map, filter, None, if◌then◌else◌}
use Rattle.std.specs.List.{find}
use Rattle.std.specs.declared.option.Option.{Option}
use Rattle.plp_config.specs.Places.{places}
use Rattle.plp_config.specs.Plps.{plp_at}
use Rattle.plp_config.specs.declared.config.Config.{Config}
use Rattle.plp_config.specs.declared.plp.PlpType.{PlpType}
use Rattle.plp_config.specs.declared.plp.PlpType.TheVariants.{Common, Type1, Type2}

abbrev pub is_common_type : PlpType → Bool
is_common_type Common = true
is_common_type Type1 = false
is_common_type Type2 = false

-- the PLP at a place is the common one of its group
abbrev pub is_common : Config → ℕ → Bool
is_common c place = is_common_type (plp_at c.plps place).plp_type

-- its group
abbrev pub group_of : Config → ℕ → ℕ
group_of c place = (plp_at c.plps place).group

-- the PLP at a place is the common one of this group; it is another one of it
abbrev pub is_common_in : Config → ℕ → ℕ → Bool
is_common_in c group place = is_common c place && (group_of c place == group)

abbrev pub is_own_in : Config → ℕ → ℕ → Bool
is_own_in c group place = not (is_common c place) && (group_of c place == group)

-- the common PLP of the group of a PLP: none if the group has none, or if it is this one
abbrev pub common_of : Config → ℕ → Option ℕ
common_of c plp = if is_common c plp then None else find (is_common_in c (group_of c plp)) (places c)

-- the places of a group's PLPs that are not common
abbrev pub own_places : Config → ℕ → List ℕ
own_places c group = filter (is_own_in c group) (places c)

-- the places of all PLPs that are not common: each has an input
abbrev pub input_places : Config → List ℕ
input_places c = filter (λ place. not (is_common c place)) (places c)

-- what is told of the groups of a network: the common PLP of each PLP, and the PLPs that have an input
pub record Grouping : Type 0 where
  pub commons : List (Option ℕ)
  pub inputs : List ℕ

unfoldable pub grouping_of : Config → Grouping
grouping_of c = record { commons = map (common_of c) (places c); inputs = input_places c }
