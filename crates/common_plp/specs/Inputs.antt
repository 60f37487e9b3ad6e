-- How inputs belong to the PLPs of a network.
use Rattle.std.specs.Prelude.{ℕ, ◌+◌, ◌-◌, List, [], ◌∷◌, length, if◌then◌else◌}
use Rattle.plp_config.specs.declared.config.Config.{Config}
use Rattle.plp_config.specs.declared.plp.Plp.{Plp}
use Rattle.common_plp.specs.Groups.{is_common_type}
use Rattle.common_plp.specs.Sharing.{Sharing, Apart, Joint}
use Rattle.common_plp.specs.Split.{split}

-- how many common PLPs stand at the front of some PLPs: in a network all common ones stand there
abbrev pub commons : List Plp → ℕ
commons [] = 0
commons (p ∷ plps) = if is_common_type p.plp_type then commons plps + 1 else 0

-- the PLP of an input: the inputs belong to the PLPs in their order; to those that are not common, if these carry what
-- is shared
abbrev pub place_of : Sharing → Config → ℕ → ℕ
place_of Apart c input = input
place_of Joint c input = input + commons c.plps

-- how many inputs there are
abbrev pub input_count : Sharing → Config → ℕ
input_count Apart c = length c.plps
input_count Joint c = length c.plps - commons c.plps

-- what goes in each PLP
abbrev pub streams_by : Sharing → Config → (ℕ → List (List ℕ)) → ℕ → List (List ℕ)
streams_by Apart c inputs = inputs
streams_by Joint c inputs = split c (λ plp. inputs (plp - commons c.plps))
