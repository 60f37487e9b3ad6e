-- How the common PLPs of a network are used.
use Rattle.std.specs.Prelude.{ℕ, None}
use Rattle.std.specs.declared.option.Option.{Option}
use Rattle.plp_config.specs.Places.{IsPlace, HasNoPlace}
use Rattle.plp_config.specs.declared.config.Config.{Config}
use Rattle.common_plp.specs.Groups.{common_of}
use Rattle.common_plp.specs.Places.{IsOwnPlace, HasNoOwnPlace}

-- A common PLP is one like any other, with an input of its own; or it carries what the inputs of its group share.
pub data Sharing : Type 0 where
  Apart : Sharing
  Joint : Sharing

-- what is joined with a PLP
abbrev pub joined_with : Sharing → Config → ℕ → Option ℕ
joined_with Apart c plp = None
joined_with Joint c plp = common_of c plp

-- The PLP at a place has an identifier, and a stream of its own.
abbrev pub IsPlaceBy : Sharing → Config → ℕ → ℕ → Type 0
IsPlaceBy Apart c id plp = IsPlace c id plp
IsPlaceBy Joint c id plp = IsOwnPlace c id plp

-- No such PLP has it.
abbrev pub HasNoPlaceBy : Sharing → Config → ℕ → Type 0
HasNoPlaceBy Apart c id = HasNoPlace c id
HasNoPlaceBy Joint c id = HasNoOwnPlace c id
