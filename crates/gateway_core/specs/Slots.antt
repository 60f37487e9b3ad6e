-- The packets of the slot under way. No public clause cites this module.
use Rattle.std.specs.Prelude.{◌≡◌, ◌≢◌, ◌⊎◌, ℕ, ◌<◌, ◌≤◌, ◌&&◌, Bool, true, false, List, [], ◌∷◌, length, map, is_some}
use Rattle.std.specs.Prelude.{Some, None, if◌then◌else◌, slice_index_or}
use Rattle.std.specs.declared.option.Option.{Option}
use Rattle.std.specs.List.{flat_map, list_any, range_with_len}
use Rattle.plp_config.specs.declared.config.Config.{Config}
use Rattle.ts_packet.specs.Null.{null_packet}
use Rattle.common_plp.specs.Groups.{is_common, group_of, own_places}
use Rattle.common_plp.specs.Shared.{common_packet, is_shared}
use Rattle.gateway_core.specs.Events.{Event, Offered, Ended}
use Rattle.gateway_core.specs.StandsFor.{wants_of}
use Rattle.gateway_core.specs.declared.gateway.Gateway.{Gateway}
use Rattle.gateway_core.specs.Order.{is_member}

-- the packet that is held of a PLP's input
abbrev pub held_at : List (Option (List ℕ)) → ℕ → Option (List ℕ)
held_at held plp = slice_index_or held plp None

-- Nothing of the slot is still to come from an input of a group: its packet is held, or none is wanted.
abbrev pub HasCome : Config → Gateway → List (Option (List ℕ)) → ℕ → ℕ → Type 0
HasCome c g held turn plp = is_member c turn plp ≡ true → (wants_of g plp ≡ 0) ⊎ (held_at held plp ≢ None)

-- One is to come of it.
pub record ComesOf (c : Config) (g : Gateway) (held : List (Option (List ℕ))) (turn plp : ℕ) : Type 0 where
  pub member : is_member c turn plp ≡ true
  pub none : held_at held plp ≡ None
  pub some : 0 < wants_of g plp

-- The first input of a group of which a packet is to come is this one, or there is none below a count.
pub record ComesNext (c : Config) (g : Gateway) (held : List (Option (List ℕ))) (turn count plp : ℕ) : Type 0 where
  pub inside : plp < count
  pub comes : ComesOf c g held turn plp
  pub before : (other : ℕ) → other < plp → HasCome c g held turn other

abbrev pub FindsNext : Config → Gateway → List (Option (List ℕ)) → ℕ → ℕ → Option ℕ → Type 0
FindsNext c g held turn count None = (plp : ℕ) → plp < count → HasCome c g held turn plp
FindsNext c g held turn count (Some plp) = ComesNext c g held turn count plp

-- whether the packet of an input is held, which is in a group
abbrev pub is_held_in : Config → List (Option (List ℕ)) → ℕ → ℕ → Bool
is_held_in c held turn plp = is_member c turn plp && is_some (held_at held plp)

-- what is seen of an input that is in a group
abbrev pub seen_of : Config → List (Option (List ℕ)) → ℕ → ℕ → List (Option (List ℕ))
seen_of c held turn plp = if is_member c turn plp then held_at held plp ∷ [] else []

-- whether a packet is held of an input of a group
abbrev pub any_held : Config → List (Option (List ℕ)) → ℕ → ℕ → Bool
any_held c held turn count = list_any (is_held_in c held turn) (range_with_len 0 count)

-- Each packet that is held is wanted.
abbrev pub HeldWanted : Config → Gateway → List (Option (List ℕ)) → Type 0
HeldWanted c g held = (plp : ℕ) → is_common c plp ≡ false → held_at held plp ≢ None → 0 < wants_of g plp

-- what goes on of a packet that is held, and what is done to the gateway with it
abbrev pub going_on : Bool → List ℕ → List ℕ
going_on shared packet = if shared then null_packet else packet

abbrev pub offered_of : ℕ → Bool → Option (List ℕ) → List Event
offered_of plp shared None = []
offered_of plp shared (Some packet) = Offered plp (going_on shared packet) ∷ []

abbrev pub passed_of : Config → List (Option (List ℕ)) → ℕ → Bool → ℕ → List Event
passed_of c held turn shared plp = if is_member c turn plp then offered_of plp shared (held_at held plp) else []

-- what goes on of the inputs of a group below a count
abbrev pub passed : Config → List (Option (List ℕ)) → ℕ → Bool → ℕ → List Event
passed c held turn shared count = flat_map (passed_of c held turn shared) (range_with_len 0 count)

-- what is held behind it
abbrev pub kept_of : Config → List (Option (List ℕ)) → ℕ → ℕ → Option (List ℕ)
kept_of c held turn plp = if is_member c turn plp then None else held_at held plp

-- What is held of a PLP went on, and nothing else.
pub record PassesOne (c : Config) (held : List (Option (List ℕ))) (turn plp : ℕ) (now : List (Option (List ℕ))) :
    Type 0 where
  pub size : length now ≡ length held
  pub here : held_at now plp ≡ kept_of c held turn plp
  pub others : (other : ℕ) → other ≢ plp → held_at now other ≡ held_at held other

-- What is held of the inputs of a group below a count did, and nothing else.
pub record PassesOn (c : Config) (held : List (Option (List ℕ))) (turn count : ℕ) (now : List (Option (List ℕ))) :
    Type 0 where
  pub size : length now ≡ length held
  pub below : (plp : ℕ) → plp < count → held_at now plp ≡ kept_of c held turn plp
  pub behind : (plp : ℕ) → count ≤ plp → held_at now plp ≡ held_at held plp

-- what is held of the inputs of a common PLP's group
abbrev pub slot_in : Config → List (Option (List ℕ)) → ℕ → List (Option (List ℕ))
slot_in c held turn = map (held_at held) (own_places c (group_of c turn))

-- what is done to the gateway when all of a slot has come: the common PLP is given what is shared, and each input's PLP
-- what is not;
-- or the common PLP's stream ends, since all of its group did
abbrev pub share_events : Config → List (Option (List ℕ)) → ℕ → ℕ → List Event
share_events c held turn count =
    Offered turn (common_packet (slot_in c held turn)) ∷ passed c held turn (is_shared (slot_in c held turn)) count

abbrev pub pass_events : Config → List (Option (List ℕ)) → ℕ → ℕ → List Event
pass_events c held turn count =
    if any_held c held turn count
    then (if is_common c turn then share_events c held turn count else passed c held turn false count)
    else Ended turn ∷ []

-- The wants of other PLPs stay.
abbrev pub OthersWant : Config → ℕ → Gateway → Gateway → Type 0
OthersWant c turn old new = (plp : ℕ) → is_member c turn plp ≡ false → plp ≢ turn → wants_of new plp ≡ wants_of old plp
