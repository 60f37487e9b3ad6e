-- In which order the inputs are looked at: group by group, slot by slot, input by input.
use Rattle.std.specs.Prelude.{◌≡◌, ◌⊎◌, ℕ, ◌*◌, ◌<◌, ◌==◌, Bool, false, List, length, unwrap_or, if◌then◌else◌}
use Rattle.plp_config.specs.SlotTime.{slots_by}
use Rattle.plp_config.specs.declared.config.Config.{Config}
use Rattle.common_plp.specs.Groups.{is_common, common_of, group_of, is_own_in}
use Rattle.gateway_core.specs.Events.{Event, offered, has_ended, begun}

-- A PLP has an input: it is not common.
abbrev pub IsInput : Config → ℕ → Type 0
IsInput c plp = (plp < length c.plps) × (is_common c plp ≡ false)

-- the first PLP of the group of a PLP: the common one; a PLP without a common one is a group alone
abbrev pub turn_of : Config → ℕ → ℕ
turn_of c plp = unwrap_or (common_of c plp) plp

-- whether a PLP has an input in the group whose first PLP is this one
abbrev pub is_member : Config → ℕ → ℕ → Bool
is_member c turn plp = if is_common c turn then is_own_in c (group_of c turn) plp else plp == turn

-- A slot of a PLP is looked at before one of another: that of an earlier group, or of the same group an earlier slot,
-- or the same slot of an earlier PLP.
abbrev pub IsEarlier : Config → ℕ → ℕ → ℕ → ℕ → Type 0
IsEarlier c plp slot other late =
    (turn_of c plp < turn_of c other) ⊎ ((turn_of c plp ≡ turn_of c other)
    × ((slot < late) ⊎ ((slot ≡ late) × (plp < other))))

-- The next frame wants a packet of an input.
pub record IsWanted (c : Config) (events : List Event) (plp : ℕ) : Type 0 where
  pub input : IsInput c plp
  pub is_open : has_ended plp events ≡ false
  pub less : length (offered plp events) < slots_by c plp (begun events * c.ticks)

-- It wants one of this input, and no slot of another that is looked at before.
pub record IsWantedFirst (c : Config) (events : List Event) (plp : ℕ) : Type 0 where
  pub wanted : IsWanted c events plp
  pub first : (other : ℕ) → IsWanted c events other
      → ¬ (IsEarlier c other (length (offered other events)) plp (length (offered plp events)))
