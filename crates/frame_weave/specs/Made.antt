-- A group that is made of packets. No public clause cites this module.
use Rattle.std.specs.Prelude.{◌≡◌, ◌≤◌, ◌+◌, ◌-◌, ℕ, Bool, true, false, List, [], ◌∷◌, length, map, slice_index}
use Rattle.std.specs.Prelude.{slice_index_or, Option, Some}
use Rattle.std.specs.List.{flat_map, range_with_len}
use Rattle.linked_pool.specs.Pool.{State, list_at}
use Rattle.plp_config.specs.declared.config.Config.{Config}
use Rattle.t2mi_packet.specs.declared.packet.Body.{Body}
use Rattle.frame_groups.specs.Groups.{Group}
use Rattle.frame_groups.specs.Carried.{L1Parts}
use Rattle.l1_signal.specs.declared.lengths.TheConstants.{PRE_BITS, MOST_CONF_BITS, MOST_DYN_BITS}
use Rattle.open_group.specs.Holds.{Holds}
use Rattle.open_group.specs.declared.group.PooledGroup.{PooledGroup}
use Rattle.frame_weave.specs.Woven.{group_with, block_body}
use Rattle.frame_weave.specs.declared.made.MadeGroup.{MadeGroup}

-- No group was before it.
abbrev pub IsAlone : PooledGroup → Type 0
IsAlone group = (g : Option Group) × Holds group [] g

-- It has the packets of frame n with these bodies; if there are none, it may be any group, which is forgotten.
abbrev pub HoldsBodies : Config → ℕ → Bool → PooledGroup → List Body → Type 0
HoldsBodies c n begun group [] = (begun ≡ false) × IsAlone group
HoldsBodies c n begun group (b ∷ bodies) = (begun ≡ true) × Holds group [] (Some (group_with c n (b ∷ bodies)))

abbrev pub HoldsMade : Config → ℕ → MadeGroup → List Body → Type 0
HoldsMade c n made bodies = HoldsBodies c n made.is_begun made.group bodies

-- The parts fit an L1-current.
pub record Fitting (l1 : L1Parts) : Type 0 where
  pub pre : length l1.pre ≡ PRE_BITS
  pub conf : length l1.conf ≤ MOST_CONF_BITS
  pub dynamic : length l1.dynamic ≤ MOST_DYN_BITS

-- the blocks at so many places of a PLP
abbrev pub slot_bodies : Config → ℕ → State → ℕ → ℕ → ℕ → List Body
slot_bodies c n pool plp first count =
    map (λ k. block_body c n plp (slice_index_or (list_at pool k) 0 [])) (range_with_len first count)

-- and those of the first PLPs
abbrev pub all_bodies : Config → ℕ → State → List ℕ → ℕ → List Body
all_bodies c n pool starts plps =
    flat_map (λ plp. slot_bodies c n pool plp (slice_index starts plp) (slice_index starts (plp + 1)
    - slice_index starts plp))
    (range_with_len 0 plps)
