-- Laws of streams with common packets.
use Rattle.std.specs.Prelude.{◌≡◌, ◌<◌, ℕ, false, List, ◌++◌, length, take, slice_get, slice_index, slice_index_or}
use Rattle.std.specs.Prelude.{is_some, Some, None, if◌then◌else◌}
use Rattle.plp_config.specs.Plps.{spread}
use Rattle.plp_config.specs.Rules.{AllRules}
use Rattle.plp_config.specs.SlotTimes.{slot_times}
use Rattle.plp_config.specs.declared.config.Config.{Config}
use Rattle.ts_packet.specs.Null.{is_null, null_packet}
use Rattle.null_delete.specs.Deletion.{packet_at}
use Rattle.common_plp.specs.Groups.{Grouping, grouping_of, is_common, common_of, group_of}
use Rattle.common_plp.specs.Shared.{common_packet, own_packet, joined_packet}
use Rattle.common_plp.specs.Split.{slot_of, longest, group_streams, split, joined}

-- The first slots of all streams decide the first slots of what goes in each PLP.
abbrev pub SplitFront : Type 0
SplitFront = (c : Config) (inputs : ℕ → List (List ℕ)) (plp n : ℕ)
    → take n (split c inputs plp) ≡ split c (λ place. take n (inputs place)) plp

-- what goes in a PLP in a slot, also behind the end of its stream
abbrev pub split_packet : Config → (ℕ → List (List ℕ)) → ℕ → ℕ → List ℕ
split_packet c inputs plp k =
    if is_common c plp then common_packet (slot_of (group_streams c inputs (group_of c plp)) k)
    else if is_some (common_of c plp)
    then own_packet (slot_of (group_streams c inputs (group_of c plp)) k) (packet_at (inputs plp) k)
    else packet_at (inputs plp) k

abbrev pub SplitSlot : Type 0
SplitSlot = (c : Config) (inputs : ℕ → List (List ℕ)) (plp k : ℕ) → packet_at (split c inputs plp) k ≡ split_packet
    c inputs plp k

-- The stream of a common PLP is as long as the longest one of its group, and any other as its input.
abbrev pub split_length : Config → (ℕ → List (List ℕ)) → ℕ → ℕ
split_length c inputs plp = if is_common c plp then longest (group_streams c inputs (group_of c plp))
    else length (inputs plp)

abbrev pub SplitLength : Type 0
SplitLength = (c : Config) (inputs : ℕ → List (List ℕ)) (plp : ℕ) → length (split c inputs plp) ≡ split_length
    c inputs plp

-- What goes in a PLP and in the common one of its group gives its packets again, and null packets as the canonical one.
abbrev pub JoinedAgain : Type 0
JoinedAgain = (c : Config) (inputs : ℕ → List (List ℕ)) (plp common k : ℕ) → plp < length c.plps
    → common_of c plp ≡ Some common
    → joined_packet (packet_at (split c inputs common) k) (packet_at (split c inputs plp) k)
    ≡ (if is_null (packet_at (inputs plp) k) then null_packet else packet_at (inputs plp) k)

-- What is told of the groups of a network: of each PLP, and of the places of inputs, which are those of PLPs that are
-- not common.
pub record IsGrouping (c : Config) (g : Grouping) : Type 0 where
  pub plps : length g.commons ≡ length c.plps
  pub commons : (plp : ℕ) → plp < length c.plps → slice_index_or g.commons plp None ≡ common_of c plp
  pub inside : (plp common : ℕ) → common_of c plp ≡ Some common → common < length c.plps
  pub place : (input : ℕ) → input < length g.inputs → slice_index g.inputs input < length c.plps
  pub own : (input : ℕ) → input < length g.inputs → is_common c (slice_index g.inputs input) ≡ false

abbrev pub GroupingTold : Type 0
GroupingTold = (c : Config) → IsGrouping c (grouping_of c)

-- Streams together again: how many slots, what comes of each, and the first slots of longer streams.
pub record JoinedSlots : Type 0 where
  pub count : (common own : List (List ℕ)) → length (joined common own) ≡ length own
  pub slot : (common own : List (List ℕ)) (k : ℕ) → k < length own
      → slice_get (joined common own) k ≡ Some (joined_packet (packet_at common k) (packet_at own k))
  pub more : (common own more others : List (List ℕ)) → length common ≡ length own
      → joined (common ++ more) (own ++ others) ≡ joined common own ++ joined more others

-- A PLP and the common one of its group have the same slots and interleaving frames.
abbrev pub InStep : Type 0
InStep = (c : Config) (plp common : ℕ) → AllRules c → plp < length c.plps → common_of c plp ≡ Some common
    → (slot_times c common ≡ slot_times c plp) × (spread c.plps common ≡ spread c.plps plp)
