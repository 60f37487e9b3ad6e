-- What comes back of the packets of a group with a common PLP.
use Rattle.std.specs.Prelude.{◌≡◌, ◌<◌, ℕ, not, Bool, List, length, map, Some, if◌then◌else◌}
use Rattle.std.specs.List.{AllByRecursion, range_with_len}
use Rattle.ts_packet.specs.Null.{is_null, null_packet}
use Rattle.plp_config.specs.Capacity.{IsPlan}
use Rattle.plp_config.specs.SlotTime.{epoch_ticks}
use Rattle.plp_config.specs.declared.config.Config.{Config}
use Rattle.null_delete.specs.Deletion.{packet_at}
use Rattle.mode_adapt.specs.Blocks.{rates_of, plp_keeps}
use Rattle.record_laws.specs.Records.{record_of}
use Rattle.record_laws.specs.Recover.{due_slots, is_touched, lost_frames}
use Rattle.stream_laws.specs.Types.{TypesFit}
use Rattle.network_laws.specs.ToldEpochs.{IsPacket}
use Rattle.common_plp.specs.Groups.{common_of, group_of}
use Rattle.common_plp.specs.Shared.{is_shared}
use Rattle.common_plp.specs.Split.{slot_of, group_streams, split}
use Rattle.plp_receiver.specs.JoinedBack.{JoinedBack}

-- Every interleaving frame that carries a byte of the user packet of slot k of a PLP, in each of whose slots is the
-- packet that `at` tells, is there: all its frames are among so many from one on, and none of them is muted.
abbrev pub is_whole : Config → ℕ → (ℕ → List ℕ) → (ℕ → Bool) → ℕ → ℕ → ℕ → Bool
is_whole c plp at muted first count k =
    not (is_touched (rates_of c plp (epoch_ticks c plp)) (plp_keeps c plp at) (lost_frames c plp muted first count) k)

-- so it is of the PLP that a slot of a stream is sent in: the common one, if all streams of the group share a packet in
-- it, and else its own
abbrev pub is_whole_slot : Config → (ℕ → List (List ℕ)) → ℕ → ℕ → (ℕ → Bool) → ℕ → ℕ → ℕ → Bool
is_whole_slot c inputs common plp muted first count k =
    if is_shared (slot_of (group_streams c inputs (group_of c plp)) k)
    then is_whole c common (packet_at (split c inputs common)) muted first count k
    else is_whole c plp (packet_at (split c inputs plp)) muted first count k

-- the packet of a slot, if it is not null and is whole, and else the canonical null packet
abbrev pub comes_back : Config → (ℕ → List (List ℕ)) → ℕ → ℕ → (ℕ → Bool) → ℕ → ℕ → ℕ → List ℕ
comes_back c inputs common plp muted first count k =
    if is_null (packet_at (inputs plp) k) then null_packet
    else if is_whole_slot c inputs common plp muted first count k then packet_at (inputs plp) k else null_packet

-- What a PLP of a group with a common PLP is given back together with it of the records of a plan's frames, whose
-- inputs are the streams into which these inputs are split, and of which those that are not whole are muted.
abbrev pub CommonComesBack : Type 0
CommonComesBack = (c : Config) (common plp : ℕ) (inputs : ℕ → List (List ℕ)) (whole : ℕ → Bool) (first count : ℕ)
    (packets : List (List ℕ)) → IsPlan c → TypesFit c → plp < length c.plps → common_of c plp ≡ Some common
    → ((input : ℕ) → AllByRecursion IsPacket (inputs input))
    → JoinedBack c plp first (map (record_of c (split c inputs) whole) (range_with_len first count)) packets
    → packets ≡ map (comes_back c inputs common plp (λ m. not (whole m)) first count) (due_slots c plp first count)
