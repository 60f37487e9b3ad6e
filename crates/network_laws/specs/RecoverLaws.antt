-- Laws of what a PLP is given back of the records of a gateway's frames.
use Rattle.std.specs.Prelude.{◌≡◌, ◌<◌, ◌≤◌, ℕ, ◌+◌, ◌-◌, ◌*◌, ◌^◌, not, Bool, true, List, ◌++◌, length, map, replicate}
use Rattle.std.specs.List.{AllByRecursion, AllZip, range_with_len, filter}
use Rattle.ts_packet.specs.Null.{is_null, null_packet}
use Rattle.plp_config.specs.Capacity.{IsPlan, up_bytes}
use Rattle.plp_config.specs.InterleavingFrames.{is_first}
use Rattle.plp_config.specs.Plps.{plp_at, spread}
use Rattle.plp_config.specs.SlotTime.{slots_by, epoch_ticks}
use Rattle.plp_config.specs.declared.config.Config.{Config}
use Rattle.null_delete.specs.Deletion.{packet_at}
use Rattle.mode_adapt.specs.Blocks.{blocks_of}
use Rattle.record_laws.specs.Frames.{run_frames}
use Rattle.site_frame.specs.RecordFile.{IsOnGrid}
use Rattle.record_laws.specs.Records.{record_of, records}
use Rattle.record_laws.specs.Recover.{due_slots, recovered, recover}
use Rattle.plp_receiver.specs.Readback.{slot_packet}
use Rattle.plp_receiver.specs.SlotEpochs.{string_of, readback}
use Rattle.plp_receiver.specs.Epochs.{slot_rule, epochs_in, Readback}
use Rattle.plp_receiver.specs.Taken.{IsTaken}
use Rattle.stream_laws.specs.Types.{TypesFit}
use Rattle.network_laws.specs.ToldEpochs.{IsPacket, ArePackets, IsEpoch, told_blocks, told_epochs, is_lost}
use Rattle.network_laws.specs.ToldEpochs.{ended_epochs}

-- The interleaving frames of every plan are epochs.
abbrev pub InterleavingIsEpoch : Type 0
InterleavingIsEpoch = (c : Config) (plp : ℕ) → IsPlan c → plp < length c.plps → IsEpoch c plp

-- The packet of each slot of these epochs but the last one is what they give back of it.
abbrev pub SlotRecovers : Type 0
SlotRecovers = (c : Config) (plp : ℕ) (at : ℕ → List ℕ) (lost : ℕ → Bool) (first count k : ℕ) → IsPlan c
    → plp < length c.plps
    → ArePackets at
    → slots_by c plp ((first - 1) * epoch_ticks c plp) ≤ k
    → k < slots_by c plp ((first + count - 2) * epoch_ticks c plp)
    → slot_packet (slot_rule c plp) (string_of (up_bytes c plp) first (told_epochs c plp at lost first count)) k
    ≡ recovered c plp (epoch_ticks c plp) at (filter lost (range_with_len first count)) k

-- Of the epochs that are not there only those that end with one of the frames carry something of a slot that is due.
abbrev pub LostEnded : Type 0
LostEnded = (c : Config) (plp : ℕ) (at : ℕ → List ℕ) (muted : ℕ → Bool) (first count : ℕ) → IsPlan c
    → plp < length c.plps
    → recover c plp at muted first count
    ≡ map (recovered c plp (epoch_ticks c plp) at
    (filter (is_lost c plp muted first count) (epochs_in (spread c.plps plp) first count)))
    (due_slots c plp first count)

-- Readback of the epochs that end with one of so many frames is what the frames give back.
abbrev pub ReadbackRecovers : Type 0
ReadbackRecovers = (c : Config) (plp : ℕ) (at : ℕ → List ℕ) (muted : ℕ → Bool) (first count : ℕ) → IsPlan c
    → plp < length c.plps → ArePackets at
    → readback (slot_rule c plp) first count (ended_epochs c plp at muted first count) ≡ recover c plp
    at muted first count

-- Each block of an epoch is taken, as what was sent.
abbrev pub BlocksTaken : Type 0
BlocksTaken = (c : Config) (plp : ℕ) (at : ℕ → List ℕ) (m : ℕ) → IsPlan c → plp < length c.plps
    → (plp_at c.plps plp).id < 2 ^ 8
    → ArePackets at
    → AllZip (IsTaken (plp_at c.plps plp).delete) (blocks_of c plp (epoch_ticks c plp) at m) (told_blocks c plp at m)

-- What a PLP is given back of the records of a plan's frames, of which those that are not whole are muted, is what the
-- frames give back.
abbrev pub RunRecovers : Type 0
RunRecovers = (c : Config) (plp : ℕ) (inputs : ℕ → List (List ℕ)) (whole : ℕ → Bool) (first count : ℕ)
    (packets : List (List ℕ))
    → IsPlan c → TypesFit c → plp < length c.plps → AllByRecursion IsPacket (inputs plp)
    → Readback c plp first (map (record_of c inputs whole) (range_with_len first count)) packets
    → packets ≡ recover c plp (packet_at (inputs plp)) (λ m. not (whole m)) first count

-- So it is of all records of a run, by the frame from which on they are on the grid.
abbrev pub RecordsRecover : Type 0
RecordsRecover = (c : Config) (plp : ℕ) (inputs : ℕ → List (List ℕ)) (whole : ℕ → Bool) (end first : ℕ)
    (packets : List (List ℕ))
    → IsPlan c → TypesFit c → plp < length c.plps → AllByRecursion IsPacket (inputs plp)
    → IsOnGrid c first (records c inputs whole end)
    → Readback c plp first (records c inputs whole end) packets
    → packets ≡ recover c plp (packet_at (inputs plp)) (λ m. not (whole m)) first (length (records c inputs whole end))

-- If null packets are deleted, a null packet is the canonical one.
abbrev pub IsCanonical : Bool → List ℕ → Type 0
IsCanonical deletes packet = deletes ≡ true → is_null packet ≡ true → packet ≡ null_packet

-- If all frames are whole, the first one begins an interleaving frame of the PLP, and the null packets of the input are
-- canonical if they are deleted, it is the packets of the slots that are due.
abbrev pub WholeComesBack : Type 0
WholeComesBack = (c : Config) (plp : ℕ) (inputs : ℕ → List (List ℕ)) (whole : ℕ → Bool) (first count : ℕ)
    (packets : List (List ℕ)) → IsPlan c → TypesFit c → plp < length c.plps
    → AllByRecursion IsPacket (inputs plp) → AllByRecursion (IsCanonical (plp_at c.plps plp).delete) (inputs plp)
    → is_first c plp first ≡ true → ((m : ℕ) → first ≤ m → m < first + count → whole m ≡ true)
    → Readback c plp first (map (record_of c inputs whole) (range_with_len first count)) packets
    → packets ≡ map (packet_at (inputs plp)) (due_slots c plp first count)

-- And of all frames of a run it is the packets of the input, and null packets behind them.
abbrev pub RunComesBack : Type 0
RunComesBack = (c : Config) (plp : ℕ) (inputs : ℕ → List (List ℕ)) (packets : List (List ℕ)) → IsPlan c → TypesFit c
    → plp < length c.plps
    → AllByRecursion IsPacket (inputs plp) → AllByRecursion (IsCanonical (plp_at c.plps plp).delete) (inputs plp)
    → Readback c plp 0 (run_frames c inputs) packets
    → (nulls : ℕ) × (packets ≡ inputs plp ++ replicate nulls null_packet)
