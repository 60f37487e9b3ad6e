-- Numbers of three networks that were counted apart, not by this program.
use Rattle.std.specs.Prelude.{◌≡◌, ◌⊎◌, ◌<◌, ◌≤◌, ◌%◌, ◌==◌, ◌&&◌, nat_le, not, ℕ, List, [], ◌∷◌, length, take}
use Rattle.std.specs.List.{range_with_len, AllByRecursion}
use Rattle.terms.specs.Bits.{bytes_of}
use Rattle.ts_packet.specs.Null.{null_packet}
use Rattle.null_delete.specs.Deletion.{packet_at}
use Rattle.site_frame.specs.declared.reading.RecordView.{RecordView}
use Rattle.site_frame.specs.declared.reading.RecordView.TheVariants.{Frame, Muted}
use Rattle.record_laws.specs.Frames.{sent_blocks, frame_of, run_frames}
use Rattle.record_laws.specs.Records.{record_numbers}
use Rattle.record_laws.specs.Recover.{due_slots, recovered}
use Rattle.record_laws.specs.Networks.{small_network, narrow_network, large_network, small_pre, small_post, data_packet}
use Rattle.record_laws.specs.Networks.{data_packets}
use Rattle.record_laws.specs.Laws.{frame_len}
use Rattle.mode_adapt.specs.Blocks.{plp_blocks}

-- The records of the small network's frame without a block, and of the large one's with none, 209 and one.
pub record CountedLengths : Type 0 where
  pub small : frame_len small_network (λ plp. 0) ≡ 160103
  pub large : frame_len large_network (λ plp. 0) ≡ 6800103
  pub full : frame_len large_network (λ plp. 209) ≡ 7925359
  pub one : frame_len large_network (λ plp. 1) ≡ 6805487

-- Frame 1 of the small network has four blocks of 20 packets.
abbrev pub CountedBlocks : Type 0
CountedBlocks = length (plp_blocks small_network (λ plp. data_packets 20) 1 0) ≡ 4

-- Each block of the small network is sent as FF F6 and so on: that is FC 00, scrambled.
abbrev pub CountedStart : Type 0
CountedStart = (inputs : ℕ → List (List ℕ)) (n : ℕ)
    → AllByRecursion (λ b. (b.plp_id ≡ 0) × (take 2 b.bytes ≡ 0xFF ∷ 0xF6 ∷ []))
    (sent_blocks small_network (plp_blocks small_network inputs n))

-- L1-pre and L1-post as they stand in a record; a muted one has none
abbrev pub pre_bytes : RecordView → List ℕ
pre_bytes (Frame moment pre post blocks cells) = bytes_of pre
pre_bytes (Muted moment) = []

abbrev pub post_bytes : RecordView → List ℕ
post_bytes (Frame moment pre post blocks cells) = bytes_of post
post_bytes (Muted moment) = []

-- Each frame of the small network has this L1-pre, with its CRC_32, and its frame 1, of 20 packets, this L1-post.
abbrev pub CountedPre : Type 0
CountedPre = (inputs : ℕ → List (List ℕ)) (n : ℕ) → pre_bytes (frame_of small_network inputs n) ≡ small_pre

abbrev pub CountedPost : Type 0
CountedPost = post_bytes (frame_of small_network (λ plp. data_packets 20) 1) ≡ small_post

-- How many frames a run has: the small network without a packet, the narrow one with 110 packets.
pub record CountedFrames : Type 0 where
  pub empty : length (run_frames small_network (λ plp. [])) ≡ 4
  pub narrow : length (run_frames narrow_network (λ plp. data_packets 110)) ≡ 12

-- Of twelve frames: those from frame 7 on are whole, or all but frames 3 and 4; of four, only those that begin no
-- superframe.
pub record CountedRecords : Type 0 where
  pub late : record_numbers narrow_network (λ n. nat_le 7 n) 12 ≡ 8 ∷ 9 ∷ 10 ∷ 11 ∷ []
  pub gap : record_numbers narrow_network (λ n. not (n == 3) && not (n == 4)) 12 ≡ range_with_len 0 12
  pub none : record_numbers small_network (λ n. n % 2 == 1) 4 ≡ []

-- Slots that are due: of the small network after 4 and 24 frames, of the large one after 8, of the narrow one after
-- frames 8 to
-- 11.
pub record CountedSlots : Type 0 where
  pub four : length (due_slots small_network 0 0 4) ≡ 14
  pub more : length (due_slots small_network 0 0 24) ≡ 305
  pub large : length (due_slots large_network 0 0 8) ≡ 29809
  pub late : due_slots narrow_network 0 8 4 ≡ range_with_len 97 27

-- the packet in a slot of the narrow network, which is sent 110 packets, none null, if frames 3 and 4 are muted
abbrev pub narrow_recovered : ℕ → List ℕ
narrow_recovered k = recovered narrow_network 0 100000 (packet_at (data_packets 110)) (3 ∷ 4 ∷ []) k

-- Then the packets of the slots 26 to 54 are lost, and no other.
pub record CountedLoss : Type 0 where
  pub kept : (k : ℕ) → k < 110 → (k < 26) ⊎ (54 < k) → narrow_recovered k ≡ data_packet
  pub lost : (k : ℕ) → 26 ≤ k → k ≤ 54 → narrow_recovered k ≡ null_packet
