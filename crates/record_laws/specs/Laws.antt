-- Laws of frames, of records and of what is given back.
use Rattle.std.specs.Prelude.{◌≡◌, ◌⊎◌, ◌↔◌, ◌<◌, ◌≤◌, ◌^◌, ◌*◌, ◌+◌, ◌-◌, ◌%◌, ◌&&◌, ℕ, Bool, true, false, List, []}
use Rattle.std.specs.Prelude.{length}
use Rattle.std.specs.Prelude.{map, nat_le, nat_lt, not, sum_by, slice_get, Some, option_map, sum}
use Rattle.std.specs.List.{AllByRecursion, Contains, range_with_len}
use Rattle.plp_config.specs.Places.{places, FramesStandAlone}
use Rattle.terms.specs.Bits.{bytes_for}
use Rattle.ts_packet.specs.Null.{null_packet}
use Rattle.plp_config.specs.Capacity.{IsPlan, block_bytes, block_room}
use Rattle.plp_config.specs.Plps.{spread, StandsAlone}
use Rattle.plp_config.specs.Rules.{AllRules}
use Rattle.plp_config.specs.RunLength.{frame_count}
use Rattle.plp_config.specs.SlotTime.{num, den, slots_by, delay_ticks, released_count, IsReleased}
use Rattle.plp_config.specs.Emission.{emission}
use Rattle.plp_config.specs.declared.config.Config.{Config}
use Rattle.plp_config.specs.declared.plp.TheConstants.{MOST_BLOCK_BYTES}
use Rattle.scheduler.specs.Laws.{CountsFit}
use Rattle.scheduler.specs.Shape.{FrameShape, shape_of}
use Rattle.cell_map.specs.Address.{IsCarried, address_of}
use Rattle.cell_map.specs.CellMap.{Passes, ordinal_of}
use Rattle.l1_signal.specs.Lengths.{post_len}
use Rattle.site_frame.specs.RecordFile.{IsOnGrid}
use Rattle.site_frame.specs.Whole.{FitsRecord, record_len, block_size}
use Rattle.site_frame.specs.declared.reading.RecordView.TheVariants.{Muted}
use Rattle.site_frame.specs.Record.{Block, head_len, pre_len}
use Rattle.record_laws.specs.Frames.{sent_block, sent_blocks, frame_cells, frame_shape, frame_view, frame_of}
use Rattle.record_laws.specs.Frames.{HasByteIds}
use Rattle.record_laws.specs.Frames.{run_frames}
use Rattle.record_laws.specs.Records.{record_of, records}
use Rattle.record_laws.specs.Recover.{due_slots, recovered, is_there}
use Rattle.mode_adapt.specs.Blocks.{plp_blocks, own_blocks, told_count, told_counts, plp_keeps}

-- What a frame tells of its PLPs fits them: none has more blocks than it may.
abbrev pub ToldCountsFit : Type 0
ToldCountsFit = (c : Config) (inputs : ℕ → List (List ℕ)) (n : ℕ) → IsPlan c → CountsFit c (told_counts c inputs n)

-- how many bytes blocks have in a record, each with its head of four, if each PLP has so many
abbrev pub blocks_size : Config → (ℕ → ℕ) → ℕ
blocks_size c count = sum_by (λ plp. count plp * (4 + block_bytes c plp)) (places c)

-- how many bytes follow the head of a frame's record, whose L1-post has so many bits and whose PLPs have so many blocks
abbrev pub rest_size : Config → ℕ → (ℕ → ℕ) → ℕ
rest_size c bits count = pre_len + (4 + bytes_for bits) + (2 + blocks_size c count) + (4 + 4 * c.cells)

-- how many bytes the record of a frame has, if its L1-post is as long as always
abbrev pub frame_len : Config → (ℕ → ℕ) → ℕ
frame_len c count = head_len + rest_size c (post_len (length c.plps)) count

-- So many has that of frame n.
abbrev pub FrameLength : Type 0
FrameLength = (c : Config) (inputs : ℕ → List (List ℕ)) (n : ℕ) → record_len (frame_of c inputs n)
    ≡ frame_len c (λ plp. length (own_blocks c inputs n plp))

-- how many blocks the PLPs before one have
abbrev pub blocks_before : (ℕ → List (List Bool)) → ℕ → ℕ
blocks_before blocks plp = sum_by (λ before. length (blocks before)) (range_with_len 0 plp)

-- The blocks of a record are counted PLP by PLP: each stands behind those of the PLPs before its own.
abbrev pub BlockStands : Type 0
BlockStands = (c : Config) (blocks : ℕ → List (List Bool)) (plp block : ℕ) → plp < length c.plps
    → block < length (blocks plp)
    → slice_get (sent_blocks c blocks) (blocks_before blocks plp + block)
    ≡ option_map (sent_block c plp) (slice_get (blocks plp) block)

-- The ordinal of a block is counted among those of all interleaving frames that the frame carries.
abbrev pub OrdinalCounts : Type 0
OrdinalCounts = (c : Config) (inputs : ℕ → List (List ℕ)) (n plp block : ℕ) → plp < length c.plps
    → ordinal_of (frame_shape c inputs n) plp block ≡ sum_by (told_count c inputs n) (range_with_len 0 plp) + block

-- If each interleaving frame is carried by one frame, frame n has the blocks of those with its number, and their shape;
-- so each stands in its record at its ordinal.
pub record IsAlone (c : Config) (inputs : ℕ → List (List ℕ)) (n : ℕ) : Type 0 where
  pub count : (plp : ℕ) → plp < length c.plps → told_count c inputs n plp ≡ length (plp_blocks c inputs n plp)
  pub shape : frame_shape c inputs n ≡ shape_of c (map (λ plp. length (plp_blocks c inputs n plp)) (places c))
  pub blocks : sent_blocks c (own_blocks c inputs n) ≡ sent_blocks c (plp_blocks c inputs n)
  pub ordinal : (plp block : ℕ) → plp < length c.plps
      → ordinal_of (frame_shape c inputs n) plp block ≡ blocks_before (plp_blocks c inputs n) plp + block

abbrev pub AloneLaw : Type 0
AloneLaw = (c : Config) (inputs : ℕ → List (List ℕ)) (n : ℕ) → FramesStandAlone c → IsAlone c inputs n

-- Each cell that a plan's frame carries stands at its address.
abbrev pub CellStands : Type 0
CellStands = (c : Config) (inputs : ℕ → List (List ℕ)) (n plp block cell : ℕ) → IsPlan c
    → IsCarried c (frame_shape c inputs n) (n % c.frames) plp block cell
    → slice_get (frame_cells c (frame_shape c inputs n) (n % c.frames))
    (address_of c (frame_shape c inputs n) (n % c.frames) plp block cell)
    ≡ Some (Some (record { ordinal = ordinal_of (frame_shape c inputs n) plp block; cell = cell }))

-- A frame of a plan has 38,000 blocks at most, if its shape passes: so many have room in a record.
abbrev pub FewBlocks : Type 0
FewBlocks = (c : Config) (shape : FrameShape) → IsPlan c → length shape.counts ≡ length c.plps → Passes c shape
    → sum shape.counts ≤ 38000

-- PLP_ID is a byte, and the block is no longer than the longest baseband frame.
abbrev pub IsSentBlock : Block → Type 0
IsSentBlock b = (b.plp_id < 2 ^ 8) × (length b.bytes ≤ MOST_BLOCK_BYTES)

-- The frame of a shape that passes fits a record, whatever its L1-post and its blocks are, if L1-post has no more bits
-- than always, there are no more blocks than the shape tells, and they have no more bytes than those that the PLPs may
-- have.
abbrev pub EveryFrameFits : Type 0
EveryFrameFits = (c : Config) (n frame_idx : ℕ) (post : List Bool) (blocks : List Block) (shape : FrameShape) → IsPlan c
    → n < 2 ^ 32
    → length post ≤ post_len (length c.plps) → length shape.counts ≡ length c.plps → Passes c shape
    → length blocks ≤ sum shape.counts
    → sum_by block_size blocks ≤ sum_by block_room c.plps → AllByRecursion IsSentBlock blocks
    → FitsRecord (frame_view c (emission c n) frame_idx post blocks shape)

-- And so does a muted one.
abbrev pub MutedFits : Type 0
MutedFits = (c : Config) (n : ℕ) → IsPlan c → n < 2 ^ 32 → FitsRecord (Muted (emission c n))

-- The frames of a run fit one: what is written of it spells it, and is read back.
abbrev pub FrameFits : Type 0
FrameFits = (c : Config) (inputs : ℕ → List (List ℕ)) (n : ℕ) → IsPlan c → HasByteIds c → n < 2 ^ 31
    → FitsRecord (frame_of c inputs n)

-- So do those of frames in a row, of which those that are not whole are muted.
abbrev pub RangeFits : Type 0
RangeFits = (c : Config) (inputs : ℕ → List (List ℕ)) (whole : ℕ → Bool) (first count : ℕ) → IsPlan c → HasByteIds c
    → first + count ≤ 2 ^ 31
    → AllByRecursion FitsRecord (map (record_of c inputs whole) (range_with_len first count))

-- Records are on the grid, and the first one begins a superframe.
pub record StandsOnGrid (c : Config) (inputs : ℕ → List (List ℕ)) (whole : ℕ → Bool) (end : ℕ) : Type 0 where
  pub first : ℕ
  pub grid : IsOnGrid c first (records c inputs whole end)
  pub begins : (records c inputs whole end ≡ [])
      ⊎ ((first % c.frames ≡ 0) × (whole first ≡ true) × (first + length (records c inputs whole end) ≡ end))

abbrev pub RecordsOnGrid : Type 0
RecordsOnGrid = (c : Config) (inputs : ℕ → List (List ℕ)) (whole : ℕ → Bool) (end : ℕ) → end ≤ 2 ^ 31
    → StandsOnGrid c inputs whole end

-- The records of a plan's frames fit too.
abbrev pub RecordsFit : Type 0
RecordsFit = (c : Config) (inputs : ℕ → List (List ℕ)) (whole : ℕ → Bool) (end : ℕ) → IsPlan c → HasByteIds c
    → end ≤ 2 ^ 31
    → AllByRecursion FitsRecord (records c inputs whole end)

-- If every frame is whole, the records are the frames of the run.
abbrev pub AllWhole : Type 0
AllWhole = (c : Config) (inputs : ℕ → List (List ℕ))
    → records c inputs (λ n. true) (frame_count c (λ plp. length (inputs plp)))
    ≡ run_frames c inputs

-- If no interleaving frame is lost and a packet that is not kept is the canonical null packet, the packet of a slot
-- comes back.
abbrev pub NoneLost : Type 0
NoneLost = (c : Config) (plp ticks : ℕ) (at : ℕ → List ℕ) (k : ℕ) → (plp_keeps c plp at k ≡ false → at k ≡ null_packet)
    → recovered c plp ticks at [] k ≡ at k

-- A slot is due exactly if it was not over one interleaving frame before the first frame begins, and its packet is
-- given out once the last one has ended.
abbrev pub DueReleased : Type 0
DueReleased = (c : Config) (plp first count last slot : ℕ) → AllRules c → plp < length c.plps → first + count ≡ last + 1
    → Contains (due_slots c plp first count) slot
    ↔ ((slots_by c plp ((first - spread c.plps plp) * c.ticks) ≤ slot) × IsReleased c plp last slot)

-- With spread 1 a slot is due that was not over when the frame in front of the first one begins, and the lost
-- interleaving frames are the muted frames and those before the first one.
pub record RecoversByFrames (c : Config) (plp : ℕ) (muted : ℕ → Bool) (first count : ℕ) : Type 0 where
  pub due : due_slots c plp first count
      ≡ range_with_len (slots_by c plp ((first - 1) * c.ticks))
      (released_count (num c) (den c plp) (delay_ticks (num c) (den c plp) c.ticks) ((first + count) * c.ticks)
      - slots_by c plp ((first - 1) * c.ticks))
  pub there : (m : ℕ) → is_there c plp muted first count m
      ≡ (nat_le first m && (nat_lt m (first + count) && not (muted m)))

abbrev pub RecoverAlone : Type 0
RecoverAlone = (c : Config) (plp : ℕ) (muted : ℕ → Bool) (first count : ℕ) → StandsAlone c.plps plp
    → RecoversByFrames c plp muted first count
