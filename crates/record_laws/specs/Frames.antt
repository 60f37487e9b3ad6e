-- The frames of a run (EN 302 755, clauses 5 to 8): what frame n is, if these are the packets of the inputs.
use Rattle.std.specs.Prelude.{ℕ, ◌%◌, ◌<◌, ◌^◌, Bool, true, Option, List, length, map}
use Rattle.std.specs.FinMap.{get}
use Rattle.std.specs.List.{flat_map, range_with_len}
use Rattle.terms.specs.Bits.{bytes_of}
use Rattle.bb_frame.specs.Scrambled.{scrambled}
use Rattle.plp_config.specs.Emission.{emission}
use Rattle.plp_config.specs.Places.{places}
use Rattle.plp_config.specs.Plps.{plp_at}
use Rattle.plp_config.specs.RunLength.{frame_count}
use Rattle.plp_config.specs.declared.config.Config.{Config}
use Rattle.plp_config.specs.declared.moment.Moment.{Moment}
use Rattle.mode_adapt.specs.Blocks.{own_blocks, told_counts}
use Rattle.scheduler.specs.Shape.{FrameShape, shape_of}
use Rattle.cell_map.specs.CellMap.{cell_map}
use Rattle.cell_map.specs.declared.places.Cell.{Cell}
use Rattle.l1_signal.specs.L1Of.{pre_of, post_bits}
use Rattle.l1_signal.specs.L1Pre.{pre_bits}
use Rattle.l1_signal.specs.Laws.{crc_behind}
use Rattle.site_frame.specs.Record.{Block}
use Rattle.site_frame.specs.declared.reading.RecordView.{RecordView}
use Rattle.site_frame.specs.declared.reading.RecordView.TheVariants.{Frame}

-- PLP_ID has 8 bits.
abbrev pub HasByteIds : Config → Type 0
HasByteIds c = (plp : ℕ) → plp < length c.plps → (plp_at c.plps plp).id < 2 ^ 8

-- the shape of frame n, by how many blocks each interleaving frame has that it carries
abbrev pub frame_shape : Config → (ℕ → List (List ℕ)) → ℕ → FrameShape
frame_shape c inputs n = shape_of c (told_counts c inputs n)

-- a block as it is sent: PLP_ID, and its bytes, scrambled
abbrev pub sent_block : Config → ℕ → List Bool → Block
sent_block c plp bits = record { plp_id = (plp_at c.plps plp).id; bytes = bytes_of (scrambled bits) }

-- the blocks of a frame, PLP by PLP
abbrev pub sent_blocks : Config → (ℕ → List (List Bool)) → List Block
sent_blocks c blocks = flat_map (λ plp. map (sent_block c plp) (blocks plp)) (places c)

-- what stands at each address of a frame of this shape; the frame is told by its number in its superframe (FRAME_IDX)
abbrev pub frame_cells : Config → FrameShape → ℕ → List (Option Cell)
frame_cells c shape frame_idx = map (get (cell_map c shape frame_idx)) (range_with_len 0 c.cells)

-- L1-pre with its CRC_32
abbrev pub l1_pre : Config → List Bool
l1_pre c = crc_behind true (pre_bits (pre_of c))

-- the frame of this number in its superframe that leaves at a moment, with this L1-post, these blocks, and the cells of
-- this shape; L1-pre is that of the configuration
abbrev pub frame_view : Config → Moment → ℕ → List Bool → List Block → FrameShape → RecordView
frame_view c moment frame_idx post blocks shape = Frame moment (l1_pre c) post blocks (frame_cells c shape frame_idx)

-- frame n: when it leaves, its number in its superframe, L1-post, the blocks of the interleaving frames that begin in
-- it, and the shape of all that it carries
abbrev pub frame_of : Config → (ℕ → List (List ℕ)) → ℕ → RecordView
frame_of c inputs n =
    frame_view c (emission c n) (n % c.frames) (post_bits c n (frame_shape c inputs n))
    (sent_blocks c (own_blocks c inputs n)) (frame_shape c inputs n)

-- the frames of a run: whole superframes, until the delay has passed for all packets
abbrev pub run_frames : Config → (ℕ → List (List ℕ)) → List RecordView
run_frames c inputs = map (frame_of c inputs) (range_with_len 0 (frame_count c (λ plp. length (inputs plp))))
