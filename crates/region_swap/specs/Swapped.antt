-- Frames of a network of which one PLP carries another input (EN 302 755, clauses 5 to 8).
use Rattle.std.specs.Prelude.{ℕ, ◌+◌, ◌-◌, ◌%◌, ◌==◌, true, Bool, List, [], ◌∷◌, ◌++◌, length, map, take, slice_set}
use Rattle.std.specs.List.{filter, flat_map, list_any, range_with_len}
use Rattle.std.specs.Option.{option_map_or}
use Rattle.plp_config.specs.Plps.{plp_at}
use Rattle.plp_config.specs.declared.config.Config.{Config}
use Rattle.mode_adapt.specs.Blocks.{own_blocks, told_count}
use Rattle.scheduler.specs.Shape.{shape_of}
use Rattle.l1_signal.specs.L1Of.{told_shape}
use Rattle.l1_signal.specs.Laws.{crc_behind}
use Rattle.l1_signal.specs.Lengths.{conf_len}
use Rattle.site_frame.specs.Record.{Block}
use Rattle.site_frame.specs.declared.reading.RecordView.{RecordView}
use Rattle.site_frame.specs.declared.reading.RecordView.TheVariants.{Frame, Muted as MutedRecord}
use Rattle.frame_groups.specs.Modulated.{Content, FrameRecord}
use Rattle.frame_groups.specs.Modulated.Content.{Whole, Muted}
use Rattle.open_group.specs.Written.{content_view}
use Rattle.frame_groups.specs.Readable.{told_dynamic}
use Rattle.record_laws.specs.Frames.{sent_block, frame_cells}
use Rattle.gateway_core.specs.Signalling.{dyn_part}
use Rattle.stream_laws.specs.Remade.{NumberedView, numbered}

-- one of so many PLPs, from a place on, has this identifier (PLP_ID)
abbrev pub is_among : Config → ℕ → ℕ → ℕ → Bool
is_among c from count id = list_any (λ plp. (plp_at c.plps plp).id == id) (range_with_len from count)

-- the blocks of such PLPs
abbrev pub blocks_among : Config → ℕ → ℕ → List Block → List Block
blocks_among c from count blocks = filter (λ b. is_among c from count b.plp_id) blocks

-- blocks with those of the PLP at a place replaced: those of the PLPs before it, its own, and those of the PLPs behind
-- it
abbrev pub replaced : Config → ℕ → List Block → List Block → List Block
replaced c plp own blocks =
    blocks_among c 0 plp blocks ++ own ++ blocks_among c (plp + 1) (length c.plps - (plp + 1)) blocks

-- the blocks of a PLP that are sent in frame n, if its packets are these: those of the interleaving frame that begins
-- in n, if one does
abbrev pub input_blocks : Config → ℕ → List (List ℕ) → ℕ → List Block
input_blocks c plp input n = map (sent_block c plp) (own_blocks c (λ _. input) n plp)

-- how many blocks the dynamic part of an L1-post tells of each PLP (PLP_NUM_BLOCKS)
abbrev pub counts_in : Config → List Bool → List ℕ
counts_in c post = option_map_or (λ dynamic. (told_shape dynamic).counts) (told_dynamic c post) []

-- the same, but of a PLP as many as the interleaving frame has that frame n carries, if its packets are these
abbrev pub swapped_counts : Config → ℕ → List (List ℕ) → ℕ → List Bool → List ℕ
swapped_counts c plp input n post = slice_set (counts_in c post) plp (told_count c (λ _. input) n plp)

-- L1-post of frame n with these counts: its configurable part stands, its dynamic part and the CRC_32 are made anew
-- (clause 7.2.3)
abbrev pub post_with_counts : Config → ℕ → List ℕ → List Bool → List Bool
post_with_counts c n counts post = crc_behind true (take (conf_len (length c.plps)) post ++ dyn_part c n counts)

-- the record of frame n with the PLP at a place replaced: its blocks, its count, and what follows of the counts
abbrev pub swapped_view : Config → ℕ → List (List ℕ) → ℕ → RecordView → RecordView
swapped_view c plp input n (Frame moment pre post blocks cells) =
    Frame moment pre (post_with_counts c n (swapped_counts c plp input n post) post)
    (replaced c plp (input_blocks c plp input n) blocks)
    (frame_cells c (shape_of c (swapped_counts c plp input n post)) (n % c.frames))
swapped_view c plp input n (MutedRecord moment) = MutedRecord moment

-- the frame of a record, if it is not muted
abbrev pub frame_in : Config → ℕ → Content → List NumberedView
frame_in c n (Whole g) = numbered n (content_view c n (Whole g)) ∷ []
frame_in c n (Muted cause) = []

-- and those of all
abbrev pub frames_in : Config → List FrameRecord → List NumberedView
frames_in c records = flat_map (λ x. frame_in c x.number x.content) records

-- each frame with the PLP replaced
abbrev pub swapped_frame : Config → ℕ → List (List ℕ) → NumberedView → NumberedView
swapped_frame c plp input f = numbered f.number (swapped_view c plp input f.number f.view)

abbrev pub swapped : Config → ℕ → List (List ℕ) → List NumberedView → List NumberedView
swapped c plp input frames = map (swapped_frame c plp input) frames
