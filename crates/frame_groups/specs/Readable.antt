-- Which records of frames are readable (EN 302 755, clauses 5 to 8).
use Rattle.std.specs.Prelude.{ℕ, ◌-◌, ◌==◌, ◌&&◌, Bool, true, List, length, map, take, replicate, slice_index, Option}
use Rattle.std.specs.Prelude.{Some, None, if◌then◌else◌, option_map}
use Rattle.std.specs.Bool.{beq}
use Rattle.std.specs.Cmp.Lexicographic.{pointwise}
use Rattle.std.specs.List.{flat_map}
use Rattle.terms.specs.Bits.{part}
use Rattle.plp_config.specs.Capacity.{block_bytes}
use Rattle.plp_config.specs.InterleavingFrames.{is_first}
use Rattle.plp_config.specs.Places.{places}
use Rattle.plp_config.specs.Plps.{plp_at}
use Rattle.plp_config.specs.declared.config.Config.{Config}
use Rattle.scheduler.specs.Shape.{FrameShape}
use Rattle.cell_map.specs.declared.places.Cell.{Cell}
use Rattle.l1_signal.specs.L1Configurable.{conf_read, info_size}
use Rattle.l1_signal.specs.L1Dynamic.{dyn_read}
use Rattle.l1_signal.specs.L1Of.{told_shape}
use Rattle.l1_signal.specs.Lengths.{conf_len, dyn_len, post_len}
use Rattle.l1_signal.specs.L1Pre.{pre_reading}
use Rattle.l1_signal.specs.Laws.{crc_behind}
use Rattle.l1_signal.specs.declared.dynamic.L1Dyn.{L1Dyn}
use Rattle.l1_signal.specs.declared.lengths.TheConstants.{CRC_BITS}
use Rattle.site_frame.specs.Record.{Block}
use Rattle.frame_groups.specs.MapTest.{map_passes}
use Rattle.frame_groups.specs.Tests.{read_whole, pre_agrees, conf_agrees, dyn_agrees}

-- the dynamic part of L1-post, if it reads
abbrev pub told_dynamic : Config → List Bool → Option L1Dyn
told_dynamic c post = read_whole (dyn_read (length c.plps) (part post (conf_len (length c.plps))
    (dyn_len (length c.plps))))

-- L1-post has its length and its CRC_32, the configuration's configurable part, and a dynamic part of frame n
abbrev pub post_agrees : Config → ℕ → List Bool → Bool
post_agrees c n post =
    (length post == post_len (length c.plps)) && pointwise beq post
    (crc_behind true (take (length post - CRC_BITS) post))
    && conf_agrees c (read_whole (conf_read (info_size (length c.plps)) (take (conf_len (length c.plps)) post)))
    && dyn_agrees c n
    (told_dynamic c post)

-- how many blocks of each PLP come with frame n: those of the interleaving frame that begins in it, if one does
abbrev pub coming : Config → ℕ → FrameShape → List ℕ
coming c n shape = map (λ plp. if is_first c plp n then slice_index shape.counts plp else 0) (places c)

-- the PLP_ID and the length of each block, if so many come of each PLP: PLP by PLP, in order
pub record BlockSize : Type 0 where
  pub plp_id : ℕ
  pub len : ℕ

abbrev pub block_sizes : Config → List ℕ → List BlockSize
block_sizes c counts =
    flat_map
    (λ plp. replicate (slice_index counts plp) (record { plp_id = (plp_at c.plps plp).id; len = block_bytes c plp }))
    (places c)

abbrev pub has_size : Block → BlockSize → Bool
has_size b size = (b.plp_id == size.plp_id) && (length b.bytes == size.len)

-- blocks and cells are those of frame n if it has this shape, and its cells stand apart, in the frame
abbrev pub shape_agrees : Config → ℕ → List Block → List (Option Cell) → FrameShape → Bool
shape_agrees c n blocks cells shape =
    pointwise has_size blocks (block_sizes c (coming c n shape)) && (length cells == c.cells) && map_passes c shape

abbrev pub fitting : Config → ℕ → List Block → List (Option Cell) → Option FrameShape → Option FrameShape
fitting c n blocks cells None = None
fitting c n blocks cells (Some shape) = if shape_agrees c n blocks cells shape then Some shape else None

-- the shape of a record of frame n that is readable: its L1-pre is the configuration's, L1-post agrees, and what it
-- tells
unfoldable pub readable : Config → ℕ → List Bool → List Bool → List Block → List (Option Cell) → Option FrameShape
readable c n pre post blocks cells =
    if pre_agrees c (read_whole (pre_reading true pre)) && post_agrees c n post
    then fitting c n blocks cells (option_map told_shape (told_dynamic c post)) else None
