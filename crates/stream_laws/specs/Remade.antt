-- Frames as T2-MI packets again (ETSI TS 102 773, clause 5).
use Rattle.std.specs.Prelude.{◌≡◌, ℕ, ◌+◌, ◌*◌, ◌/◌, ◌%◌, ◌<◌, ◌==◌, not, Bool, true, List, [], ◌∷◌, length, map, take}
use Rattle.std.specs.Prelude.{Option, Some, None}
use Rattle.std.specs.List.{flat_map}
use Rattle.terms.specs.Bits.{bits_of, part}
use Rattle.bb_frame.specs.Scrambled.{scrambled}
use Rattle.plp_config.specs.declared.config.Config.{Config}
use Rattle.l1_signal.specs.Lengths.{conf_len, dyn_len}
use Rattle.l1_signal.specs.declared.lengths.TheConstants.{PRE_BITS}
use Rattle.t2mi_packet.specs.declared.packet.Body.{Body}
use Rattle.t2mi_packet.specs.declared.packet.Body.TheVariants.{Block as BlockBody}
use Rattle.frame_groups.specs.Numbers.{superframe_period}
use Rattle.site_frame.specs.Record.{Block}
use Rattle.site_frame.specs.declared.reading.RecordView.{RecordView}
use Rattle.site_frame.specs.declared.reading.RecordView.TheVariants.{Frame, Muted}
use Rattle.frame_writer.specs.FramePackets.{l1_body, with_stamp, packets_from}

-- a frame, by its number and its record
pub record NumberedView : Type 0 where
  pub number : ℕ
  pub view : RecordView

abbrev pub numbered : ℕ → RecordView → NumberedView
numbered n view = record { number = n; view = view }

-- the L1-current of frame n, by L1-pre and L1-post of its record: both without their CRC_32, and without an extension
abbrev pub signal_of : Config → ℕ → List Bool → List Bool → Body
signal_of c n pre post =
    l1_body c n (take PRE_BITS pre) (take (conf_len (length c.plps)) post)
    (part post (conf_len (length c.plps)) (dyn_len (length c.plps)))

-- a block is the first one of its PLP in the frame, behind one of a PLP or behind none
abbrev pub intl_frame_start : Option ℕ → ℕ → Bool
intl_frame_start None id = true
intl_frame_start (Some before) id = not (before == id)

-- the blocks in their order, descrambled
abbrev pub record_bodies : ℕ → Option ℕ → List Block → List Body
record_bodies frame_idx before [] = []
record_bodies frame_idx before (b ∷ blocks) =
    BlockBody frame_idx b.plp_id (intl_frame_start before b.plp_id) (scrambled (bits_of b.bytes))
    ∷ record_bodies frame_idx (Some b.plp_id) blocks

-- what the packets of frame n carry: a timestamp if a superframe begins, the L1 signalling, and the blocks
abbrev pub view_bodies : Config → ℕ → RecordView → List Body
view_bodies c n (Frame moment pre post blocks cells) =
    with_stamp c n (signal_of c n pre post ∷ record_bodies (n % c.frames) None blocks)
view_bodies c n (Muted moment) = []

-- what the packets of frames carry, frame by frame, each with the number of its frame
abbrev pub frame_pairs : Config → NumberedView → List (ℕ × Body)
frame_pairs c f = map (λ body. (f.number, body)) (view_bodies c f.number f.view)

abbrev pub remade_bodies : Config → List NumberedView → List (ℕ × Body)
remade_bodies c frames = flat_map (frame_pairs c) frames

-- their packets: packet_count runs from 0 on
unfoldable pub remade_packets : Config → List NumberedView → List (List ℕ)
remade_packets c frames = packets_from c 0 (remade_bodies c frames)

-- One frame is behind another, by less than the frames after which keys come again; and if it begins a superframe, by
-- less than the superframes after which superframe_idx does.
pub record IsSpaced (c : Config) (m n : ℕ) : Type 0 where
  pub frames : n < m + superframe_period * c.frames
  pub superframes : n % c.frames ≡ 0 → n / c.frames < m / c.frames + superframe_period

abbrev pub AreSpacedFrom : Config → ℕ → List NumberedView → Type 0
AreSpacedFrom c m [] = Unit {0}
AreSpacedFrom c m (f ∷ frames) = IsSpaced c m f.number × AreSpacedFrom c f.number frames

-- So it is of each frame and the next one.
abbrev pub AreSpaced : Config → List NumberedView → Type 0
AreSpaced c [] = Unit {0}
AreSpaced c (f ∷ frames) = AreSpacedFrom c f.number frames

-- The numbers of frames rise.
abbrev pub RiseFrom : ℕ → List NumberedView → Type 0
RiseFrom m [] = Unit {0}
RiseFrom m (f ∷ frames) = (m < f.number) × RiseFrom f.number frames

abbrev pub Rise : List NumberedView → Type 0
Rise [] = Unit {0}
Rise (f ∷ frames) = RiseFrom f.number frames
