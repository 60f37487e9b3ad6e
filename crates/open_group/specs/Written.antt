-- The record of a group of packets: the frame that they make, or a muted one (EN 302 755, clauses 5 to 8).
use Rattle.std.specs.Prelude.{ℕ, ◌%◌, Bool, List, [], slice_get, length}
use Rattle.std.specs.Option.{option_map_or, unwrap_or}
use Rattle.plp_config.specs.Emission.{emission}
use Rattle.plp_config.specs.declared.config.Config.{Config}
use Rattle.scheduler.specs.Shape.{FrameShape, blank}
use Rattle.t2mi_packet.specs.declared.packet.Packet.{Packet}
use Rattle.frame_groups.specs.Modulated.{Content, FrameRecord}
use Rattle.frame_groups.specs.Modulated.Content.{Whole, Muted}
use Rattle.frame_groups.specs.Carried.{right_blocks, l1s_of}
use Rattle.frame_groups.specs.Tests.{first_shape}
use Rattle.record_laws.specs.Frames.{sent_blocks, frame_view}
use Rattle.open_group.specs.Front.{post_with}
use Rattle.site_frame.specs.Whole.{record_bytes}
use Rattle.site_frame.specs.declared.reading.RecordView.{RecordView}
use Rattle.site_frame.specs.declared.reading.RecordView.TheVariants.{Muted as MutedRecord}

-- the dynamic part of the first L1-current, as it came, and the shape that it tells
abbrev pub dynamic_in : List Packet → List Bool
dynamic_in packets = option_map_or (λ l1. l1.dynamic) (slice_get (l1s_of packets) 0) []

abbrev pub shape_in : Config → List Packet → FrameShape
shape_in c packets = unwrap_or (first_shape c packets) (blank (length c.plps))

-- the frame that packets make, as frame n: it leaves when frame n does, L1-pre and the configurable part are the
-- configuration's, the dynamic part is as it came, the blocks stand PLP by PLP, scrambled, and each cell that frame n
-- carries stands at its address by the shape that was told
abbrev pub packets_view : Config → ℕ → List Packet → RecordView
packets_view c n packets =
    frame_view c (emission c n) (n % c.frames) (post_with c (dynamic_in packets))
    (sent_blocks c (λ plp. right_blocks c plp packets)) (shape_in c packets)

abbrev pub content_view : Config → ℕ → Content → RecordView
content_view c n (Whole g) = packets_view c n g.packets
content_view c n (Muted cause) = MutedRecord (emission c n)

-- the bytes of a record
abbrev pub spelled : Config → FrameRecord → List ℕ
spelled c x = record_bytes (content_view c x.number x.content)
