-- Sent packets of which some survive, and the records that must come of them.
use Rattle.std.specs.Prelude.{ℕ, ◌+◌, ◌==◌, ◌&&◌, ◌||◌, Bool, true, false, List, [], ◌∷◌, ◌++◌, map, length, replicate}
use Rattle.std.specs.Prelude.{None, if◌then◌else◌}
use Rattle.std.specs.List.{filter, list_all, list_any, items_where_true, last_or, range_with_len, zip}
use Rattle.std.specs.Option.{option_map_or}
use Rattle.t2mi_packet.specs.declared.packet.Body.{Body}
use Rattle.t2mi_packet.specs.declared.packet.Body.TheVariants.{Block, L1Current, Timestamp, Other}
use Rattle.t2mi_packet.specs.declared.packet.Packet.{Packet}
use Rattle.plp_config.specs.Places.{places}
use Rattle.plp_config.specs.Plps.{plp_at}
use Rattle.plp_config.specs.declared.config.Config.{Config}
use Rattle.plp_config.specs.InterleavingFrames.{begin_of}
use Rattle.frame_groups.specs.Groups.{Group}
use Rattle.frame_groups.specs.Modulated.{Content, FrameRecord}
use Rattle.frame_groups.specs.Modulated.Content.{Whole, Muted}
use Rattle.frame_groups.specs.declared.cause.MuteCause.{MuteCause}
use Rattle.frame_groups.specs.declared.cause.MuteCause.TheVariants.{Gap, PacketMissing}
use Rattle.record_laws.specs.Records.{record_numbers}
use Rattle.stream_laws.specs.SentPackets.{Sent, frame_packets, frame_group}

-- a baseband frame of the PLP with an identifier
abbrev pub is_block_of : ℕ → Body → Bool
is_block_of id (Block frame_idx plp_id first bits) = plp_id == id
is_block_of id (L1Current frame_idx pre conf dynamic extension) = false
is_block_of id (Timestamp stamp) = false
is_block_of id (Other packet_type bits) = false

-- a block of the interleaving frame of the PLP at a place that frame n carries: it is sent where that one begins
abbrev pub is_begun : Config → ℕ → ℕ → Sent → Bool
is_begun c plp n s = (s.frame == begin_of c plp n) && is_block_of (plp_at c.plps plp).id s.packet.body

-- Frame n carries a packet: one that is sent in it, or such a block (EN 302 755, clause 6.5).
abbrev pub carries : Config → ℕ → Sent → Bool
carries c n s = (s.frame == n) || list_any (λ plp. is_begun c plp n s) (places c)

-- all packets that pass a test survive; of each sent packet it is told whether it does
abbrev pub all_survive : (Sent → Bool) → List Sent → List Bool → Bool
all_survive test sent survival = list_all (λ p. p.1) (filter (λ p. test p.0) (zip sent survival))

-- a frame is whole: so do all that it carries
abbrev pub is_whole : Config → List Sent → List Bool → ℕ → Bool
is_whole c sent survival n = all_survive (carries c n) sent survival

abbrev pub has_packets : Group → Bool
has_packets g = if length g.packets == 0 then false else true

-- the frames of which a packet survives, of so many, as groups
abbrev pub groups_met : ℕ → ℕ → List Sent → List Group
groups_met frames count survivors = filter has_packets (map (frame_group frames survivors) (range_with_len 0 count))

-- why a frame is muted that is not whole: no packet of it survives, or one is missing
abbrev pub loss_of : List Packet → MuteCause
loss_of [] = Gap
loss_of (p ∷ packets) = PacketMissing

-- what must be sent of a frame: its packets, if it is whole
abbrev pub sent_content : Config → List Sent → List Bool → ℕ → Content
sent_content c sent survival n =
    if is_whole c sent survival n then Whole (frame_group c.frames sent n)
    else Muted (loss_of (frame_packets n (items_where_true survival sent)))

abbrev pub sent_record : Config → List Sent → List Bool → ℕ → FrameRecord
sent_record c sent survival n = record { number = n; content = sent_content c sent survival n }

-- the frame behind the last one of which a packet survives
abbrev pub end_of : List Sent → ℕ
end_of survivors = option_map_or (λ s. s.frame + 1) (last_or None survivors) 0

-- the records that must come, by the packets that survive
abbrev pub survivor_records : Config → List Sent → List Bool → List FrameRecord
survivor_records c sent survival =
    map (sent_record c sent survival) (record_numbers c (is_whole c sent survival)
    (end_of (items_where_true survival sent)))

-- Some packets at the front are lost, and all others survive.
abbrev pub later_only : ℕ → ℕ → List Bool
later_only lost left = replicate lost false ++ replicate left true
