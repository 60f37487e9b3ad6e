-- Laws of formed frames.
use Rattle.std.specs.Prelude.{◌≡◌, ℕ, Bool, List, None}
use Rattle.std.specs.List.{AllByRecursion}
use Rattle.plp_config.specs.Capacity.{IsPlan}
use Rattle.plp_config.specs.declared.config.Config.{Config}
use Rattle.frame_groups.specs.Groups.{Group}
use Rattle.frame_groups.specs.Modulated.{FrameRecord, Numbered}
use Rattle.frame_groups.specs.Modulated.Content.{Whole}
use Rattle.open_group.specs.Written.{content_view, packets_view}
use Rattle.modulator.specs.StandsFor.{records_due}
use Rattle.stream_laws.specs.Formed.{IsFormed}
use Rattle.t2mi_packet.specs.declared.packet.Packet.{Packet}
use Rattle.frame_groups.specs.Tests.{packets_fault}
use Rattle.frame_writer.specs.Bodies.{pool_bodies}
use Rattle.frame_writer.specs.Signalling.{pre_part, conf_part}
use Rattle.open_group.specs.Shown.{Shows}
use Rattle.stream_laws.specs.Remade.{view_bodies}

-- If a record is not muted, it is a frame formed for its number.
abbrev pub IsFormedRecord : Config → FrameRecord → Type 0
IsFormedRecord c x = (g : Group) → x.content ≡ Whole g → IsFormed c x.number (content_view c x.number x.content)

-- So it is of every record of a plan that is due by the bytes of a stream.
abbrev pub FramesAreFormed : Type 0
FramesAreFormed = (c : Config) (finished : Bool) (bytes : List ℕ) → IsPlan c
    → AllByRecursion (IsFormedRecord c) (records_due c finished bytes)

-- What is shown of packets that pass as frame n is what the packets of its record carry.
abbrev pub ShownIsSent : Type 0
ShownIsSent = (c : Config) (past : List Numbered) (n : ℕ) (packets : List Packet) (dynamic : List Bool)
    (lists : List (List (List ℕ))) → IsPlan c → packets_fault c past n packets ≡ None → Shows c packets dynamic lists
    → pool_bodies c n (pre_part c) (conf_part c) dynamic lists ≡ view_bodies c n (packets_view c n packets)
