-- What a marked group stands for.
use Rattle.std.specs.Prelude.{◌≡◌, ◌<◌, ℕ, true, List, [], map, length, Option, Some, None, slice_index_or}
use Rattle.plp_config.specs.Capacity.{block_bytes}
use Rattle.plp_config.specs.declared.config.Config.{Config}
use Rattle.t2mi_packet.specs.declared.packet.Packet.{Packet}
use Rattle.frame_groups.specs.Groups.{Group}
use Rattle.frame_groups.specs.Modulated.{Numbered}
use Rattle.frame_groups.specs.Carried.{right_blocks}
use Rattle.open_group.specs.Holds.{Holds}
use Rattle.open_group.specs.Sent.{held_bytes}
use Rattle.open_group.specs.Signals.{fits_pool}
use Rattle.frame_weave.specs.Marked.{MarkedBlock, marked_blocks, first_count}
use Rattle.frame_weave.specs.declared.group.MarkedGroup.{MarkedGroup}
use Rattle.frame_weave.specs.declared.marks.HeldMarks.{HeldMarks}
use Rattle.frame_weave.specs.declared.marks.Mark.{Mark}

-- what is read behind the end, where nobody asks
abbrev pub no_mark : Mark
no_mark = record { plp = 0; count = 0; place = 0 }

abbrev pub no_block : MarkedBlock
no_block = record { plp = 0; count = 0; bytes = [] }

-- A mark tells the PLP and packet_count of a block, and its place among the blocks of the PLP.
pub record Marks (c : Config) (packets : List Packet) (mark : Mark) (block : MarkedBlock) : Type 0 where
  pub plp : mark.plp ≡ block.plp
  pub count : mark.count ≡ block.count
  pub inside : block.plp < length c.plps
  pub there : mark.place < length (right_blocks c block.plp packets)
  pub bytes : slice_index_or (map held_bytes (right_blocks c block.plp packets)) mark.place [] ≡ block.bytes
  pub len : length block.bytes ≡ block_bytes c block.plp

-- There is one for each, in order.
pub record AreMarks (c : Config) (packets : List Packet) (marks : List Mark) (blocks : List MarkedBlock) : Type 0 where
  pub len : length marks ≡ length blocks
  pub each : (i : ℕ) → i < length blocks → Marks c packets (slice_index_or marks i no_mark)
      (slice_index_or blocks i no_block)

-- If the right blocks have room, the marks are theirs.
pub record HoldsMarks (c : Config) (held : HeldMarks) (packets : List Packet) : Type 0 where
  pub marks : fits_pool c packets ≡ true → AreMarks c packets held.marks.items (marked_blocks c packets)
  pub origin : held.origin ≡ first_count packets

abbrev pub HoldsMarksOf : Config → HeldMarks → Option Group → Type 0
HoldsMarksOf c held None = Unit {0}
HoldsMarksOf c held (Some g) = HoldsMarks c held g.packets

-- It stands for a group, or for none, behind groups that have numbers.
pub record HoldsMarked (held : MarkedGroup) (past : List Numbered) (g : Option Group) : Type 0 where
  pub group : Holds held.group past g
  pub marks : HoldsMarksOf held.group.network held.marks g
