-- What a group under way stands for.
use Rattle.std.specs.Prelude.{◌≡◌, true, List, Option, Some, None}
use Rattle.t2mi_packet.specs.declared.packet.Packet.{Packet}
use Rattle.frame_groups.specs.Groups.{Group}
use Rattle.frame_groups.specs.Modulated.{Numbered}
use Rattle.frame_groups.specs.Tally.{tally}
use Rattle.open_group.specs.HoldsBlocks.{HoldsCounts, HoldsLists}
use Rattle.open_group.specs.HoldsL1.{HoldsL1}
use Rattle.open_group.specs.HoldsPast.{HoldsPast}
use Rattle.open_group.specs.HoldsStamps.{HoldsStamps}
use Rattle.open_group.specs.declared.group.PooledGroup.{PooledGroup}

-- It holds what the packets come to; and if the right blocks have room, these, scrambled.
pub record HoldsPackets (held : PooledGroup) (packets : List Packet) : Type 0 where
  pub stamps : HoldsStamps held.stamps (tally held.network packets)
  pub l1 : HoldsL1 held.network held.l1 (tally held.network packets).l1 (tally held.network packets).alike
  pub blocks : HoldsCounts held.network held.blocks (tally held.network packets)
  pub lists : HoldsLists held.network held.blocks packets

-- Behind groups that have numbers, it has the key of a group and what its blocks come to and, until the record of its
-- own frame is begun, holds its packets.
pub record HoldsGroup (held : PooledGroup) (past : List Numbered) (g : Group) : Type 0 where
  pub key : held.key ≡ Some g.key
  pub past-is : HoldsPast held.network held.past past
  pub counts : HoldsCounts held.network held.blocks (tally held.network g.packets)
  pub packets : held.intact ≡ true → HoldsPackets held g.packets

-- It stands for a group, or for none, behind groups that have numbers.
abbrev pub Holds : PooledGroup → List Numbered → Option Group → Type 0
Holds held past None = (held.key ≡ None) × HoldsPast held.network held.past past
Holds held past (Some g) = HoldsGroup held past g
