-- What a group under way gives of a frame.
use Rattle.std.specs.Prelude.{ℕ, ◌&&◌, nat_le, Bool, List, Option}
use Rattle.plp_config.specs.declared.config.Config.{Config}
use Rattle.frame_groups.specs.declared.key.Key.{Key}
use Rattle.open_group.specs.Writes as writer
use Rattle.scheduler.specs.Shape.{FrameShape}
use Rattle.frame_groups.specs.Tests.{has_map, pool_chunks}
use Rattle.open_group.specs.HoldsL1.{shape_told}
use Rattle.open_group.specs.Parts.{parts_of}
use Rattle.open_group.specs.declared.group.PooledGroup.{PooledGroup}

-- the dynamic part of the first L1-current, as it came, the shape that it tells, if it reads, and the blocks, a list
-- for each PLP
abbrev pub dynamic_of : PooledGroup → List Bool
dynamic_of held = (parts_of held.l1.parts).dynamic

abbrev pub shape_of : PooledGroup → Option FrameShape
shape_of held = shape_told held.l1

abbrev pub lists_of : PooledGroup → List (List (List ℕ))
lists_of held = held.blocks.pool.lists

-- the blocks that have the length of their PLP have room
abbrev pub has_room : PooledGroup → Bool
has_room held = nat_le held.blocks.need held.blocks.chunks

-- what is held can be given as a frame: the right blocks have room, and the first L1-current tells a shape with a cell
-- map
abbrev pub is_frame : PooledGroup → Bool
is_frame held = nat_le held.blocks.need held.blocks.chunks && has_map held.network (shape_of held)

-- what a caller sees of it, but for the packets that it stands for: its network, its key, whether its packets are all
-- there, and whether it can be given as a frame
pub record Status : Type 0 where
  pub network : Config
  pub key : Option Key
  pub intact : Bool
  pub frame : Bool

abbrev pub status_of : PooledGroup → Status
status_of held = record { network = held.network; key = held.key; intact = held.intact; frame = is_frame held }

-- the bytes of the record under way that were not given yet
abbrev pub bytes_left : PooledGroup → List ℕ
bytes_left held = writer.bytes_left held.writer held.network held.l1.shape held.blocks.pool.lists

-- the most bytes of a record in a network: its blocks fill the chunks of the pool at most
abbrev pub most_left : Config → ℕ
most_left c = writer.most_record c (pool_chunks c)
