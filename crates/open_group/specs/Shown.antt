-- What a group shows of the frame that its packets make.
use Rattle.std.specs.Prelude.{◌≡◌, ◌<◌, ℕ, Bool, List, [], length, map, slice_index_or}
use Rattle.plp_config.specs.declared.config.Config.{Config}
use Rattle.t2mi_packet.specs.declared.packet.Packet.{Packet}
use Rattle.frame_groups.specs.Carried.{right_blocks}
use Rattle.open_group.specs.Sent.{held_bytes}
use Rattle.open_group.specs.Written.{dynamic_in}

-- The blocks that have the length of their PLP, in lists, one for each PLP.
abbrev pub AreBlocks : Config → List Packet → List (List (List ℕ)) → Type 0
AreBlocks c packets lists =
    (plp : ℕ) → plp < length c.plps → slice_index_or lists plp [] ≡ map held_bytes (right_blocks c plp packets)

-- The dynamic part of the first L1-current, as it came, and the blocks.
pub record Shows (c : Config) (packets : List Packet) (dynamic : List Bool) (lists : List (List (List ℕ))) :
    Type 0 where
  pub dynamic_is : dynamic ≡ dynamic_in packets
  pub plps : length lists ≡ length c.plps
  pub blocks : AreBlocks c packets lists
