-- What a group tells of the frame that several groups make.
use Rattle.std.specs.Prelude.{ℕ, nat_le, Bool, false, List, slice_get, Option}
use Rattle.std.specs.Option.{option_map_or}
use Rattle.plp_config.specs.declared.config.Config.{Config}
use Rattle.t2mi_packet.specs.declared.packet.Packet.{Packet}
use Rattle.frame_groups.specs.Carried.{L1Parts, l1s_of}
use Rattle.frame_groups.specs.Tests.{parts_agree, pool_need, pool_chunks}

-- the first L1-current, if there is one
abbrev pub first_parts : List Packet → Option L1Parts
first_parts packets = slice_get (l1s_of packets) 0

-- it is one of the configuration and of frame n
abbrev pub signals : Config → ℕ → List Packet → Bool
signals c n packets = option_map_or (parts_agree c n) (first_parts packets) false

-- the blocks that have the length of their PLP have room
abbrev pub fits_pool : Config → List Packet → Bool
fits_pool c packets = nat_le (pool_need c packets) (pool_chunks c)
