-- What packet_count tells of the packets of a group (ETSI TS 102 773, clause 5.1): where each stands among those of its
-- frame.
use Rattle.std.specs.Prelude.{ℕ, Bool, List, [], ◌∷◌, map, slice_get, Option, Some, None}
use Rattle.std.specs.List.{flat_map, filter_map}
use Rattle.plp_config.specs.Places.{places}
use Rattle.plp_config.specs.declared.config.Config.{Config}
use Rattle.t2mi_packet.specs.declared.packet.Body.{Body}
use Rattle.t2mi_packet.specs.declared.packet.Body.TheVariants.{Block, L1Current, Timestamp, Other}
use Rattle.t2mi_packet.specs.declared.packet.Packet.{Packet}
use Rattle.frame_groups.specs.Carried.{right_blocks}
use Rattle.open_group.specs.Sent.{held_bytes}

-- a block that has the length of its PLP: the place of the PLP, packet_count of the packet that brought it, and its
-- bytes
pub record MarkedBlock : Type 0 where
  pub plp : ℕ
  pub count : ℕ
  pub bytes : List ℕ

abbrev pub marked_block : ℕ → ℕ → List Bool → MarkedBlock
marked_block count plp bits = record { plp = plp; count = count; bytes = held_bytes bits }

-- that of a packet, if it brings one
abbrev pub packet_blocks : Config → Packet → List MarkedBlock
packet_blocks c p = flat_map (λ plp. map (marked_block p.packet_count plp) (right_blocks c plp (p ∷ []))) (places c)

-- those of packets, as they came
abbrev pub marked_blocks : Config → List Packet → List MarkedBlock
marked_blocks c packets = flat_map (packet_blocks c) packets

-- packet_count of an L1-current, and of the first one
abbrev pub l1_count : ℕ → Body → Option ℕ
l1_count count (Block frame_idx plp_id first bits) = None
l1_count count (L1Current frame_idx pre conf dynamic extension) = Some count
l1_count count (Timestamp stamp) = None
l1_count count (Other packet_type bits) = None

abbrev pub first_count : List Packet → Option ℕ
first_count packets = slice_get (filter_map (λ p. l1_count p.packet_count p.body) packets) 0
