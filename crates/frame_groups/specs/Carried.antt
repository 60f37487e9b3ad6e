-- What the packets of a group carry, each kind in its order (ETSI TS 102 773, clause 5.2).
use Rattle.std.specs.Prelude.{ℕ, ◌*◌, ◌==◌, Bool, List, length, filter, Option, Some, None, if◌then◌else◌}
use Rattle.std.specs.List.{filter_map}
use Rattle.plp_config.specs.Capacity.{block_bytes}
use Rattle.plp_config.specs.Plps.{plp_at}
use Rattle.plp_config.specs.declared.config.Config.{Config}
use Rattle.t2mi_packet.specs.declared.packet.Body.{Body}
use Rattle.t2mi_packet.specs.declared.packet.Body.TheVariants.{Block, L1Current, Timestamp, Other}
use Rattle.t2mi_packet.specs.declared.packet.Packet.{Packet}
use Rattle.t2mi_packet.specs.declared.packet.Stamp.{Stamp}

-- the baseband frame of the PLP with an identifier
abbrev pub body_block : ℕ → Body → Option (List Bool)
body_block id (Block frame_idx plp_id first bits) = if plp_id == id then Some bits else None
body_block id (L1Current frame_idx pre conf dynamic extension) = None
body_block id (Timestamp stamp) = None
body_block id (Other packet_type bits) = None

-- the baseband frames of the PLP at a place
abbrev pub blocks_of : Config → ℕ → List Packet → List (List Bool)
blocks_of c plp packets = filter_map (λ p. body_block (plp_at c.plps plp).id p.body) packets

-- those that have Kbch bits, as those of the PLP have (EN 302 755, clause 6.1)
abbrev pub has_length : Config → ℕ → List Bool → Bool
has_length c plp bits = length bits == 8 * block_bytes c plp

abbrev pub right_blocks : Config → ℕ → List Packet → List (List Bool)
right_blocks c plp packets = filter (has_length c plp) (blocks_of c plp packets)

-- the parts of an L1-current
pub record L1Parts : Type 0 where
  pub pre : List Bool
  pub conf : List Bool
  pub dynamic : List Bool
  pub extension : List Bool

abbrev pub body_l1 : Body → Option L1Parts
body_l1 (Block frame_idx plp_id first bits) = None
body_l1 (L1Current frame_idx pre conf dynamic extension) =
    Some (record { pre = pre; conf = conf; dynamic = dynamic; extension = extension })
body_l1 (Timestamp stamp) = None
body_l1 (Other packet_type bits) = None

-- the L1 signalling
abbrev pub l1s_of : List Packet → List L1Parts
l1s_of packets = filter_map (λ p. body_l1 p.body) packets

abbrev pub body_stamp : Body → Option Stamp
body_stamp (Block frame_idx plp_id first bits) = None
body_stamp (L1Current frame_idx pre conf dynamic extension) = None
body_stamp (Timestamp stamp) = Some stamp
body_stamp (Other packet_type bits) = None

-- the timestamps
abbrev pub stamps_of : List Packet → List Stamp
stamps_of packets = filter_map (λ p. body_stamp p.body) packets
