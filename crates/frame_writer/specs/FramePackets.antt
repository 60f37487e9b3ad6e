-- The T2-MI packets of frames, each with the number of its frame (ETSI TS 102 773, clause 5).
use Rattle.std.specs.Prelude.{ℕ, ◌+◌, ◌/◌, ◌%◌, ◌==◌, Bool, List, [], ◌∷◌, if◌then◌else◌}
use Rattle.terms.specs.Bits.{bytes_of}
use Rattle.plp_config.specs.Emission.{emission}
use Rattle.plp_config.specs.Tables.{bw}
use Rattle.plp_config.specs.declared.config.Config.{Config}
use Rattle.t2mi_packet.specs.T2miPacket.{written_bits}
use Rattle.t2mi_packet.specs.declared.packet.Body.{Body}
use Rattle.t2mi_packet.specs.declared.packet.Body.TheVariants.{L1Current, Timestamp}
use Rattle.t2mi_packet.specs.declared.packet.Packet.{Packet}
use Rattle.t2mi_packet.specs.declared.packet.Stamp.{Stamp}

-- the timestamp of the superframe that begins with frame n: its emission
abbrev pub stamp_of : Config → ℕ → Stamp
stamp_of c n = record {
  bw = bw c.band;
  seconds = (emission c n).seconds;
  subseconds = (emission c n).subseconds;
  utco = c.utco;
}

-- the L1-current of frame n
abbrev pub l1_body : Config → ℕ → List Bool → List Bool → List Bool → Body
l1_body c n pre conf dynamic = L1Current (n % c.frames) pre conf dynamic []

-- a timestamp at the front of a superframe
abbrev pub with_stamp : Config → ℕ → List Body → List Body
with_stamp c n bodies = if n % c.frames == 0 then Timestamp (stamp_of c n) ∷ bodies else bodies

-- a packet of frame n, by its place among all packets: packet_count is modulo 256, superframe_idx modulo 16
abbrev pub packet_with : Config → ℕ → ℕ → Body → Packet
packet_with c place n body = record {
  packet_count = place % 256;
  superframe = n / c.frames % 16;
  stream =
      0;
  body = body;
}

-- packets from a place on, as their bytes
abbrev pub packets_from : Config → ℕ → List (ℕ × Body) → List (List ℕ)
packets_from c place [] = []
packets_from c place (b ∷ bodies) = bytes_of (written_bits (packet_with c place b.0 b.1)) ∷ packets_from
    c (place + 1) bodies
