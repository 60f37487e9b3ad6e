-- A packet of a frame is built.
use Rattle.std.specs.Prelude.{◌≡◌, ℕ, Bool, List, ◌∷◌}
use Rattle.plp_config.specs.declared.config.Config.{Config}
use Rattle.t2mi_packet.specs.T2miPacket.{written_bits}
use Rattle.t2mi_packet.specs.declared.packet.Body.{Body}
use Rattle.frame_writer.specs.FramePackets.{packet_with}
use Rattle.frame_writer.specs.Whole.{IsWhole}

-- The next packet of a frame was built, with a packet_count: it carries what was left first.
pub record Builds (c : Config) (n packet_count : ℕ) (old new : List Body) (bits : List Bool) : Type 0 where
  pub body : Body
  pub was : old ≡ body ∷ new
  pub built : bits ≡ written_bits (packet_with c packet_count n body)
  pub whole : IsWhole bits
