-- The frames in which interleaving frames begin (EN 302 755, clause 6.5), and the packets of the groups there.
use Rattle.std.specs.Prelude.{ℕ, ◌==◌, Bool, List, [], ◌∷◌, if◌then◌else◌}
use Rattle.std.specs.List.{list_any}
use Rattle.plp_config.specs.InterleavingFrames.{begin_of}
use Rattle.plp_config.specs.Places.{places}
use Rattle.plp_config.specs.declared.config.Config.{Config}
use Rattle.t2mi_packet.specs.declared.packet.Packet.{Packet}
use Rattle.frame_groups.specs.Modulated.{Numbered}

-- in frame b an interleaving frame of some PLP begins that frame n carries
abbrev pub is_begin : Config → ℕ → ℕ → Bool
is_begin c n b = list_any (λ plp. begin_of c plp n == b) (places c)

-- the packets of the group that has a number, if one has it
abbrev pub packets_at : List Numbered → ℕ → List Packet
packets_at [] n = []
packets_at (b ∷ past) n = if b.number == n then b.group.packets else packets_at past n
