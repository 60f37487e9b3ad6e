-- A file of T2-MI packets that stand back to back.
use Rattle.std.specs.Prelude.{◌≡◌, ◌≢◌, ℕ, ◌+◌, List, [], ◌∷◌, length, take, drop}
use Rattle.t2mi_packet.specs.declared.fault.PacketFault.{PacketFault}
use Rattle.t2mi_packet.specs.declared.fault.PacketWhy.{PacketWhy}
use Rattle.t2mi_packet.specs.T2miPacket.{IsPacket, Refuses}

-- The bytes begin with this packet.
pub record Begins (bytes packet : List ℕ) : Type 0 where
  pub is : IsPacket packet
  pub there : take (length packet) bytes ≡ packet

-- The bytes are these packets, one behind the other, and then the rest.
abbrev pub Packs : List ℕ → List (List ℕ) → List ℕ → Type 0
Packs bytes [] rest = bytes ≡ rest
Packs bytes (p ∷ ps) rest = Begins bytes p × Packs (drop (length p) bytes) ps rest

-- how many bytes packets have
abbrev pub bytes_in : List (List ℕ) → ℕ
bytes_in [] = 0
bytes_in (p ∷ ps) = length p + bytes_in ps

-- Bytes are left where a packet must begin, and for this reason none does.
abbrev pub IsRefused : List ℕ → PacketWhy → Type 0
IsRefused rest why = (rest ≢ []) × ((fault : PacketFault) × Refuses rest fault × (fault.why ≡ why))
