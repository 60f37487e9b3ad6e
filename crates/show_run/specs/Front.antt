-- The packet at the front of what was read.
use Rattle.std.specs.Prelude.{◌≡◌, ◌⊎◌, ℕ, ◌+◌, ◌-◌, ◌<◌, ◌≤◌, List, length}
use Rattle.t2mi_packet.specs.declared.fault.PacketFault.{PacketFault}
use Rattle.t2mi_packet.specs.declared.fault.PacketWhy.{PacketWhy}
use Rattle.t2mi_packet.specs.T2miPacket.{told_len, Refuses}
use Rattle.show_run.specs.PacketFile.{Begins}
use Rattle.show_run.specs.SaidLines.{line_of}

-- a packet at the front of bytes, its line at a place of the file, and its length
pub record IsFront (bytes : List ℕ) (at : ℕ) (line : List ℕ) (len : ℕ) : Type 0 where
  pub packet : List ℕ
  pub begins : Begins bytes packet
  pub size : len ≡ length packet
  pub text : line ≡ line_of at packet

-- No packet begins the bytes, for this reason.
abbrev pub RefusesFront : List ℕ → PacketWhy → Type 0
RefusesFront bytes why = (fault : PacketFault) × Refuses bytes fault × (fault.why ≡ why)

-- So many bytes are lacking of the header, or of the packet whose header is there.
abbrev pub IsLacking : List ℕ → ℕ → Type 0
IsLacking bytes n = ((length bytes < 6) × (length bytes + n ≡ 6))
    ⊎ ((6 ≤ length bytes) × (n ≡ told_len bytes - length bytes))
