-- How far the lines of packets have come that stand back to back. No public clause cites this module.
use Rattle.std.specs.Prelude.{◌≡◌, ◌⊎◌, ℕ, ◌+◌, ◌-◌, ◌≤◌, nat_lt, Bool, true, false, if◌then◌else◌, List, [], ◌∷◌, ◌++◌}
use Rattle.std.specs.Prelude.{length, Result, Ok, Err}
use Rattle.file_run.specs.declared.input.TheConstants.{BUFFER}
use Rattle.t2mi_packet.specs.T2miPacket.{told_len, IsShort}
use Rattle.t2mi_packet.specs.declared.fault.PacketWhy.{PacketWhy}
use Rattle.file_run.specs.Events.{Event, fed, has_ended, gave}
use Rattle.file_run.specs.declared.machine.Step.{Step}
use Rattle.file_run.specs.declared.machine.Step.TheVariants.{Read, Give, End}
use Rattle.show_run.specs.Front.{IsFront, RefusesFront}
use Rattle.show_run.specs.PacketFile.{Packs, bytes_in, IsRefused}
use Rattle.show_run.specs.SaidLines.{lines_of, count_line}
use Rattle.file_run.specs.declared.stop.RunStop.{RunStop}
use Rattle.file_run.specs.declared.stop.RunStop.TheVariants as run
use Rattle.show_run.specs.declared.stop.ShowStop.{ShowStop}
use Rattle.show_run.specs.declared.stop.ShowStop.TheVariants.{PacketRefused}
use Rattle.show_run.specs.declared.packet_lines.PacketLines.{PacketLines}
use Rattle.show_run.specs.declared.packet_lines.Phase.{Phase}
use Rattle.show_run.specs.declared.packet_lines.Phase.TheVariants.{Reads, Refused, Finished}

-- what is done next if no line waits
abbrev pub step_of : Phase → Step
step_of Reads = Read 0 1 BUFFER
step_of (Refused why) = End
step_of Finished = End

abbrev pub next_from : List ℕ → Phase → Step
next_from [] phase = step_of phase
next_from (c ∷ line) phase = Give

abbrev pub next_of : PacketLines → Step
next_of m = next_from m.line m.phase

-- how often it gives before it wants bytes
abbrev pub left_of : PacketLines → ℕ
left_of m = if nat_lt 0 (length m.line) then 1 else 0

-- The packet that has come whole was seen; or it is none.
pub record IsSeen (old new : PacketLines) : Type 0 where
  pub len : ℕ
  pub front : IsFront old.bytes.items (old.at - length old.bytes.items) new.line len
  pub phase : new.phase ≡ old.phase
  pub bytes : new.bytes.items ≡ []
  pub count : new.count ≡ old.count + 1

pub record IsStopped (old new : PacketLines) (why : PacketWhy) : Type 0 where
  pub refuses : RefusesFront old.bytes.items why
  pub phase : new.phase ≡ Refused why
  pub bytes : new.bytes.items ≡ old.bytes.items
  pub line : new.line ≡ old.line
  pub count : new.count ≡ old.count

abbrev pub Sees : PacketLines → PacketLines → Type 0
Sees old new = IsSeen old new ⊎ ((why : PacketWhy) × IsStopped old new why)

-- The bytes hold as many as their header tells.
pub record IsWhole (bytes : List ℕ) : Type 0 where
  pub header : 6 ≤ length bytes
  pub packet : told_len bytes ≤ length bytes

-- behind the packets that were seen: the packet under way, bytes that begin with no packet, or the end
abbrev pub Behind : Phase → List ℕ → List ℕ → Bool → Type 0
Behind Reads bytes rest ended = (rest ≡ bytes) × IsShort rest × (ended ≡ false)
Behind (Refused why) bytes rest ended = (rest ≡ bytes) × IsRefused rest why × ((ended ≡ true) ⊎ IsWhole rest)
Behind Finished bytes rest ended = (rest ≡ []) × (ended ≡ true)

-- the lines that were given of packets: all but those of which the line waits, and last their number
abbrev pub Given : Phase → List (List ℕ) → List (List ℕ) → List ℕ → List ℕ → Type 0
Given Finished told next line text =
    (next ≡ [])
    × (((line ≡ count_line (length told)) × (text ≡ lines_of 0 told))
    ⊎ ((line ≡ []) × (text ≡ lines_of 0 told ++ count_line (length told))))
Given phase told next line text = (text ≡ lines_of 0 told) × (line ≡ lines_of (bytes_in told) next)

-- what was done to the lines of packets, of which these were told, and these are next
pub record Shown (m : PacketLines) (events : List Event) : Type 0 where
  pub told : List (List ℕ)
  pub next : List (List ℕ)
  pub rest : List ℕ
  pub packs : Packs (fed 0 events) (told ++ next) rest
  pub place : m.at ≡ length (fed 0 events)
  pub number : m.count ≡ length (told ++ next)
  pub behind : Behind m.phase m.bytes.items rest (has_ended 0 events)
  pub given : Given m.phase told next m.line (gave events)

-- nothing was done yet
pub record IsNew (m : PacketLines) : Type 0 where
  pub at : m.at ≡ 0
  pub count : m.count ≡ 0
  pub phase : m.phase ≡ Reads
  pub bytes : m.bytes.items ≡ []
  pub line : m.line ≡ []

-- The first is new, and to it this was done.
pub record Comes (start : PacketLines) (events : List Event) (m : PacketLines) : Type 0 where
  pub fresh : IsNew start
  pub shown : Shown m events

-- how the packets of a file ended
abbrev pub packets_end : Phase → ℕ → ℕ → Result ℕ (RunStop ShowStop)
packets_end (Refused why) at count = Err (run.Refused (PacketRefused at why))
packets_end phase at count = Ok count
