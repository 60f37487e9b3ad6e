-- The text of a file of T2-MI packets that stand back to back.
use Rattle.std.specs.Prelude.{◌≡◌, ℕ, ◌+◌, ◌≤◌, List, [], ◌++◌, length, Result, Ok, Err}
use Rattle.file_run.specs.Reading.{longest_file}
use Rattle.file_run.specs.Telling.{most_waiting}
use Rattle.file_run.specs.declared.stop.RunFault.TheVariants.{TooLong, ReadFault, WriteFault}
use Rattle.t2mi_packet.specs.declared.fault.PacketWhy.{PacketWhy}
use Rattle.t2mi_packet.specs.T2miPacket.{IsShort}
use Rattle.show_run.specs.PacketFile.{Packs, bytes_in, IsRefused}
use Rattle.show_run.specs.SaidLines.{lines_of, count_line}
use Rattle.file_run.specs.declared.stop.RunStop.{RunStop}
use Rattle.file_run.specs.declared.stop.RunStop.TheVariants as run
use Rattle.show_run.specs.declared.stop.ShowStop.{ShowStop}
use Rattle.show_run.specs.declared.stop.ShowStop.TheVariants.{PacketRefused, RecordRefused, NoRoom}

-- The text is the lines of some packets with which the file begins.
abbrev pub AreFirst : List ℕ → List ℕ → Type 0
AreFirst file text = (packets : List (List ℕ)) × (rest : List ℕ) × Packs file packets rest × (text ≡ lines_of 0 packets)

-- A front of the file is some packets, and behind them stand fewer bytes than the next one has: so no refused one was
-- met.
pub record Met (file : List ℕ) : Type 0 where
  pub front : List ℕ
  pub more : List ℕ
  pub parts : file ≡ front ++ more
  pub packets : List (List ℕ)
  pub behind : List ℕ
  pub packs : Packs front packets behind
  pub short : IsShort behind

-- All bytes that were read but for the last one are such a front, or all. The text is the lines of its packets.
abbrev pub SaysMet : List ℕ → ℕ → List ℕ → Type 0
SaysMet file given text = (met : Met file) × (length met.front ≤ given) × (given ≤ length met.front + 1)
    × (text ≡ lines_of 0 met.packets)

-- All bytes that were read are such a front, and the text is the first of the lines of its packets: what is left of
-- these is no more than may wait to be said.
abbrev pub LacksFew : List ℕ → ℕ → List ℕ → List ℕ → Type 0
LacksFew file given text unsaid = (met : Met file) × (given ≡ length met.front)
    × (lines_of 0 met.packets ≡ text ++ unsaid)
    × (length unsaid ≤ most_waiting)

-- The text is the lines of some packets, and not all that is due: behind them stands another packet, or the file ends
-- and lacks its number.
abbrev pub LeavesSome : List ℕ → List ℕ → Type 0
LeavesSome file text = (packets : List (List ℕ)) × (rest : List ℕ) × Packs file packets rest
    × ((why : PacketWhy) → ¬ (IsRefused rest why)) × (text ≡ lines_of 0 packets)

-- The text by outcome: the lines of all packets and their number; the lines of those before what is no packet; or those
-- of the first.
abbrev pub IsPacketText : List ℕ → ℕ → Result ℕ (RunStop ShowStop) → List ℕ → List ℕ → Type 0
IsPacketText file given (Ok count) text unsaid =
    (packets : List (List ℕ)) × Packs file packets [] × (count ≡ length packets)
    × (text ≡ lines_of 0 packets ++ count_line count)
    × (given ≡ length file)
IsPacketText file given (Err (run.Refused (PacketRefused at why))) text unsaid =
    (packets : List (List ℕ)) × (rest : List ℕ) × Packs file packets rest × IsRefused rest why × (at ≡ bytes_in packets)
    × (text ≡ lines_of 0 packets)
IsPacketText file given (Err (run.Refused (RecordRefused number why))) text unsaid = ⊥
IsPacketText file given (Err (run.Files (TooLong input))) text unsaid = (longest_file ≤ length file)
    × SaysMet file given text
IsPacketText file given (Err (run.Files (ReadFault input))) text unsaid = LacksFew file given text unsaid
    × AreFirst file text
IsPacketText file given (Err (run.Files WriteFault)) text unsaid = LeavesSome file text
IsPacketText file given (Err run.OutOfMemory) text unsaid = text ≡ []
IsPacketText file given (Err (run.Refused NoRoom)) text unsaid = ⊥
