-- The text of the T2-MI packets in a file of units.
use Rattle.std.specs.Prelude.{◌≡◌, ◌≢◌, ◌⊎◌, ℕ, ◌≤◌, List, [], ◌++◌, length, take, flat_map, codes, Result, Ok, Err}
use Rattle.file_run.specs.Reading.{longest_file}
use Rattle.file_run.specs.Telling.{most_waiting}
use Rattle.file_run.specs.declared.stop.RunFault.TheVariants.{TooLong, ReadFault, WriteFault}
use Rattle.t2mi_packet.specs.T2miPacket.{view_of}
use Rattle.t2mi_stream.specs.Accepted.{AcceptedPacket}
use Rattle.t2mi_stream.specs.FirstPid.{t2mi_packets_in}
use Rattle.show_run.specs.SaidLines.{view_line, count_line}
use Rattle.file_run.specs.declared.stop.RunStop.{RunStop}
use Rattle.file_run.specs.declared.stop.RunStop.TheVariants as run
use Rattle.show_run.specs.declared.stop.ShowStop.{ShowStop}
use Rattle.show_run.specs.declared.stop.ShowStop.TheVariants.{PacketRefused, RecordRefused, NoRoom}

-- the line of a packet, by its place and the fields of its bytes
abbrev pub place_line : AcceptedPacket → List ℕ
place_line packet = view_line (codes "place=") packet.place (view_of packet.bytes)

abbrev pub place_lines : List AcceptedPacket → List ℕ
place_lines packets = flat_map place_line packets

-- The packets begin with some, and the text is their lines.
abbrev pub AreFirstLines : List AcceptedPacket → List ℕ → Type 0
AreFirstLines packets text = (first : List AcceptedPacket) × (others : List AcceptedPacket)
    × (packets ≡ first ++ others)
    × (text ≡ place_lines first)

-- The text is the lines of the packets in all that was read.
abbrev pub SaysThrough : List ℕ → ℕ → List ℕ → Type 0
SaysThrough file given text = (given ≤ length file) × (text ≡ place_lines (t2mi_packets_in (take given file)))

-- The same packets, and the text is the first of their lines: what is left of these is no more than may wait to be
-- said.
abbrev pub LacksFewLines : List ℕ → ℕ → List ℕ → List ℕ → Type 0
LacksFewLines file given text unsaid = (given ≤ length file)
    × (place_lines (t2mi_packets_in (take given file)) ≡ text ++ unsaid) × (length unsaid ≤ most_waiting)

-- The text is the first of the lines that were due, and not all of them: of the packets in what was read, and behind
-- these, if that is the whole file, of their number.
pub record LeavesLines (file : List ℕ) (given : ℕ) (text : List ℕ) : Type 0 where
  pub front : List ℕ
  pub more : List ℕ
  pub parts : file ≡ front ++ more
  pub read : length front ≤ given
  pub unsaid : List ℕ
  pub some : unsaid ≢ []
  pub due : (place_lines (t2mi_packets_in front) ≡ text ++ unsaid)
      ⊎ ((more ≡ []) × (place_lines (t2mi_packets_in front) ++ count_line (length (t2mi_packets_in front)) ≡ text
      ++ unsaid))

-- The text by outcome: the lines of all packets and their number, or the lines of the first.
abbrev pub IsT2miText : List ℕ → ℕ → Result ℕ (RunStop ShowStop) → List ℕ → List ℕ → Type 0
IsT2miText file given (Ok count) text unsaid =
    (count ≡ length (t2mi_packets_in file)) × (text ≡ place_lines (t2mi_packets_in file) ++ count_line count)
    × (given ≡ length file)
IsT2miText file given (Err (run.Refused (PacketRefused at why))) text unsaid = ⊥
IsT2miText file given (Err (run.Refused (RecordRefused number why))) text unsaid = ⊥
IsT2miText file given (Err (run.Files (TooLong input))) text unsaid = (longest_file ≤ length file)
    × SaysThrough file given text
    × AreFirstLines (t2mi_packets_in file) text
IsT2miText file given (Err (run.Files (ReadFault input))) text unsaid = LacksFewLines file given text unsaid
    × AreFirstLines (t2mi_packets_in file) text
IsT2miText file given (Err (run.Files WriteFault)) text unsaid = LeavesLines file given text
    × AreFirstLines (t2mi_packets_in file) text
IsT2miText file given (Err run.OutOfMemory) text unsaid = text ≡ []
IsT2miText file given (Err (run.Refused NoRoom)) text unsaid = ⊥
