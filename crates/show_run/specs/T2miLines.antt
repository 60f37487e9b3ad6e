-- How far the lines of packets have come that stand in units. No public clause cites this module.
use Rattle.std.specs.Prelude.{◌≡◌, ◌⊎◌, ℕ, ◌+◌, ◌-◌, ◌*◌, ◌≤◌, nat_lt, Bool, true, false, if◌then◌else◌, List, [], ◌∷◌}
use Rattle.std.specs.Prelude.{◌++◌, length, map, take, drop, Some}
use Rattle.file_run.specs.declared.input.TheConstants.{BUFFER}
use Rattle.ts_packet.specs.declared.sizes.TheConstants.{SIZE}
use Rattle.ts_packet.specs.FieldsIn.{fields_in}
use Rattle.t2mi_stream.specs.Accepted.{AcceptedPacket}
use Rattle.t2mi_stream.specs.Events as stream
use Rattle.t2mi_stream.specs.FirstPid.{pid_of, TellsNone, t2mi_packets_in}
use Rattle.t2mi_stream.specs.Skipping.{further}
use Rattle.t2mi_stream.specs.Units.{accepted_of}
use Rattle.t2mi_stream.specs.UnpiperStandsFor.{UnpiperStandsFor, is_ready, steps_left}
use Rattle.t2mi_stream.specs.declared.unpiper.Unpiper.{Unpiper}
use Rattle.file_run.specs.Events.{Event, fed, has_ended, gave}
use Rattle.file_run.specs.declared.machine.Step.{Step}
use Rattle.file_run.specs.declared.machine.Step.TheVariants.{Read, Give, End}
use Rattle.show_run.specs.SaidLines.{count_line}
use Rattle.show_run.specs.T2miText.{place_lines}
use Rattle.show_run.specs.declared.t2mi_lines.T2miLines.{T2miLines}
use Rattle.show_run.specs.declared.t2mi_lines.Search.{Search}
use Rattle.show_run.specs.declared.t2mi_lines.Search.TheVariants.{Seeks, Unpipes, Finished}

-- what is done next if the packets are looked for
abbrev pub step_of : Bool → ℕ → Step
step_of true left = Give
step_of false left = if nat_lt 0 left then Give else Read 0 1 BUFFER

abbrev pub next_in : Search → Bool → ℕ → List ℕ → Step
next_in Seeks ready left line = Read 0 SIZE BUFFER
next_in Unpipes ready left line = step_of ready left
next_in Finished ready left [] = End
next_in Finished ready left (c ∷ line) = Give

abbrev pub next_of : T2miLines → Step
next_of m = next_in m.search (is_ready m.unpiper) (SIZE - m.from) m.line

-- more than an unpiper and a line can have left, so each byte that is taken makes less of all
abbrev pub most_steps : ℕ
most_steps = 2 * SIZE + 3

abbrev pub left_of : T2miLines → ℕ
left_of m = most_steps * (SIZE - m.from) + steps_left m.unpiper + (if nat_lt 0 (length m.line) then 1 else 0)

-- the packets so many bytes further on
abbrev pub packets_from : ℕ → ℕ → List ℕ → List AcceptedPacket
packets_from pid base bytes = map (further base) (accepted_of pid bytes)

-- The unpiper took these bytes, and so many packets were given up.
pub record Unpiped (unpiper : Unpiper) (pid : ℕ) (bytes : List ℕ) (count : ℕ) : Type 0 where
  pub events : List stream.UnpiperEvent
  pub fed_are : stream.fed events ≡ bytes
  pub number : stream.released events ≡ count
  pub stands : UnpiperStandsFor unpiper pid events

-- Units were taken that tell no PID.
pub record Seeking (m : T2miLines) (front text : List ℕ) (ended : Bool) : Type 0 where
  pub none : TellsNone front
  pub silent : text ≡ []
  pub is_open : ended ≡ false
  pub unread : m.from ≡ SIZE
  pub number : m.count ≡ 0
  pub idle : m.line ≡ []

-- Behind units that tell no PID stands one that tells it, and the unpiper took the bytes from there on but for the last
-- of that unit; the lines of so many packets were given.
pub record Unpiping (m : T2miLines) (all text : List ℕ) (ended : Bool) : Type 0 where
  pub front : List ℕ
  pub bytes : List ℕ
  pub pid : ℕ
  pub first : List ℕ
  pub more : List ℕ
  pub none : TellsNone front
  pub base : m.base ≡ length front
  pub parts : all ≡ front ++ (bytes ++ drop m.from m.unit)
  pub begins : bytes ++ drop m.from m.unit ≡ first ++ more
  pub whole : length first ≡ SIZE
  pub tells : pid_of (fields_in first) ≡ Some pid
  pub unpiped : Unpiped m.unpiper pid bytes m.count
  pub few : m.count ≤ length (accepted_of pid bytes)
  pub lines : text ≡ place_lines (take m.count (packets_from pid (length front) bytes))
  pub is_open : ended ≡ false
  pub idle : m.line ≡ []

-- The file has ended: the lines of its packets were given, and their number or not yet.
pub record Ending (m : T2miLines) (all text : List ℕ) (ended : Bool) : Type 0 where
  pub over : ended ≡ true
  pub number : m.count ≡ length (t2mi_packets_in all)
  pub lines : ((m.line ≡ count_line m.count) × (text ≡ place_lines (t2mi_packets_in all)))
      ⊎ ((m.line ≡ []) × (text ≡ place_lines (t2mi_packets_in all) ++ count_line m.count))

abbrev pub Found : Search → T2miLines → List ℕ → List ℕ → Bool → Type 0
Found Seeks m all text ended = Seeking m all text ended
Found Unpipes m all text ended = Unpiping m all text ended
Found Finished m all text ended = Ending m all text ended

-- what was done to the lines
pub record Shown (m : T2miLines) (events : List Event) : Type 0 where
  pub place : m.at ≡ length (fed 0 events)
  pub found : Found m.search m (fed 0 events) (gave events) (has_ended 0 events)

-- nothing was done yet
pub record IsNew (m : T2miLines) : Type 0 where
  pub at : m.at ≡ 0
  pub search : m.search ≡ Seeks
  pub from : m.from ≡ SIZE
  pub count : m.count ≡ 0
  pub line : m.line ≡ []

-- The first is new, and to it this was done.
pub record Comes (start : T2miLines) (events : List Event) (m : T2miLines) : Type 0 where
  pub fresh : IsNew start
  pub shown : Shown m events
