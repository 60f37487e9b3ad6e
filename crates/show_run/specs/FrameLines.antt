-- How far the lines of records have come. No public clause cites this module.
use Rattle.std.specs.Prelude.{◌≡◌, ◌≢◌, ◌⊎◌, ℕ, zero, suc, nat_lt, Bool, false, if◌then◌else◌, List, [], ◌∷◌, ◌++◌}
use Rattle.std.specs.Prelude.{length, Result, Ok, Err}
use Rattle.file_run.specs.declared.input.TheConstants.{BUFFER}
use Rattle.file_run.specs.Events.{Event, fed, has_ended, gave}
use Rattle.file_run.specs.declared.machine.Step.{Step}
use Rattle.file_run.specs.declared.machine.Step.TheVariants.{Read, Give, End}
use Rattle.site_frame.specs.Whole.{BeginsWith}
use Rattle.site_frame.specs.declared.fault.RecordWhy.{RecordWhy}
use Rattle.site_frame.specs.declared.reading.RecordView.{RecordView}
use Rattle.site_frame.specs.FeedStandsFor.{RecordFeedStandsFor, coming_of, lacks_of}
use Rattle.site_frame.specs.declared.coming.Coming.{Coming}
use Rattle.site_frame.specs.declared.coming.Coming.TheVariants.{Head, Whole, Refused, NoRoom, Finished}
use Rattle.show_run.specs.SaidLines.{record_line, record_lines, records_line}
use Rattle.show_run.specs.declared.frame_lines.FrameLines.{FrameLines}
use Rattle.file_run.specs.declared.stop.RunStop.{RunStop}
use Rattle.file_run.specs.declared.stop.RunStop.TheVariants as run
use Rattle.show_run.specs.declared.stop.ShowStop.{ShowStop}
use Rattle.show_run.specs.declared.stop.ShowStop.TheVariants as stop

-- what is done next, by the line that waits and how many bytes a record lacks
abbrev pub next_from : List ℕ → ℕ → Step
next_from [] zero = End
next_from [] (suc lacks) = Read 0 1 BUFFER
next_from (c ∷ line) lacks = Give

abbrev pub next_of : FrameLines → Step
next_of m = next_from m.line (lacks_of m.feed)

-- how often it gives before it wants bytes
abbrev pub left_of : FrameLines → ℕ
left_of m = if nat_lt 0 (length m.line) then 1 else 0

-- The line is that of the record that the bytes begin with.
pub record IsLineOf (bytes : List ℕ) (number : ℕ) (line : List ℕ) : Type 0 where
  pub view : RecordView
  pub len : ℕ
  pub begins : BeginsWith bytes view len
  pub text : line ≡ record_line number view

-- The record that has come whole behind these records was seen, its line waits, and the next one comes; or it is none.
pub record IsSeen (views : List RecordView) (came : List ℕ) (ended : Bool) (m : FrameLines) : Type 0 where
  pub view : RecordView
  pub stands : RecordFeedStandsFor m.feed (views ++ view ∷ []) came ended
  pub coming : coming_of m.feed ≡ Head
  pub line : m.line ≡ record_line (length views) view

pub record IsRefused (views : List RecordView) (came : List ℕ) (ended : Bool) (m : FrameLines) : Type 0 where
  pub why : RecordWhy
  pub stands : RecordFeedStandsFor m.feed views came ended
  pub coming : coming_of m.feed ≡ Refused why
  pub line : m.line ≡ []

abbrev pub IsLookedAt : List RecordView → List ℕ → Bool → FrameLines → Type 0
IsLookedAt views came ended m = IsSeen views came ended m ⊎ IsRefused views came ended m

-- the lines that were given of records: all but those of which the line waits, and last their number
abbrev pub Given : Coming → List RecordView → List RecordView → List ℕ → List ℕ → Type 0
Given Finished told next line text =
    (next ≡ []) × (((line ≡ records_line (length told)) × (text ≡ record_lines 0 told))
    ⊎ ((line ≡ []) × (text ≡ record_lines 0 told ++ records_line (length told))))
Given coming told next line text = (text ≡ record_lines 0 told) × (line ≡ record_lines (length told) next)

-- what was done to the lines of records, of which these were told, and these are next
pub record Shown (m : FrameLines) (events : List Event) : Type 0 where
  pub told : List RecordView
  pub next : List RecordView
  pub feed : RecordFeedStandsFor m.feed (told ++ next) (fed 0 events) (has_ended 0 events)
  pub seen : coming_of m.feed ≢ Whole
  pub given : Given (coming_of m.feed) told next m.line (gave events)

-- nothing was done yet
pub record IsNew (m : FrameLines) : Type 0 where
  pub feed : RecordFeedStandsFor m.feed [] [] false
  pub coming : coming_of m.feed ≡ Head
  pub line : m.line ≡ []

-- The first is new, and to it this was done.
pub record Comes (start : FrameLines) (events : List Event) (m : FrameLines) : Type 0 where
  pub fresh : IsNew start
  pub shown : Shown m events

-- how the records of a file ended
abbrev pub records_end : Coming → ℕ → Result ℕ (RunStop ShowStop)
records_end (Refused why) count = Err (run.Refused (stop.RecordRefused count why))
records_end NoRoom count = Err (run.Refused stop.NoRoom)
records_end coming count = Ok count
