-- The modulator as a machine between files. Of public clauses none cites this module.
use Rattle.std.specs.Prelude.{◌≡◌, ℕ, ◌<◌, ◌==◌, nat_lt, Bool, true, false, List, [], length, take, Option, Some, None}
use Rattle.std.specs.Prelude.{Result, Ok, Err, if◌then◌else◌}
use Rattle.plp_config.specs.declared.config.Config.{Config}
use Rattle.plp_config.specs.declared.moment.TheConstants.{MOST_FRAMES}
use Rattle.terms.specs.Lists.{IsPrefix}
use Rattle.frame_groups.specs.declared.waiting.Waiting.{Waiting}
use Rattle.modulator.specs.StandsFor.{ModulatorStandsFor, WaitsAs, records_due, bytes_due, config_of, fed_of}
use Rattle.file_run.specs.Events.{Event, fed, has_ended, gave}
use Rattle.file_run.specs.declared.machine.Step.{Step}
use Rattle.file_run.specs.declared.machine.Step.TheVariants.{Read, Give, End}
use Rattle.modulate_run.specs.Counted.{counted}
use Rattle.file_run.specs.FileRun.{read_ahead}
use Rattle.modulate_run.specs.ModulateRun.{AreEarly}
use Rattle.modulate_run.specs.declared.machine.ModulatorMachine.{ModulatorMachine}
use Rattle.modulate_run.specs.declared.stop.ModulateRan.{ModulateRan}
use Rattle.modulate_run.specs.declared.stop.ModulateStop.{ModulateStop}
use Rattle.modulate_run.specs.declared.stop.ModulateStop.TheVariants as stop

-- what is done next: a record is given if one may have its number
abbrev pub step_of : Option Waiting → Bool → Step
step_of (Some w) ended = if nat_lt w.frame MOST_FRAMES then Give else End
step_of None true = End
step_of None false = Read 0 1 read_ahead

-- Behind the records that were counted, which are early, the one that waits comes next; or none does, and all were
-- given.
pub record IsNext (c : Config) (ended : Bool) (bytes taken : List ℕ) (w : Waiting) (ran : ModulateRan) : Type 0 where
  pub waits : WaitsAs c ended bytes taken w
  pub ran_is : ran ≡ counted waits.before
  pub early : AreEarly waits.before
  -- nothing was given of one whose number none may have
  pub late : w.frame ≡ MOST_FRAMES → waits.part ≡ []

pub record IsAll (c : Config) (ended : Bool) (bytes taken : List ℕ) (ran : ModulateRan) : Type 0 where
  pub all : bytes_due c ended bytes ≡ taken
  pub ran_is : ran ≡ counted (records_due c ended bytes)
  pub early : AreEarly (records_due c ended bytes)

abbrev pub Behind : Config → Bool → List ℕ → List ℕ → Option Waiting → ModulateRan → Type 0
Behind c ended bytes taken None ran = IsAll c ended bytes taken ran
Behind c ended bytes taken (Some w) ran = IsNext c ended bytes taken w ran

-- To a machine these bytes were fed, perhaps to their end, and it gave these.
pub record Shown (m : ModulatorMachine) (bytes taken : List ℕ) (ended : Bool) : Type 0 where
  pub stands : ModulatorStandsFor m.modulator bytes taken
  pub count : fed_of m.modulator ≡ length bytes
  pub end : m.ended ≡ ended
  pub behind : Behind (config_of m.modulator) m.ended bytes taken m.waiting m.ran
  -- by fewer bytes than were fed, all that is due was given
  pub front : (k : ℕ) → k < length bytes → IsPrefix (bytes_due (config_of m.modulator) false (take k bytes)) taken

-- To the first this was done, and then it is the second.
abbrev pub Becomes : ModulatorMachine → List Event → ModulatorMachine → Type 0
Becomes start events m = (config_of m.modulator ≡ config_of start.modulator)
    × Shown m (fed 0 events) (gave events) (has_ended 0 events)

-- what comes of a run that came so far
abbrev pub ending_of : Option Waiting → ModulateRan → Result ModulateRan ModulateStop
ending_of (Some w) ran = Err stop.TooManyFrames
ending_of None ran = if ran.records == 0 then Err stop.NoSuperframe else Ok ran
