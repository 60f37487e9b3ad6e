-- What a run does that makes one stream of several files.
use Rattle.std.specs.Prelude.{◌≡◌, ◌≢◌, ℕ, ◌+◌, ◌<◌, ◌≤◌, ◌==◌, Bool, true, false, not, List, [], ◌++◌, length}
use Rattle.std.specs.Prelude.{slice_index, Ok, Err, if◌then◌else◌}
use Rattle.plp_config.specs.declared.config.Config.{Config}
use Rattle.ts_packet.specs.TsFile.{joined}
use Rattle.ts_packet.specs.declared.sizes.TheConstants.{SIZE}
use Rattle.t2mi_stream.specs.Complete.{complete_units}
use Rattle.terms.specs.Lists.{IsPrefix}
use Rattle.mended_frames.specs.Feeds.{made_of_all, made_of_known, units_of}
use Rattle.mended_frames.specs.Mended.{packets_of}
use Rattle.file_run.specs.Reading.{longest_file}
use Rattle.file_run.specs.FileRun.{read_ahead}
use Rattle.file_run.specs.Work.{Work, AreWhole}
use Rattle.file_run.specs.declared.stop.RunFault.TheVariants.{TooLong, ReadFault, WriteFault}
use Rattle.file_run.specs.declared.stop.RunStop.TheVariants.{Refused, Files, OutOfMemory}
use Rattle.mend_run.specs.Counted.{counted}
use Rattle.mend_run.specs.declared.stop.MendStop.{MendStop}
use Rattle.mend_run.specs.declared.stop.MendStop.TheVariants.{NoFrame}
use Rattle.mend_run.specs.declared.stop.MendRan.{MendRan}

-- A frame is made of the files, the output is all units, and these are the numbers.
pub record MendsAll (c : Config) (k : ℕ) (files : ℕ → List ℕ) (ran : MendRan) (bytes : List ℕ) : Type 0 where
  pub some : made_of_all c k files ≢ []
  pub output : bytes ≡ joined (units_of c k files)
  pub ran_is : ran ≡ counted (made_of_all c k files) (length (units_of c k files))

-- No frame is, and the output is empty.
pub record HasNone (c : Config) (k : ℕ) (files : ℕ → List ℕ) (bytes : List ℕ) : Type 0 where
  pub none : made_of_all c k files ≡ []
  pub empty : bytes ≡ []

-- So many bytes of each file were taken, no fewer than were read but for what is read ahead; a file that ended was
-- taken whole.
pub record AreTaken (k : ℕ) (files : ℕ → List ℕ) (places : List ℕ) (taken : ℕ → ℕ) (ended : ℕ → Bool) : Type 0 where
  pub within : (input : ℕ) → input < k → taken input ≤ slice_index places input
  pub ahead : (input : ℕ) → input < k → slice_index places input ≤ taken input + read_ahead
  pub whole : (input : ℕ) → input < k → ended input ≡ true → taken input ≡ length (files input)

-- The output is the complete units of the frames that are made of what is known by the bytes that were taken.
pub record HasWritten (c : Config) (k : ℕ) (files : ℕ → List ℕ) (places bytes : List ℕ) : Type 0 where
  pub taken : ℕ → ℕ
  pub ended : ℕ → Bool
  pub are_taken : AreTaken k files places taken ended
  pub is : bytes ≡ joined (complete_units c.pid (packets_of c (made_of_known c k files taken ended)))

-- how many bytes of each file are known, if so many of one input are, and all of the others
abbrev pub taken_but : (ℕ → List ℕ) → ℕ → ℕ → ℕ → ℕ
taken_but files input taken i = if i == input then taken else length (files i)

-- All inputs but one have ended.
abbrev pub ended_but : ℕ → ℕ → Bool
ended_but input i = not (i == input)

-- the complete units of the frames that are made of so many bytes of one input and all bytes of the others
abbrev pub complete_by : Config → ℕ → (ℕ → List ℕ) → ℕ → ℕ → List ℕ
complete_by c k files input taken =
    let made = made_of_known c k files (taken_but files input taken) (ended_but input) in
    joined (complete_units c.pid (packets_of c made))

-- An input cannot be read on: of what was read of it all whole units were taken, and without more of it no other frame
-- can be made, however much the others have.
pub record HasRead (c : Config) (k input : ℕ) (files : ℕ → List ℕ) (places bytes : List ℕ) : Type 0 where
  pub written : HasWritten c k files places bytes
  pub going : written.ended input ≡ false
  pub near : slice_index places input < written.taken input + SIZE
  pub waits : bytes ≡ complete_by c k files input (written.taken input)

-- A file is too long: all but one unit of it were taken, at least, since no step wants more than one; and without more
-- of it no other frame can be made, however much the others have.
pub record HasNearly (c : Config) (k input : ℕ) (files : ℕ → List ℕ) (places bytes : List ℕ) : Type 0 where
  pub written : HasWritten c k files places bytes
  pub going : written.ended input ≡ false
  pub near : longest_file ≤ written.taken input + SIZE
  pub waits : bytes ≡ complete_by c k files input (written.taken input)

-- These bytes are the first of all units, but not all. One of the inputs held the run up last: they have the complete
-- units of all frames that are made of so many bytes of it and all bytes of the others. Of that input no more was read,
-- but for one byte and what is read ahead.
pub record HasSome (c : Config) (k : ℕ) (files : ℕ → List ℕ) (places bytes : List ℕ) : Type 0 where
  pub more : List ℕ
  pub some : more ≢ []
  pub begins : IsPrefix (bytes ++ more) (joined (units_of c k files))
  pub last : ℕ
  pub inside : last < k
  pub taken : ℕ
  pub within : taken ≤ slice_index places last
  pub near : slice_index places last ≤ taken + 1 + read_ahead
  pub since : IsPrefix (complete_by c k files last taken) bytes

-- what a run did by its files, for each answer; want of memory is told before an input is opened, and never here
abbrev pub mend_work : Config → ℕ → Work MendRan MendStop
mend_work c k files (Ok ran) places bytes = AreWhole files places × MendsAll c k files ran bytes
mend_work c k files (Err (Refused NoFrame)) places bytes = AreWhole files places × HasNone c k files bytes
mend_work c k files (Err (Files (TooLong input))) places bytes = HasNearly c k input files places bytes
mend_work c k files (Err (Files (ReadFault input))) places bytes = HasRead c k input files places bytes
mend_work c k files (Err (Files WriteFault)) places bytes = HasSome c k files places bytes
mend_work c k files (Err OutOfMemory) places bytes = ⊥
