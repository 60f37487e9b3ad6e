-- What a run of the modulator does, by the bytes of its one file.
use Rattle.std.specs.Prelude.{◌≡◌, ◌≢◌, ℕ, ◌+◌, ◌<◌, nat_lt, true, false, List, [], ◌∷◌, ◌++◌, take, flat_map, ◌≤◌}
use Rattle.std.specs.Prelude.{slice_index, Ok, Err}
use Rattle.std.specs.List.{list_all}
use Rattle.plp_config.specs.declared.config.Config.{Config}
use Rattle.plp_config.specs.declared.moment.TheConstants.{MOST_FRAMES}
use Rattle.terms.specs.Lists.{IsPrefix}
use Rattle.frame_groups.specs.Modulated.{FrameRecord}
use Rattle.open_group.specs.Written.{spelled}
use Rattle.modulator.specs.StandsFor.{records_due, bytes_due, records_of}
use Rattle.file_run.specs.Reading.{longest_file}
use Rattle.file_run.specs.FileRun.{read_ahead}
use Rattle.file_run.specs.Work.{Work, AreWhole}
use Rattle.file_run.specs.declared.stop.RunFault.TheVariants.{TooLong, ReadFault, WriteFault}
use Rattle.file_run.specs.declared.stop.RunStop.TheVariants.{Refused, Files, OutOfMemory}
use Rattle.modulate_run.specs.Counted.{counted}
use Rattle.modulate_run.specs.declared.stop.ModulateStop.{ModulateStop}
use Rattle.modulate_run.specs.declared.stop.ModulateStop.TheVariants.{NoSuperframe, TooManyFrames}
use Rattle.modulate_run.specs.declared.stop.ModulateRan.{ModulateRan}

-- the bytes of the records of a stream
abbrev pub output_of : Config → List ℕ → List ℕ
output_of c bytes = bytes_due c true bytes

-- Each record is of a frame whose number one may have.
abbrev pub AreEarly : List FrameRecord → Type 0
AreEarly records = list_all (λ x. nat_lt x.number MOST_FRAMES) records ≡ true

-- By so many bytes of a file no record is due whose number none may have, and the bytes of those that are due were
-- written.
pub record HasWritten (c : Config) (taken : ℕ) (file bytes : List ℕ) : Type 0 where
  pub early : AreEarly (records_due c false (take taken file))
  pub is : bytes ≡ bytes_due c false (take taken file)

-- The records of a stream up to the first whose number none may have, and their bytes.
pub record HasEarly (c : Config) (file bytes : List ℕ) : Type 0 where
  pub before : List FrameRecord
  pub next : FrameRecord
  pub after : List FrameRecord
  pub all : records_of c file ≡ before ++ next ∷ after
  pub early : AreEarly before
  pub number : next.number ≡ MOST_FRAMES
  pub is : bytes ≡ flat_map (spelled c) before

-- Of some first records, each of a frame whose number one may have, some bytes were written, but not all; and all that
-- is due by fewer bytes than were read by more than are read ahead.
pub record HasSome (c : Config) (place : ℕ) (file bytes : List ℕ) : Type 0 where
  pub given : List FrameRecord
  pub later : List FrameRecord
  pub all : records_of c file ≡ given ++ later
  pub early : AreEarly given
  pub more : List ℕ
  pub some : more ≢ []
  pub begins : flat_map (spelled c) given ≡ bytes ++ more
  pub since : (taken : ℕ) → taken + read_ahead < place → IsPrefix (bytes_due c false (take taken file)) bytes

-- There are records, each of a frame whose number one may have, the output has their bytes, and these are their
-- numbers.
pub record HasAll (c : Config) (file : List ℕ) (ran : ModulateRan) (bytes : List ℕ) : Type 0 where
  pub some : records_of c file ≢ []
  pub early : AreEarly (records_of c file)
  pub output : bytes ≡ output_of c file
  pub ran_is : ran ≡ counted (records_of c file)

-- There is no record, and the output is empty.
pub record HasNone (c : Config) (file bytes : List ℕ) : Type 0 where
  pub none : records_of c file ≡ []
  pub empty : bytes ≡ []

-- All but one byte of a file that is too long were taken, at least: no step wants more than one.
pub record HasNearly (c : Config) (file bytes : List ℕ) : Type 0 where
  pub taken : ℕ
  pub near : longest_file ≤ taken + 1
  pub within : taken ≤ longest_file
  pub has : HasWritten c taken file bytes

abbrev pub modulate_work : Config → Work ModulateRan ModulateStop
modulate_work c files (Ok ran) places bytes = AreWhole files places × HasAll c (files 0) ran bytes
modulate_work c files (Err (Refused NoSuperframe)) places bytes = AreWhole files places × HasNone c (files 0) bytes
modulate_work c files (Err (Refused TooManyFrames)) places bytes = HasEarly c (files 0) bytes
modulate_work c files (Err (Files (TooLong input))) places bytes = HasNearly c (files 0) bytes
modulate_work c files (Err (Files (ReadFault input))) places bytes = HasWritten c (slice_index places 0) (files 0) bytes
modulate_work c files (Err (Files WriteFault)) places bytes = HasSome c (slice_index places 0) (files 0) bytes
modulate_work c files (Err OutOfMemory) places bytes = ⊥
