-- What a run of the merger does, by the bytes of its two files.
use Rattle.std.specs.Prelude.{◌≡◌, ◌≢◌, ◌⊎◌, ℕ, ◌+◌, ◌<◌, ◌≤◌, List, [], ◌++◌, length, slice_index, Ok, Err}
use Rattle.plp_config.specs.declared.config.Config.{Config}
use Rattle.plp_config.specs.declared.moment.TheConstants.{MOST_FRAMES}
use Rattle.ts_packet.specs.TsFile.{joined}
use Rattle.t2mi_stream.specs.Complete.{complete_units}
use Rattle.t2mi_stream.specs.Pipe.{pipe}
use Rattle.terms.specs.Lists.{IsPrefix}
use Rattle.modulator.specs.StandsFor.{records_of}
use Rattle.stream_laws.specs.Remade.{remade_packets}
use Rattle.feed_merge.specs.Picks.{Picked, picks, picks_below, frames_of}
use Rattle.file_run.specs.Reading.{longest_file}
use Rattle.file_run.specs.FileRun.{read_ahead}
use Rattle.file_run.specs.Work.{Work, AreWhole}
use Rattle.file_run.specs.declared.stop.RunFault.TheVariants.{TooLong, ReadFault, WriteFault}
use Rattle.file_run.specs.declared.stop.RunStop.TheVariants.{Refused, Files, OutOfMemory}
use Rattle.feed_merge.specs.Fed.{AreEarly, end_by, ReadsAhead}
use Rattle.merge_run.specs.Counted.{counted}
use Rattle.merge_run.specs.declared.stop.MergeStop.{MergeStop}
use Rattle.merge_run.specs.declared.stop.MergeStop.TheVariants.{NoSuperframe, TooManyFrames}
use Rattle.merge_run.specs.declared.stop.MergeRan.{MergeRan}

-- the frames that are picked of the records of two files, those below a number, and all
abbrev pub picked_below : Config → (ℕ → List ℕ) → ℕ → List Picked
picked_below c files end = picks_below c (records_of c (files 0)) (records_of c (files 1)) end

abbrev pub picked_of : Config → (ℕ → List ℕ) → List Picked
picked_of c files = picks c (records_of c (files 0)) (records_of c (files 1))

-- frames that were picked, as T2-MI packets again
abbrev pub packets_of : Config → List Picked → List (List ℕ)
packets_of c picked = remade_packets c (frames_of picked)

-- all units of all frames that are picked
abbrev pub units_of : Config → (ℕ → List ℕ) → List (List ℕ)
units_of c files = pipe c.pid (packets_of c (picked_of c files))

-- One of the files has a record, none has a late one, the output is all units, and these are the numbers.
pub record MergesAll (c : Config) (files : ℕ → List ℕ) (ran : MergeRan) (bytes : List ℕ) : Type 0 where
  pub some : (records_of c (files 0) ≢ []) ⊎ (records_of c (files 1) ≢ [])
  pub early : (input : ℕ) → input < 2 → AreEarly (records_of c (files input))
  pub output : bytes ≡ joined (units_of c files)
  pub ran_is : ran ≡ counted (picked_of c files) (length (units_of c files))

-- Neither file has a record, and the output is empty.
pub record HasNone (c : Config) (files : ℕ → List ℕ) (bytes : List ℕ) : Type 0 where
  pub none : (input : ℕ) → input < 2 → records_of c (files input) ≡ []
  pub empty : bytes ≡ []

-- These bytes are the complete units of the frames below a number that are picked.
abbrev pub AreCompleteBelow : Config → (ℕ → List ℕ) → ℕ → List ℕ → Type 0
AreCompleteBelow c files end bytes = bytes ≡ joined (complete_units c.pid (packets_of c (picked_below c files end)))

-- A file has a record whose number none may have, and the output is the complete units of the frames that are picked
-- before it.
pub record HasLate (c : Config) (files : ℕ → List ℕ) (bytes : List ℕ) : Type 0 where
  pub late : (¬ (AreEarly (records_of c (files 0)))) ⊎ (¬ (AreEarly (records_of c (files 1))))
  pub is : AreCompleteBelow c files MOST_FRAMES bytes

-- By so many bytes of an input no record is due whose number none may have. The output is the complete units of the
-- frames that are picked of those up to the last of these records: it decides how far the other input counts.
pub record HasWritten (c : Config) (input taken : ℕ) (files : ℕ → List ℕ) (bytes : List ℕ) : Type 0 where
  pub early : end_by c (files input) taken ≤ MOST_FRAMES
  pub is : AreCompleteBelow c files (end_by c (files input) taken) bytes

-- the complete units of the frames that are picked below the number behind those of all records that are due by so many
-- bytes
abbrev pub complete_by : Config → (ℕ → List ℕ) → ℕ → ℕ → List ℕ
complete_by c files input taken = joined
    (complete_units c.pid (packets_of c (picked_below c files (end_by c (files input) taken))))

-- what may be written: all units, if no record has a number that none may have, and else the complete units of the
-- frames before it
abbrev pub MayWrite : Config → (ℕ → List ℕ) → List ℕ → Type 0
MayWrite c files bytes =
    (((input : ℕ) → input < 2 → AreEarly (records_of c (files input))) × (bytes ≡ joined (units_of c files)))
    ⊎ AreCompleteBelow c files MOST_FRAMES bytes

-- These bytes are the first of what may be written, but not all; and they have all complete units that follow of fewer
-- bytes of an input than were read by more than are read ahead.
pub record HasSome (c : Config) (places : List ℕ) (files : ℕ → List ℕ) (bytes : List ℕ) : Type 0 where
  pub more : List ℕ
  pub some : more ≢ []
  pub begins : MayWrite c files (bytes ++ more)
  pub since : (input taken : ℕ) → input < 2 → taken + read_ahead < slice_index places input
      → (end_by c (files input) taken ≤ MOST_FRAMES) × IsPrefix (complete_by c files input taken) bytes

-- An input cannot be read on behind so many bytes: what follows of them is written, and neither input was read further
-- than by what is read ahead.
pub record HasRead (c : Config) (input taken : ℕ) (files : ℕ → List ℕ) (places bytes : List ℕ) : Type 0 where
  pub written : HasWritten c input taken files bytes
  pub ahead : ReadsAhead c (end_by c (files input) taken) files places

-- All but one byte of a file that is too long were taken, at least: no step wants more than one.
pub record HasNearly (c : Config) (input : ℕ) (files : ℕ → List ℕ) (places bytes : List ℕ) : Type 0 where
  pub taken : ℕ
  pub near : longest_file ≤ taken + 1
  pub within : taken ≤ longest_file
  pub has : HasRead c input taken files places bytes

abbrev pub merge_work : Config → Work MergeRan MergeStop
merge_work c files (Ok ran) places bytes = AreWhole files places × MergesAll c files ran bytes
merge_work c files (Err (Refused NoSuperframe)) places bytes = AreWhole files places × HasNone c files bytes
merge_work c files (Err (Refused TooManyFrames)) places bytes = HasLate c files bytes
    × ReadsAhead c MOST_FRAMES files places
merge_work c files (Err (Files (TooLong input))) places bytes = HasNearly c input files places bytes
merge_work c files (Err (Files (ReadFault input))) places bytes = HasRead c input (slice_index places input)
    files places bytes
merge_work c files (Err (Files WriteFault)) places bytes = HasSome c places files bytes
merge_work c files (Err OutOfMemory) places bytes = ⊥
