-- What a comparison says, by the bytes of its two files.
use Rattle.std.specs.Prelude.{◌≡◌, ◌≢◌, ◌⊎◌, ℕ, ◌+◌, ◌<◌, ◌≤◌, List, [], ◌++◌, slice_index, Some, None, Ok, Err}
use Rattle.plp_config.specs.declared.config.Config.{Config}
use Rattle.plp_config.specs.declared.moment.TheConstants.{MOST_FRAMES}
use Rattle.terms.specs.Lists.{IsPrefix}
use Rattle.modulator.specs.StandsFor.{records_of}
use Rattle.file_run.specs.Reading.{longest_file}
use Rattle.file_run.specs.FileRun.{read_ahead}
use Rattle.file_run.specs.Work.{Work, AreWhole}
use Rattle.file_run.specs.declared.stop.RunFault.TheVariants.{TooLong, ReadFault, WriteFault}
use Rattle.file_run.specs.declared.stop.RunStop.TheVariants.{Refused, Files, OutOfMemory}
use Rattle.feed_merge.specs.Fed.{AreEarly, end_by, ReadsAhead}
use Rattle.feed_merge.specs.Groups.{groups_of}
use Rattle.compare_run.specs.Comparing.{Answered, answers, answers_below, frames_of, PlpDifference, plp_differences}
use Rattle.compare_run.specs.Lines.{known_text, text_of}
use Rattle.compare_run.specs.Runs.{counts_of, first_differing}
use Rattle.compare_run.specs.declared.counts.CompareRan.{CompareRan}
use Rattle.compare_run.specs.declared.stop.CompareStop.{CompareStop}
use Rattle.compare_run.specs.declared.stop.CompareStop.TheVariants.{NoSuperframe, TooManyFrames, Differs}

-- what is said of the frames of two files, of those below a number and of all
abbrev pub compared_below : Config → (ℕ → List ℕ) → ℕ → List Answered
compared_below c files end = answers_below c (frames_of c (files 0)) (frames_of c (files 1)) end

abbrev pub compared_of : Config → (ℕ → List ℕ) → List Answered
compared_of c files = answers c (frames_of c (files 0)) (frames_of c (files 1))

-- the PLPs in which their frames differ
abbrev pub differing_of : Config → (ℕ → List ℕ) → ℕ → List PlpDifference
differing_of c files = plp_differences c (groups_of c (files 0)) (groups_of c (files 1))

-- all lines of two files, and those that are known by the frames below a number
abbrev pub all_text : Config → (ℕ → List ℕ) → List ℕ
all_text c files = text_of (differing_of c files) (compared_of c files)

abbrev pub text_below : Config → (ℕ → List ℕ) → ℕ → List ℕ
text_below c files end = known_text (differing_of c files) (compared_below c files end)

-- One of the files has a record, and none has a late one.
pub record HaveRecords (c : Config) (files : ℕ → List ℕ) : Type 0 where
  pub some : (records_of c (files 0) ≢ []) ⊎ (records_of c (files 1) ≢ [])
  pub early : (input : ℕ) → input < 2 → AreEarly (records_of c (files input))

-- No frame differs: the text is all lines, and these are the numbers.
pub record AreAlike (c : Config) (files : ℕ → List ℕ) (counts : CompareRan) (text : List ℕ) : Type 0 where
  pub have : HaveRecords c files
  pub none : first_differing (compared_of c files) ≡ None
  pub is : text ≡ all_text c files
  pub counts_are : counts ≡ counts_of (compared_of c files)

-- A frame differs, this one first: the text is all lines too.
pub record AreOther (c : Config) (files : ℕ → List ℕ) (frame : ℕ) (text : List ℕ) : Type 0 where
  pub have : HaveRecords c files
  pub first : first_differing (compared_of c files) ≡ Some frame
  pub is : text ≡ all_text c files

-- Neither file has a record, and nothing is said.
pub record HasNone (c : Config) (files : ℕ → List ℕ) (text : List ℕ) : Type 0 where
  pub none : (input : ℕ) → input < 2 → records_of c (files input) ≡ []
  pub empty : text ≡ []

-- The text is the lines that are known by the frames below a number.
abbrev pub IsKnownBelow : Config → (ℕ → List ℕ) → ℕ → List ℕ → Type 0
IsKnownBelow c files end text = text ≡ text_below c files end

-- A file has a record whose number none may have, and the text is the lines that are known by the frames before it.
pub record HasLate (c : Config) (files : ℕ → List ℕ) (text : List ℕ) : Type 0 where
  pub late : (¬ (AreEarly (records_of c (files 0)))) ⊎ (¬ (AreEarly (records_of c (files 1))))
  pub is : IsKnownBelow c files MOST_FRAMES text

-- By so many bytes of an input no record is due whose number none may have. The text is the lines that are known by the
-- frames up to the last of these records: it decides how far the other input counts.
pub record HasSaid (c : Config) (input taken : ℕ) (files : ℕ → List ℕ) (text : List ℕ) : Type 0 where
  pub early : end_by c (files input) taken ≤ MOST_FRAMES
  pub is : IsKnownBelow c files (end_by c (files input) taken) text

-- what may be said: all lines, if no record has a number that none may have, and else those that are known by the
-- frames before it
abbrev pub MaySay : Config → (ℕ → List ℕ) → List ℕ → Type 0
MaySay c files text =
    (((input : ℕ) → input < 2 → AreEarly (records_of c (files input))) × (text ≡ all_text c files))
    ⊎ IsKnownBelow c files MOST_FRAMES text

-- The text is the beginning of what may be said, but not all; and it has all lines that are known by fewer bytes of an
-- input than were read by more than are read ahead.
pub record HasSome (c : Config) (places : List ℕ) (files : ℕ → List ℕ) (text : List ℕ) : Type 0 where
  pub more : List ℕ
  pub some : more ≢ []
  pub begins : MaySay c files (text ++ more)
  pub since : (input taken : ℕ) → input < 2 → taken + read_ahead < slice_index places input
      → (end_by c (files input) taken ≤ MOST_FRAMES)
      × IsPrefix (text_below c files (end_by c (files input) taken)) text

-- An input cannot be read on behind so many bytes: what is known by them is said, and neither input was read further
-- than by what is read ahead.
pub record HasRead (c : Config) (input taken : ℕ) (files : ℕ → List ℕ) (places text : List ℕ) : Type 0 where
  pub said : HasSaid c input taken files text
  pub ahead : ReadsAhead c (end_by c (files input) taken) files places

-- All but one byte of a file that is too long were taken, at least: no step wants more than one.
pub record HasNearly (c : Config) (input : ℕ) (files : ℕ → List ℕ) (places text : List ℕ) : Type 0 where
  pub taken : ℕ
  pub near : longest_file ≤ taken + 1
  pub within : taken ≤ longest_file
  pub has : HasRead c input taken files places text

abbrev pub compare_work : Config → Work CompareRan CompareStop
compare_work c files (Ok counts) places text = AreWhole files places × AreAlike c files counts text
compare_work c files (Err (Refused (Differs frame))) places text = AreWhole files places × AreOther c files frame text
compare_work c files (Err (Refused NoSuperframe)) places text = AreWhole files places × HasNone c files text
compare_work c files (Err (Refused TooManyFrames)) places text = HasLate c files text
    × ReadsAhead c MOST_FRAMES files places
compare_work c files (Err (Files (TooLong input))) places text = HasNearly c input files places text
compare_work c files (Err (Files (ReadFault input))) places text = HasRead c input (slice_index places input)
    files places text
compare_work c files (Err (Files WriteFault)) places text = HasSome c places files text
compare_work c files (Err OutOfMemory) places text = ⊥
