-- What a run of the swapper does, by the bytes of its two files: the T2-MI stream is input 0, and the transport stream
-- of the region input 1.
use Rattle.std.specs.Prelude.{◌≡◌, ◌≢◌, ◌⊎◌, ℕ, zero, suc, ◌+◌, ◌-◌, ◌*◌, ◌<◌, ◌≤◌, false, List, [], ◌∷◌, ◌++◌, length}
use Rattle.std.specs.Prelude.{take, slice_index, Ok, Err}
use Rattle.plp_config.specs.SlotTime.{slots_by}
use Rattle.plp_config.specs.declared.config.Config.{Config}
use Rattle.plp_config.specs.declared.moment.TheConstants.{MOST_FRAMES}
use Rattle.ts_packet.specs.TsFile.{packets_in, HasBad, joined, ReadsNoBad}
use Rattle.ts_packet.specs.declared.sizes.TheConstants.{SIZE}
use Rattle.t2mi_stream.specs.Complete.{complete_units}
use Rattle.t2mi_stream.specs.Pipe.{pipe}
use Rattle.terms.specs.Lists.{IsPrefix}
use Rattle.frame_groups.specs.Modulated.{FrameRecord}
use Rattle.modulator.specs.StandsFor.{records_due, records_of}
use Rattle.stream_laws.specs.Remade.{remade_packets}
use Rattle.feed_merge.specs.Picks.{above_all}
use Rattle.feed_merge.specs.Fed.{AreEarly}
use Rattle.region_swap.specs.Swapped.{swapped, frames_in}
use Rattle.file_run.specs.Reading.{longest_file}
use Rattle.file_run.specs.FileRun.{read_ahead}
use Rattle.file_run.specs.Work.{Work, AreWhole}
use Rattle.file_run.specs.declared.stop.RunFault.TheVariants.{TooLong, ReadFault, WriteFault}
use Rattle.file_run.specs.declared.stop.RunStop.TheVariants.{Refused, Files, OutOfMemory}
use Rattle.swap_run.specs.declared.stop.SwapRan.{SwapRan}
use Rattle.swap_run.specs.declared.stop.SwapStop.{SwapStop}
use Rattle.swap_run.specs.declared.stop.SwapStop.TheVariants.{NoSuperframe, InputRefused, TooManyFrames}

-- ---- what comes out

-- the packets of the frames of some records, with a PLP replaced by an input
abbrev pub packets_of : Config → ℕ → List (List ℕ) → List FrameRecord → List (List ℕ)
packets_of c plp input records = remade_packets c (swapped c plp input (frames_in c records))

-- all units of all frames of the first file, with the packets of the second, up to the first bad one
abbrev pub units_of : Config → ℕ → (ℕ → List ℕ) → List (List ℕ)
units_of c plp files = pipe c.pid (packets_of c plp (packets_in (files 1)) (records_of c (files 0)))

-- the complete units of the frames of some records
abbrev pub complete_of : Config → ℕ → (ℕ → List ℕ) → List FrameRecord → List (List ℕ)
complete_of c plp files records = complete_units c.pid (packets_of c plp (packets_in (files 1)) records)

-- the slots that are over when the frame of the last of some records begins
abbrev pub slots_of : Config → ℕ → List FrameRecord → ℕ
slots_of c plp records = slots_by c plp ((above_all records - 1) * c.ticks)

-- what a run counts: frames, muted records, the packets of the slots that are not over when the last frame begins, and
-- units
abbrev pub counted : Config → ℕ → List FrameRecord → List (List ℕ) → ℕ → SwapRan
counted c plp records packets units = record {
  frames = length (frames_in c records);
  muted = length records - length (frames_in c records);
  unsent = length packets - slots_of c plp records;
  units = units;
}

-- ---- when it ends

-- The second file has a bad packet, and the last of some records wants it: its slot is over when that frame begins.
abbrev pub WantBad : Config → ℕ → List ℕ → List FrameRecord → Type 0
WantBad c plp file records = HasBad file × (length (packets_in file) < slots_of c plp records)

-- The first file has a record and no late one, the second no bad packet; the output is all units, and these are the
-- numbers.
pub record SwapsAll (c : Config) (plp : ℕ) (files : ℕ → List ℕ) (ran : SwapRan) (bytes : List ℕ) : Type 0 where
  pub some : records_of c (files 0) ≢ []
  pub early : AreEarly (records_of c (files 0))
  pub whole : ¬ (HasBad (files 1))
  pub output : bytes ≡ joined (units_of c plp files)
  pub ran_is : ran ≡ counted c plp (records_of c (files 0)) (packets_in (files 1)) (length (units_of c plp files))

-- The first file has no record, and the output is empty.
pub record HasNone (c : Config) (files : ℕ → List ℕ) (bytes : List ℕ) : Type 0 where
  pub none : records_of c (files 0) ≡ []
  pub empty : bytes ≡ []

-- Of the second file no more was read than the first of some records wants, behind others; if there is none, the rest
-- may be read.
abbrev pub ReadsNoFurther : Config → ℕ → List ℕ → List FrameRecord → List FrameRecord → Type 0
ReadsNoFurther c plp places before after = after ≢ [] → slice_index places 1 ≤ SIZE * slots_of c plp
    (before ++ take 1 after)

-- The first file was read by no more than is read ahead behind bytes by which a record is due that is none of these.
abbrev pub TakesNoFurther : Config → List ℕ → (ℕ → List ℕ) → List FrameRecord → Type 0
TakesNoFurther c places files before = (taken : ℕ) → taken + read_ahead < slice_index places 0
    → IsPrefix (records_due c false (take taken (files 0))) before

-- The first file has a record, and the first bad packet of the second is this: the first of some records wants it,
-- whose frame may have its number, or all were sent and the rest has it. The output is the complete units of the frames
-- before.
pub record MeetsBad (c : Config) (plp : ℕ) (files : ℕ → List ℕ) (packet : ℕ) (bytes : List ℕ) : Type 0 where
  pub some : records_of c (files 0) ≢ []
  pub bad : HasBad (files 1)
  pub number : packet ≡ length (packets_in (files 1))
  pub before : List FrameRecord
  pub after : List FrameRecord
  pub parts : records_of c (files 0) ≡ before ++ after
  pub early : AreEarly (before ++ take 1 after)
  pub unwanted : ¬ (WantBad c plp (files 1) before)
  pub wanted : after ≢ [] → WantBad c plp (files 1) (before ++ take 1 after)
  pub output : bytes ≡ joined (complete_of c plp files before)

-- The first file has a record whose number none may have, no frame before wants a bad packet, and the output is the
-- complete units of the frames before it.
pub record HasLate (c : Config) (plp : ℕ) (files : ℕ → List ℕ) (bytes : List ℕ) : Type 0 where
  pub before : List FrameRecord
  pub late : FrameRecord
  pub after : List FrameRecord
  pub parts : records_of c (files 0) ≡ before ++ late ∷ after
  pub early : AreEarly before
  pub number : MOST_FRAMES ≤ late.number
  pub unwanted : ¬ (WantBad c plp (files 1) before)
  pub output : bytes ≡ joined (complete_of c plp files before)

-- These are the records that are due by so many bytes of the first file. All may have their numbers, none wants a bad
-- packet, of the second file no more was read than they want, and the output is the complete units of their frames.
pub record HasSwapped (c : Config) (plp : ℕ) (places : List ℕ) (taken : ℕ) (files : ℕ → List ℕ) (bytes : List ℕ) :
    Type 0 where
  pub early : AreEarly (records_due c false (take taken (files 0)))
  pub unwanted : ¬ (WantBad c plp (files 1) (records_due c false (take taken (files 0))))
  pub no_further : slice_index places 1 ≤ SIZE * slots_of c plp (records_due c false (take taken (files 0)))
  pub output : bytes ≡ joined (complete_of c plp files (records_due c false (take taken (files 0))))

-- The next frame is the first that wants more of the second file than so many bytes, and no more was read than it
-- wants, or all frames were sent; of the first file no more was read than its record wants; in these bytes no bad
-- packet is whole. The output is the complete units of the frames before.
pub record WantsMore (c : Config) (plp : ℕ) (places : List ℕ) (place : ℕ) (files : ℕ → List ℕ) (bytes : List ℕ) :
    Type 0 where
  pub before : List FrameRecord
  pub after : List FrameRecord
  pub parts : records_of c (files 0) ≡ before ++ after
  pub early : AreEarly (before ++ take 1 after)
  pub some : records_of c (files 0) ≢ []
  pub had : SIZE * slots_of c plp before ≤ place
  pub wanted : after ≢ [] → place < SIZE * slots_of c plp (before ++ take 1 after)
  pub no_further : ReadsNoFurther c plp places before after
  pub ahead : TakesNoFurther c places files before
  pub unread : ReadsNoBad (files 1) place
  pub output : bytes ≡ joined (complete_of c plp files before)

-- what is written when an input is to be read on: they were read to these places, of the first so many bytes were
-- taken, and of the second so many are looked at
abbrev pub HasWritten : Config → ℕ → List ℕ → ℕ → ℕ → ℕ → (ℕ → List ℕ) → List ℕ → Type 0
HasWritten c plp places zero taken place files bytes = HasSwapped c plp places taken files bytes
HasWritten c plp places (suc input) taken place files bytes = WantsMore c plp places place files bytes

-- what a step wants at least: a byte of the T2-MI stream, or a packet of the input
abbrev pub least_of : ℕ → ℕ
least_of zero = 1
least_of (suc input) = SIZE

-- These records may have their numbers, and of their frames all complete units are written.
pub record AreWritten (c : Config) (plp : ℕ) (files : ℕ → List ℕ) (bytes : List ℕ) (records : List FrameRecord) :
    Type 0 where
  pub early : AreEarly records
  pub front : IsPrefix (joined (complete_of c plp files records)) bytes

-- What may be written: the complete units of the frames of the first records, none of which wants a bad packet; and if
-- they are all, and the second file has no bad packet, all units.
pub record MayWrite (c : Config) (plp : ℕ) (files : ℕ → List ℕ) (bytes : List ℕ) : Type 0 where
  pub before : List FrameRecord
  pub after : List FrameRecord
  pub parts : records_of c (files 0) ≡ before ++ after
  pub early : AreEarly before
  pub unwanted : ¬ (WantBad c plp (files 1) before)
  pub output : (bytes ≡ joined (complete_of c plp files before))
      ⊎ ((after ≡ []) × (¬ (HasBad (files 1))) × (bytes ≡ joined (units_of c plp files)))

-- Of the frames of some first records all complete units are written, and no more of the second file was read than that
-- of the next wants.
pub record ReadsAhead (c : Config) (plp : ℕ) (places : List ℕ) (files : ℕ → List ℕ) (bytes : List ℕ) : Type 0 where
  pub before : List FrameRecord
  pub after : List FrameRecord
  pub parts : records_of c (files 0) ≡ before ++ after
  pub written : AreWritten c plp files bytes before
  pub no_further : ReadsNoFurther c plp places before after

-- These bytes are the first of what may be written, but not all; and so the records are written that are due by fewer
-- bytes of the T2-MI stream than were read by more than are read ahead, and those before the one whose frame wants what
-- was read of the second file.
pub record HasSome (c : Config) (plp : ℕ) (places : List ℕ) (files : ℕ → List ℕ) (bytes : List ℕ) : Type 0 where
  pub more : List ℕ
  pub some : more ≢ []
  pub begins : MayWrite c plp files (bytes ++ more)
  pub since : (taken : ℕ) → taken + read_ahead < slice_index places 0
      → AreWritten c plp files bytes (records_due c false (take taken (files 0)))
  pub ahead : ReadsAhead c plp places files bytes

-- All but what a step wants of a file that is too long were taken, at least.
pub record HasNearly (c : Config) (plp input : ℕ) (files : ℕ → List ℕ) (places bytes : List ℕ) : Type 0 where
  pub taken : ℕ
  pub near : longest_file ≤ taken + least_of input
  pub within : taken ≤ longest_file
  pub has : HasWritten c plp places input taken taken files bytes

-- What a run tells, by its cause. A record that none may have waits, or a bad packet was met: then of the second file
-- no more was read than the frame wants that comes next, or those before the record, and of the first no more than its
-- record wants.
abbrev pub swap_work : Config → ℕ → Work SwapRan SwapStop
swap_work c plp files (Ok ran) places bytes = AreWhole files places × SwapsAll c plp files ran bytes
swap_work c plp files (Err (Refused NoSuperframe)) places bytes =
    (slice_index places 0 ≡ length (files 0)) × (slice_index places 1 ≡ 0) × HasNone c files bytes
swap_work c plp files (Err (Refused (InputRefused packet))) places bytes = (meets : MeetsBad c plp files packet bytes)
    × ReadsNoFurther c plp places meets.before meets.after × TakesNoFurther c places files meets.before
swap_work c plp files (Err (Refused TooManyFrames)) places bytes = (has : HasLate c plp files bytes)
    × (slice_index places 1 ≤ SIZE * slots_of c plp has.before) × TakesNoFurther c places files has.before
swap_work c plp files (Err (Files (TooLong input))) places bytes = HasNearly c plp input files places bytes
swap_work c plp files (Err (Files (ReadFault input))) places bytes =
    HasWritten c plp places input (slice_index places input) (slice_index places input) files bytes
swap_work c plp files (Err (Files WriteFault)) places bytes = HasSome c plp places files bytes
swap_work c plp files (Err OutOfMemory) places bytes = ⊥
