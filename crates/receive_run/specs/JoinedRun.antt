-- What a run of the receiver of a PLP does, by the bytes of its one file, if the packets of another PLP are joined with
-- its own, or of none.
use Rattle.std.specs.Prelude.{◌≡◌, ◌≢◌, ◌⊎◌, ℕ, ◌+◌, ◌-◌, ◌<◌, List, [], ◌∷◌, ◌++◌, length, slice_index, Option, Ok}
use Rattle.std.specs.Prelude.{Err}
use Rattle.plp_config.specs.declared.config.Config.{Config}
use Rattle.site_frame.specs.Record.{head_len}
use Rattle.site_frame.specs.RecordFile.{AreRecords, Announces, EndsWithin, bytes_before}
use Rattle.site_frame.specs.declared.fault.RecordWhy.{RecordWhy}
use Rattle.site_frame.specs.declared.reading.RecordView.{RecordView}
use Rattle.file_run.specs.Work.{Work, AreWhole}
use Rattle.file_run.specs.declared.stop.RunFault.TheVariants.{TooLong, ReadFault, WriteFault}
use Rattle.file_run.specs.declared.stop.RunStop.TheVariants.{Refused, Files, OutOfMemory}
use Rattle.receive_run.specs.JoinedReceived.{Received}
use Rattle.receive_run.specs.Received.{ran_of, expected_after, RefusesNext}
use Rattle.receive_run.specs.declared.stop.ReceiveRan.{ReceiveRan}
use Rattle.receive_run.specs.declared.stop.ReceiveStop.{ReceiveStop}
use Rattle.receive_run.specs.declared.stop.ReceiveStop.TheVariants.{RecordRefused}

-- The file is nothing but records, the bytes are what they give back, and these are their slots.
pub record HasAll (joins : Option ℕ) (c : Config) (plp : ℕ) (ran : ReceiveRan) (file bytes : List ℕ) : Type 0 where
  pub views : List RecordView
  pub records : AreRecords file views []
  pub received : Received joins c plp views bytes
  pub ran_is : ran ≡ ran_of c plp received.first views received.packets

-- The file begins with so many records, the bytes are what they give back, and what stands behind them is refused.
pub record HasBefore (joins : Option ℕ) (c : Config) (plp number : ℕ) (why : RecordWhy) (file bytes : List ℕ) :
    Type 0 where
  pub views : List RecordView
  pub rest : List ℕ
  pub records : AreRecords file views rest
  pub received : Received joins c plp views bytes
  pub number_is : number ≡ length views
  pub refused : RefusesNext c (expected_after received.first views) rest why

-- The same, and of the file so many bytes were read: behind those records no more than a head, or no more than the
-- record has of which the head stands there. So if no record begins with the head, no byte behind it was read.
pub record HasMetRefused (joins : Option ℕ) (c : Config) (plp number : ℕ) (why : RecordWhy) (place : ℕ)
    (file bytes : List ℕ)
    : Type 0 where
  pub before : HasBefore joins c plp number why file bytes
  pub within : EndsWithin before.rest (place - bytes_before file before.rest)

-- So many bytes are less than a head, or less than the record has of which the head stands there.
abbrev pub LacksSome : List ℕ → ℕ → Type 0
LacksSome bytes count = (count < head_len) ⊎ ((len : ℕ) × Announces bytes len × (count < head_len + len))

-- Of so many bytes that were read of the file, records were met, the bytes are what they give back, and this is so of
-- what stands behind them and how much of it was read: it is no more than the next record, at which nobody looked; or
-- some bytes of that were not read, so no refused one was met.
pub record HasMet (joins : Option ℕ) (c : Config) (plp : ℕ) (Within : List ℕ → ℕ → Type 0) (place : ℕ)
    (file bytes : List ℕ)
    : Type 0 where
  pub views : List RecordView
  pub rest : List ℕ
  pub records : AreRecords file views rest
  pub received : Received joins c plp views bytes
  pub within : Within rest (place - bytes_before file rest)

-- So many bytes were read of the file, which are records. Of what they give back the bytes are a front, but not all;
-- and they begin with all that the records before the last one give back.
pub record HasSome (joins : Option ℕ) (c : Config) (plp place : ℕ) (file bytes : List ℕ) : Type 0 where
  pub before : List RecordView
  pub last : RecordView
  pub rest : List ℕ
  pub records : AreRecords file (before ++ last ∷ []) rest
  pub read : place ≡ bytes_before file rest
  pub all : List ℕ
  pub received : Received joins c plp (before ++ last ∷ []) all
  pub more : List ℕ
  pub some : more ≢ []
  pub begins : all ≡ bytes ++ more
  pub early : List ℕ
  pub received_early : Received joins c plp before early
  pub late : List ℕ
  pub since : bytes ≡ early ++ late

abbrev pub receive_work : Option ℕ → Config → ℕ → Work ReceiveRan ReceiveStop
receive_work joins c plp files (Ok ran) places bytes = AreWhole files places × HasAll joins c plp ran (files 0) bytes
receive_work joins c plp files (Err (Refused (RecordRefused number why))) places bytes =
    HasMetRefused joins c plp number why (slice_index places 0) (files 0) bytes
receive_work joins c plp files (Err (Files (TooLong input))) places bytes =
    HasMet joins c plp EndsWithin (slice_index places 0) (files 0) bytes
receive_work joins c plp files (Err (Files (ReadFault input))) places bytes =
    HasMet joins c plp LacksSome (slice_index places 0) (files 0) bytes
receive_work joins c plp files (Err (Files WriteFault)) places bytes = HasSome joins c plp (slice_index places 0)
    (files 0) bytes
receive_work joins c plp files (Err OutOfMemory) places bytes = ⊥
