-- The text of a file of records.
use Rattle.std.specs.Prelude.{◌≡◌, ℕ, ◌+◌, ◌-◌, ◌≤◌, List, [], ◌++◌, length, Result, Ok, Err}
use Rattle.file_run.specs.Reading.{longest_file}
use Rattle.file_run.specs.Telling.{most_waiting}
use Rattle.file_run.specs.declared.stop.RunFault.TheVariants.{TooLong, ReadFault, WriteFault}
use Rattle.site_frame.specs.declared.fault.RecordWhy.{RecordWhy}
use Rattle.site_frame.specs.declared.reading.RecordView.{RecordView}
use Rattle.site_frame.specs.RecordFile.{AreRecords, IsNoRecord, Announces, EndsWithin, bytes_before}
use Rattle.show_run.specs.SaidLines.{record_lines, records_line}
use Rattle.file_run.specs.declared.stop.RunStop.{RunStop}
use Rattle.file_run.specs.declared.stop.RunStop.TheVariants as run
use Rattle.show_run.specs.declared.stop.ShowStop.{ShowStop}
use Rattle.show_run.specs.declared.stop.ShowStop.TheVariants.{PacketRefused, RecordRefused, NoRoom}

-- The text is the lines of some records with which the file begins, and then comes a rest.
abbrev pub SaysFirst : List ℕ → List RecordView → List ℕ → List ℕ → Type 0
SaysFirst file views rest text = AreRecords file views rest × (text ≡ record_lines 0 views)

abbrev pub AreFirstRecords : List ℕ → List ℕ → Type 0
AreFirstRecords file text = (views : List RecordView) × (rest : List ℕ) × SaysFirst file views rest text

-- Of so many bytes that were read, records were met, and of the next one some bytes were not read, since a byte more
-- would end within it too: so no refused one was met. The text is the first of the lines of these records: what is left
-- of them is no more than may wait to be said.
abbrev pub LacksFewRecords : List ℕ → ℕ → List ℕ → List ℕ → Type 0
LacksFewRecords file given text unsaid = (views : List RecordView) × (rest : List ℕ) × AreRecords file views rest
    × EndsWithin rest (given - bytes_before file rest + 1)
    × (record_lines 0 views ≡ text ++ unsaid) × (length unsaid ≤ most_waiting)

-- Records were met, of which the text is the lines, and what was read behind them ends within the next one, at which
-- nobody looked.
abbrev pub SaysMetRecords : List ℕ → ℕ → List ℕ → Type 0
SaysMetRecords file given text = (views : List RecordView) × (rest : List ℕ) × SaysFirst file views rest text
    × EndsWithin rest (given - bytes_before file rest)

-- The text is the lines of some records, and not all that is due: behind them stands another record, or the file ends
-- and lacks its number.
abbrev pub LeavesRecords : List ℕ → List ℕ → Type 0
LeavesRecords file text = (views : List RecordView) × (rest : List ℕ) × SaysFirst file views rest text
    × ((why : RecordWhy) → ¬ (IsNoRecord rest why))

-- The text by outcome: the lines of all records and their number; the lines of those before what is no record, or
-- before one for which there was no memory; or those of the first.
abbrev pub IsRecordText : List ℕ → ℕ → Result ℕ (RunStop ShowStop) → List ℕ → List ℕ → Type 0
IsRecordText file given (Ok count) text unsaid =
    (views : List RecordView) × AreRecords file views [] × (count ≡ length views)
    × (text ≡ record_lines 0 views ++ records_line count) × (given ≡ length file)
IsRecordText file given (Err (run.Refused (PacketRefused at why))) text unsaid = ⊥
IsRecordText file given (Err (run.Refused (RecordRefused number why))) text unsaid =
    (views : List RecordView) × (rest : List ℕ) × SaysFirst file views rest text × IsNoRecord rest why
    × (number ≡ length views)
IsRecordText file given (Err (run.Files (TooLong input))) text unsaid = (longest_file ≤ length file)
    × SaysMetRecords file given text
IsRecordText file given (Err (run.Files (ReadFault input))) text unsaid = LacksFewRecords file given text unsaid
    × AreFirstRecords file text
IsRecordText file given (Err (run.Files WriteFault)) text unsaid = LeavesRecords file text
IsRecordText file given (Err run.OutOfMemory) text unsaid = text ≡ []
IsRecordText file given (Err (run.Refused NoRoom)) text unsaid = (views : List RecordView) × (rest : List ℕ)
    × SaysFirst file views rest text
    × ((len : ℕ) × Announces rest len)
