-- Laws of files of T2-MI packets, and of records.
use Rattle.std.specs.Prelude.{◌≡◌, ℕ, List, [], length, Result, Ok, Err}
use Rattle.site_frame.specs.declared.reading.RecordView.{RecordView}
use Rattle.show_run.specs.PacketFile.{Packs, bytes_in, IsRefused}
use Rattle.site_frame.specs.RecordFile.{AreRecords, IsNoRecord, AreBytes}
use Rattle.show_run.specs.declared.stop.ShowStop.{ShowStop}
use Rattle.show_run.specs.declared.stop.ShowStop.TheVariants.{PacketRefused, RecordRefused}

-- How a run over a file of packets must end that is not too long, if nothing outside fails: with their number, or where
-- none begins.
abbrev pub PacketsEnd : List ℕ → Result ℕ ShowStop → Type 0
PacketsEnd file (Ok count) = (packets : List (List ℕ)) × Packs file packets [] × (count ≡ length packets)
PacketsEnd file (Err (PacketRefused at why)) = (packets : List (List ℕ)) × (rest : List ℕ) × Packs file packets rest
    × IsRefused rest why × (at ≡ bytes_in packets)
PacketsEnd file (Err stop) = ⊥

-- A file has one end at most,
abbrev pub OneEnd : Type 0
OneEnd = (file : List ℕ) (result other : Result ℕ ShowStop) → PacketsEnd file result → PacketsEnd file other
    → result ≡ other

-- and at least.
abbrev pub EachEnds : Type 0
EachEnds = (file : List ℕ) → (result : Result ℕ ShowStop) × PacketsEnd file result

-- The same of a file of records.
abbrev pub RecordsEnd : List ℕ → Result ℕ ShowStop → Type 0
RecordsEnd file (Ok count) = (views : List RecordView) × AreRecords file views [] × (count ≡ length views)
RecordsEnd file (Err (RecordRefused number why)) = (views : List RecordView) × (rest : List ℕ)
    × AreRecords file views rest
    × IsNoRecord rest why × (number ≡ length views)
RecordsEnd file (Err stop) = ⊥

abbrev pub OneRecordsEnd : Type 0
OneRecordsEnd = (file : List ℕ) (result other : Result ℕ ShowStop) → RecordsEnd file result → RecordsEnd file other
    → result ≡ other

abbrev pub EachRecordsEnd : Type 0
EachRecordsEnd = (file : List ℕ) → AreBytes file → (result : Result ℕ ShowStop) × RecordsEnd file result
