-- What a feed of records stands for: the bytes that came of a file, and whether it has ended.
use Rattle.std.specs.Prelude.{◌≡◌, ◌≢◌, ℕ, ◌≤◌, Bool, List, ◌++◌, length, vec_capacity}
use Rattle.site_frame.specs.RecordFile.{AreRecords}
use Rattle.site_frame.specs.declared.reading.RecordView.{RecordView}
use Rattle.site_frame.specs.Behind.{Behind, greatest_record}
use Rattle.site_frame.specs.declared.coming.Coming.{Coming}
use Rattle.site_frame.specs.declared.coming.Coming.TheVariants.{Head, Rest, Whole, Refused, NoRoom, Finished}
use Rattle.site_frame.specs.declared.feed.RecordFeed.{RecordFeed}

-- what comes next
abbrev pub coming_of : RecordFeed → Coming
coming_of f = f.coming

-- how many records were accepted, and how many bytes came
abbrev pub count_of : RecordFeed → ℕ
count_of f = f.count

abbrev pub came_of : RecordFeed → ℕ
came_of f = f.at

-- how many bytes are lacking of the head or of the record under way; as many were, if the file has ended there
abbrev pub left_of : RecordFeed → ℕ
left_of f = f.left

-- so many of them are still taken
abbrev pub lacks_at : Coming → ℕ → ℕ
lacks_at Head left = left
lacks_at Rest left = left
lacks_at Whole left = 0
lacks_at (Refused why) left = 0
lacks_at NoRoom left = 0
lacks_at Finished left = 0

abbrev pub lacks_of : RecordFeed → ℕ
lacks_of f = lacks_at f.coming f.left

-- the bytes of the record that has come whole
abbrev pub record_of : RecordFeed → List ℕ
record_of f = f.bytes.items

-- Nothing is taken any more, since the file ended.
abbrev pub IsOver : Coming → Type 0
IsOver Head = ⊥
IsOver Rest = ⊥
IsOver Whole = ⊥
IsOver (Refused why) = Unit {0}
IsOver NoRoom = ⊥
IsOver Finished = Unit {0}

-- It has the memory of any record.
pub record NeverLacksRoom (f : RecordFeed) : Type 0 where
  pub capacity : greatest_record ≤ vec_capacity f.bytes
  pub coming : f.coming ≢ NoRoom

-- The bytes that came are these records, which were accepted, and what stands behind them.
pub record RecordFeedStandsFor (f : RecordFeed) (views : List RecordView) (came : List ℕ) (ended : Bool) : Type 0 where
  pub rest : List ℕ
  pub records : AreRecords came views rest
  pub size : f.at ≡ length came
  pub number : f.count ≡ length views
  pub behind : Behind f.coming f.head f.bytes.items f.left rest ended

-- These bytes more came of the file.
abbrev pub Takes : RecordFeed → RecordFeed → List ℕ → Type 0
Takes old new piece = (views : List RecordView) (came : List ℕ) (ended : Bool)
    → RecordFeedStandsFor old views came ended
    → RecordFeedStandsFor new views (came ++ piece) ended
