-- Laws of what a feed stands for.
use Rattle.std.specs.Prelude.{◌≡◌, ◌≢◌, ◌⊎◌, ℕ, ◌+◌, ◌<◌, ◌≤◌, Bool, false, List, ◌++◌, length}
use Rattle.site_frame.specs.Record.{head_len}
use Rattle.site_frame.specs.RecordFile.{IsBegun, EndsWithin}
use Rattle.site_frame.specs.Whole.{BeginsWith}
use Rattle.site_frame.specs.declared.reading.RecordView.{RecordView}
use Rattle.site_frame.specs.FeedStandsFor.{RecordFeedStandsFor, coming_of, lacks_of}
use Rattle.site_frame.specs.declared.coming.Coming.TheVariants.{Whole, NoRoom}
use Rattle.site_frame.specs.declared.feed.RecordFeed.{RecordFeed}

-- Of a head, or of a record whose head came, so many bytes are lacking.
abbrev pub Lacks : List ℕ → ℕ → Type 0
Lacks rest left = (length rest + left ≡ head_len) ⊎ IsBegun rest left

-- If a feed takes bytes, they are lacking, and the file has not ended.
abbrev pub TakesOn : Type 0
TakesOn = (f : RecordFeed) (views : List RecordView) (came : List ℕ) (ended : Bool)
    (s : RecordFeedStandsFor f views came ended)
    → 0 < lacks_of f → Lacks s.rest (lacks_of f) × (ended ≡ false)

-- With no more of the bytes that are lacking, what came ends within the head or within the record.
abbrev pub LacksWithin : Type 0
LacksWithin = (rest more : List ℕ) (left count : ℕ) → Lacks rest left → count ≤ left
    → EndsWithin (rest ++ more) (length rest + count)

-- No record is held back: one that has come whole is looked at before more bytes are taken, if there is memory.
abbrev pub NoneWaits : Type 0
NoneWaits = (f : RecordFeed) (views : List RecordView) (came : List ℕ) (ended : Bool)
    (s : RecordFeedStandsFor f views came ended)
    → coming_of f ≢ Whole → coming_of f ≢ NoRoom → (view : RecordView) (len : ℕ) → ¬ (BeginsWith s.rest view len)
