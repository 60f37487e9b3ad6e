-- What the lines of records tell of the file: the records that were met, and what stands behind them.
use Rattle.std.proofs.Common.{◌≡◌, ℕ, zero, suc, ◌+◌, ◌-◌, ◌<◌, ◌≤◌, List, [], ◌∷◌, ◌++◌, length, refl, ap, sym, subst}
use Rattle.std.proofs.Common.{◌∙◌, inl, inr, arith, append-nil, length-append}
use Rattle.std.specs.Prelude.{codes, ◌⊎◌, Ok, Err}
use Rattle.file_run.specs.declared.input.TheConstants.{BUFFER}
use Rattle.file_run.specs.Telling.{most_waiting, StartsWith}
use Rattle.file_run.specs.Events.{Event, fed, has_ended, gave}
use Rattle.file_run.specs.FileRun.{IsFed}
use Rattle.file_run.specs.declared.machine.Step.TheVariants.{Read, Give, End}
use Rattle.site_frame.specs.RecordFile.{EndsWithin, bytes_before}
use Rattle.site_frame.specs.declared.fault.RecordWhy.{RecordWhy}
use Rattle.site_frame.specs.declared.reading.RecordView.{RecordView}
use Rattle.site_frame.specs.Behind.{Behind}
use Rattle.site_frame.specs.FeedLaws.{TakesOn, LacksWithin}
use Rattle.site_frame.specs.FeedStandsFor.{coming_of, count_of, lacks_of}
use Rattle.site_frame.specs.declared.coming.Coming.{Coming}
use Rattle.site_frame.specs.declared.coming.Coming.TheVariants.{Head, Rest, Whole, Refused, NoRoom, Finished}
use Rattle.show_run.specs.FrameLines.{next_from, next_of, Given, Shown, Comes}
use Rattle.show_run.specs.RecordText.{AreFirstRecords, LacksFewRecords, SaysMetRecords, IsRecordText}
use Rattle.show_run.specs.SaidLines.{record_lines, records_line}
use Rattle.show_run.specs.declared.frame_lines.FrameLines.{FrameLines}
use Rattle.file_run.specs.declared.stop.RunStop.TheVariants as run
use Rattle.show_run.specs.declared.stop.ShowStop.TheVariants as stop
use Rattle.site_frame.proofs.RecordFileLemmas.{records_file, records_first, rest_inside, announces_on}
use Rattle.show_run.proofs.FrameGivenLemmas.{gives_line}
use Rattle.show_run.proofs.FrameLinesLemmas.{all_told}
use Rattle.show_run.proofs.FrameWantedLemmas.{unfinished}
use Rattle.show_run.proofs.PacketMetLemmas.{line_some}

-- the lines of the first records, if a machine has lines still to give
first_lines : (coming : Coming) (lacks : ℕ) (told next : List RecordView) (line text : List ℕ)
    → next_from line lacks ≡ Give
    → Given coming told next line text → text ≡ record_lines 0 told
first_lines Head lacks told next line text gives g = g.0
first_lines Rest lacks told next line text gives g = g.0
first_lines (Refused why) lacks told next line text gives g = g.0
first_lines Whole lacks told next line text gives g = g.0
first_lines NoRoom lacks told next line text gives g = g.0
first_lines Finished lacks told next line text gives (last, inl waits) = waits.1
first_lines Finished lacks told next line text gives (last, inr given) = absurd (gives_line line lacks gives given.0)

first_of_file : (file : List ℕ) (m : FrameLines) (events : List Event)
    → StartsWith file (fed 0 events) (has_ended 0 events)
    → (s : Shown m events) → gave events ≡ record_lines 0 s.told → AreFirstRecords file (gave events)
first_of_file file m events starts s text =
    let mid = records_first (fed 0 events) s.feed.rest s.told s.next s.feed.records in
    (s.told, mid.0 ++ starts.0, (records_file file (fed 0 events) starts.0 mid.0 s.told starts.1 mid.1, text))

pub none_first : (file : List ℕ) → AreFirstRecords file []
none_first file = ([], file, (refl, refl))

-- what was said is the lines of the first records
pub said_first : (start : FrameLines) (file : List ℕ) (early : List Event) (mid : FrameLines)
    → StartsWith file (fed 0 early) (has_ended 0 early) → Comes start early mid → (early ≡ []) ⊎ (next_of mid ≡ Give)
    → AreFirstRecords file (gave early)
said_first start file early mid starts came (inl none) = subst (λ (l : List Event). AreFirstRecords file (gave l))
    (sym none)
    (none_first file)
said_first start file early mid starts came (inr gives) =
    first_of_file file mid early starts came.shown
    (first_lines (coming_of mid.feed) (lacks_of mid.feed) came.shown.told came.shown.next mid.line
    (gave early) gives came.shown.given)

-- what waits ends within the record that comes
ends_within : TakesOn → LacksWithin → (m : FrameLines) (events : List Event) (more : List ℕ) (count : ℕ)
    → 0 < lacks_of m.feed
    → count ≤ lacks_of m.feed → (s : Shown m events) → EndsWithin (s.feed.rest ++ more) (length s.feed.rest + count)
ends_within takes within m events more count some few s =
    within s.feed.rest more (lacks_of m.feed) count
    (takes m.feed (s.told ++ s.next) (fed 0 events) (has_ended 0 events) s.feed some).0 few

-- how much was read behind the records that were seen
read_behind : (file : List ℕ) (m : FrameLines) (events : List Event) (place count : ℕ) (s : Shown m events)
    (starts : StartsWith file (fed 0 events) (has_ended 0 events)) → length (fed 0 events) + count ≡ place
    → place - bytes_before file (s.feed.rest ++ starts.0) ≡ length s.feed.rest + count
read_behind file m events place count s starts is =
    let size = ap length starts.1 in
    let sum = length-append (fed 0 events) starts.0 in
    let both = length-append s.feed.rest starts.0 in
    let inside = rest_inside (fed 0 events) s.feed.rest (s.told ++ s.next) s.feed.records in
    omega (arith, size, sum, both, inside, is)

-- all records that were seen of a file were told, and what waits ends within the next one
pub all_met : TakesOn → LacksWithin → (file : List ℕ) (m : FrameLines) (events : List Event) (place count : ℕ)
    → m.line ≡ []
    → 0 < lacks_of m.feed → count ≤ lacks_of m.feed → (s : Shown m events)
    → StartsWith file (fed 0 events) (has_ended 0 events) → length (fed 0 events) + count ≡ place
    → SaysMetRecords file place (gave events)
all_met takes within file m events place count none some near s starts is = (
  s.told ++ s.next,
  s.feed.rest ++ starts.0,
  (
    records_file file (fed 0 events) starts.0 s.feed.rest (s.told ++ s.next) starts.1 s.feed.records,
    all_told m events s none
        (unfinished m.feed some),
  ),
  rw (read_behind file m events place count s starts is)
      (ends_within takes within m events starts.0 count some near s),
)

-- the next one lacks some bytes, and of the lines of the others the first were said
pub part_met : TakesOn → LacksWithin → (file : List ℕ) (m : FrameLines) (events : List Event) (place count : ℕ)
    (text unsaid : List ℕ) → m.line ≡ [] → 0 < lacks_of m.feed → count + 1 ≤ lacks_of m.feed → (s : Shown m events)
    → StartsWith file (fed 0 events) (has_ended 0 events) → length (fed 0 events) + count ≡ place
    → gave events ≡ text ++ unsaid
    → length unsaid ≤ most_waiting → LacksFewRecords file place text unsaid
part_met takes within file m events place count text unsaid none some near s starts is parts few =
    let behind = read_behind file m events place count s starts is in
    let more : place - bytes_before file (s.feed.rest ++ starts.0) + 1 ≡ length s.feed.rest + (count + 1) = omega
    (arith, behind) in (
      s.told ++ s.next,
      s.feed.rest ++ starts.0,
      records_file file (fed 0 events) starts.0 s.feed.rest (s.told ++ s.next) starts.1 s.feed.records,
      rw more (ends_within takes within m events starts.0 (count + 1) some near s),
      sym (all_told m events s none (unfinished m.feed some)) ∙ parts,
      few,
    )

pub all_first : (file : List ℕ) (m : FrameLines) (events : List Event) → m.line ≡ [] → 0 < lacks_of m.feed
    → (s : Shown m events)
    → StartsWith file (fed 0 events) (has_ended 0 events) → AreFirstRecords file (gave events)
all_first file m events none some s starts = (
  s.told ++ s.next,
  s.feed.rest ++ starts.0,
  (
    records_file file (fed 0 events) starts.0 s.feed.rest (s.told ++ s.next) starts.1 s.feed.records,
    all_told m events s none (unfinished m.feed some),
  ),
)

-- at the end no line waits, and nothing is lacking
pub ends_idle : (line : List ℕ) (lacks : ℕ) → next_from line lacks ≡ End → (line ≡ []) × (lacks ≡ 0)
ends_idle [] zero e = (refl, refl)
ends_idle [] (suc lacks) e = absurd (let f : Read 0 1 BUFFER ≡ End = e in cc)
ends_idle (c ∷ line) lacks e = absurd (let f : Give ≡ End = e in cc)

-- what stands behind the records, by what comes next
pub behind_at : (m : FrameLines) (events : List Event) (p : Coming) → coming_of m.feed ≡ p → (s : Shown m events)
    → Behind p m.feed.head m.feed.bytes.items m.feed.left s.feed.rest (has_ended 0 events)
behind_at m events p is s =
    rw is at s.feed.behind

ended_all : (told next : List RecordView) (line text : List ℕ) → line ≡ [] → Given Finished told next line text
    → (next ≡ [])
    × (text ≡ record_lines 0 told ++ records_line (length told))
ended_all told next line text none (some, inl waits) = absurd (line_some (codes "records=") (length told) (sym waits.0
    ∙ none))
ended_all told next line text none (some, inr given) = (some, given.1)

pub finished_text : (file : List ℕ) (place : ℕ) (m : FrameLines) (events : List Event) (early : List ℕ) → m.line ≡ []
    → coming_of m.feed ≡ Finished → (s : Shown m events) → IsFed file place (fed 0 events) (has_ended 0 events)
    → gave events ≡ early
    → IsRecordText file place (Ok (count_of m.feed)) early []
finished_text file place m events early none done s f text =
    let behind = behind_at m events Finished done s in
    let all = ended_all s.told s.next m.line (gave events) none (rw done at s.given) in
    let whole : s.told ++ s.next ≡ s.told = ap (λ (l : List RecordView). s.told ++ l) all.0 ∙ append-nil s.told in
    let count : count_of m.feed ≡ length s.told = s.feed.number ∙ ap length whole in
    let same : file ≡ fed 0 events = f.parts ∙ ap (λ (l : List ℕ). fed 0 events ++ l) (f.end behind.1)
    ∙ append-nil (fed 0 events) in
    let a = f.ahead in let w = f.within in let n = ap length same in (
      s.told,
      rw same (rw (whole, behind.0) at s.feed.records),
      count,
      sym text ∙ all.1 ∙ ap (λ (k : ℕ). record_lines 0 s.told ++ records_line k) (sym count),
      omega (arith, a, w, n),
    )

pub refused_text : (file : List ℕ) (place : ℕ) (m : FrameLines) (events : List Event) (early : List ℕ) (why : RecordWhy)
    → m.line ≡ []
    → coming_of m.feed ≡ Refused why → (s : Shown m events) → IsFed file place (fed 0 events) (has_ended 0 events)
    → gave events ≡ early
    → IsRecordText file place (Err (run.Refused (stop.RecordRefused (count_of m.feed) why))) early []
refused_text file place m events early why none refused s f text =
    let behind = behind_at m events (Refused why) refused s in (
      s.told ++ s.next,
      s.feed.rest ++ f.more,
      (
        records_file file (fed 0 events) f.more s.feed.rest (s.told ++ s.next) f.parts s.feed.records,
        sym text ∙ all_told m events s none (λ done. let e : Refused why ≡ Finished = sym refused ∙ done in cc),
      ),
      behind.refuses f.more f.end,
      s.feed.number,
    )

pub room_text : (file : List ℕ) (place : ℕ) (m : FrameLines) (events : List Event) (early : List ℕ) → m.line ≡ []
    → coming_of m.feed ≡ NoRoom
    → (s : Shown m events) → IsFed file place (fed 0 events) (has_ended 0 events) → gave events ≡ early
    → IsRecordText file place (Err (run.Refused stop.NoRoom)) early []
room_text file place m events early none lacks s f text =
    let behind = behind_at m events NoRoom lacks s in (
      s.told ++ s.next,
      s.feed.rest ++ f.more,
      (
        records_file file (fed 0 events) f.more s.feed.rest (s.told ++ s.next) f.parts s.feed.records,
        sym text ∙ all_told m events s none (λ done. let e : NoRoom ≡ Finished = sym lacks ∙ done in cc),
      ),
      (behind.1.0, announces_on s.feed.rest f.more behind.1.0 behind.1.1),
    )
