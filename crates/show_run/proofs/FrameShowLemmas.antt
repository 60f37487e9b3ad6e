-- What was told of the lines of records is what a file of records asks for.
use Rattle.std.proofs.Common.{◌≡◌, ◌≢◌, ℕ, ◌+◌, ◌-◌, ◌<◌, List, [], ◌++◌, length, refl, ap, sym, subst, ◌∙◌, inl, inr}
use Rattle.std.proofs.Common.{arith, append-nil, length-append}
use Rattle.std.specs.Prelude.{◌⊎◌, IfSome, Result, Err}
use Rattle.std.proofs.lemmas.List.{nil_from_length}
use Rattle.std.proofs.lemmas.Option.{IfSome_then}
use Rattle.terms.proofs.OptionLemmas.{if_both}
use Rattle.ports.specs.Desk.{State, bytes_of}
use Rattle.file_run.specs.Reading.{longest_file}
use Rattle.file_run.specs.Events.{Event, fed, has_ended, gave}
use Rattle.file_run.specs.FileRun.{IsFed}
use Rattle.file_run.specs.Telling.{Tells, TellsAll}
use Rattle.file_run.specs.declared.stop.RunFault.TheVariants.{TooLong, ReadFault, WriteFault}
use Rattle.site_frame.specs.Laws.{OneRecord, NoRefusal}
use Rattle.site_frame.specs.declared.fault.RecordWhy.{RecordWhy}
use Rattle.site_frame.specs.declared.reading.RecordView.{RecordView}
use Rattle.site_frame.specs.FeedLaws.{TakesOn, LacksWithin}
use Rattle.site_frame.specs.FeedStandsFor.{coming_of, count_of, lacks_at, lacks_of}
use Rattle.site_frame.specs.declared.coming.Coming.{Coming}
use Rattle.site_frame.specs.declared.coming.Coming.TheVariants.{Head, Rest, Whole, Refused, NoRoom, Finished}
use Rattle.show_run.specs.FrameLines.{next_of, Given, Shown, Comes, records_end}
use Rattle.site_frame.specs.RecordFile.{AreRecords, IsNoRecord}
use Rattle.show_run.specs.RecordText.{AreFirstRecords, SaysMetRecords, LeavesRecords, IsRecordText}
use Rattle.show_run.specs.SaidLines.{record_lines}
use Rattle.show_run.specs.Shows.{Shows}
use Rattle.show_run.specs.LinesStop.{StopsLines}
use Rattle.show_run.specs.declared.frame_lines.FrameLines.{FrameLines}
use Rattle.file_run.specs.declared.stop.RunStop.{RunStop}
use Rattle.file_run.specs.declared.stop.RunStop.TheVariants as run
use Rattle.show_run.specs.declared.stop.ShowStop.{ShowStop}
use Rattle.show_run.proofs.FrameWantedLemmas.{short, needs}
use Rattle.site_frame.proofs.RecordFileLemmas.{records_file, records_first}
use Rattle.show_run.proofs.RecordTextLemmas.{record_lines-append}
use Rattle.site_frame.proofs.RecordSplitLemmas.{stuck_nil, same_records, records_within}
use Rattle.show_run.proofs.PacketMetLemmas.{starts_fed}
use Rattle.show_run.proofs.FrameMetLemmas.{none_first, said_first, behind_at, all_met}
use Rattle.show_run.proofs.ToldLemmas.{first_said, shows_all, shows_fault, shows_long, shows_none, shows_unwritten}
use Rattle.show_run.proofs.FrameMetLemmas.{part_met, all_first, ends_idle, finished_text, refused_text, room_text}

abbrev shows : State → State → List ℕ → Result ℕ (RunStop ShowStop) → Type 0
shows old new name result = Shows IsRecordText old new name result

-- a run to the end
pub frames_end : (start now : FrameLines) (old new : State) (name : List ℕ)
    → TellsAll (Comes start) next_of old new name now
    → shows old new name (records_end (coming_of now.feed) (count_of now.feed))
frames_end start now old new name t = go (coming_of now.feed) refl
  where
    x : Tells (Comes start) next_of old new name now t.place []
    x = t.tells

    ends : (now.line ≡ []) × (lacks_of now.feed ≡ 0)
    ends = ends_idle now.line (lacks_of now.feed) t.end

    idle : now.line ≡ []
    idle = ends.0

    lacking : (p : Coming) → coming_of now.feed ≡ p → lacks_at p now.feed.left ≡ 0
    lacking p is = subst (λ (q : Coming). lacks_at q now.feed.left ≡ 0) is ends.1

    go : (p : Coming) → coming_of now.feed ≡ p → shows old new name (records_end p (count_of now.feed))
    go Head is = absurd (let e = lacking Head is in let some = (now.feed.lacks is).0 in omega (arith, e, some))
    go Rest is = absurd (let e = lacking Rest is in let some = (now.feed.room is).0 in omega (arith, e, some))
    go Whole is = absurd (x.came.shown.seen is)
    go (Refused why) is = shows_all IsRecordText (Comes start) next_of old new name now t _ (λ r. r) (λ r. r)
        (λ file f text. refused_text file t.place now x.events (gave x.early) why idle is x.came.shown f text)
    go NoRoom is = shows_all IsRecordText (Comes start) next_of old new name now t _ (λ r. r) (λ r. r)
        (λ file f text. room_text file t.place now x.events (gave x.early) idle is x.came.shown f text)
    go Finished is = shows_all IsRecordText (Comes start) next_of old new name now t _ (λ r. r) (λ r. r)
        (λ file f text. finished_text file t.place now x.events (gave x.early) idle is x.came.shown f text)

-- what was said if not all was
some_said : (start now : FrameLines) (old new : State) (name : List ℕ) (place : ℕ) (unsaid : List ℕ)
    (x : Tells (Comes start) next_of old new name now place unsaid) → (unsaid ≡ [] → (now.line ≡ [])
    × (0 < lacks_of now.feed))
    → IfSome old.held (λ held. AreFirstRecords (bytes_of held.files name) (gave x.early))
some_said start now old new name place unsaid x wants =
    first_said AreFirstRecords (Comes start) next_of old new name now place unsaid x
    (λ none file f. all_first file now x.events (wants none).0 (wants none).1 x.came.shown f)
    (λ file first going. said_first start file x.early x.mid first x.met going)

-- lines were told of records, or the file was gone through
told_lines : (coming : Coming) (told next : List RecordView) (line text : List ℕ) → Given coming told next line text
    → (text ≡ record_lines 0 told) ⊎ (coming ≡ Finished)
told_lines Head told next line text g = inl g.0
told_lines Rest told next line text g = inl g.0
told_lines (Refused why) told next line text g = inl g.0
told_lines Whole told next line text g = inl g.0
told_lines NoRoom told next line text g = inl g.0
told_lines Finished told next line text g = inr refl

-- lines that were not said are of records behind
left_behind : (told others : List RecordView) (views : List RecordView) (unsaid : List ℕ) → views ≡ told ++ others
    → record_lines 0 told ≡ record_lines 0 views ++ unsaid → unsaid ≡ []
left_behind told others views unsaid are is =
    let lines = ap length (ap (λ (l : List RecordView). record_lines 0 l) are ∙ record_lines-append 0 told others) in
    let sum = length-append (record_lines 0 told) (record_lines (0 + length told) others) in
    let all = ap length is in
    let parts = length-append (record_lines 0 views) unsaid in
    nil_from_length unsaid (omega (arith, lines, sum, all, parts))

-- a file that was gone through has no rest that is refused
none_refused : OneRecord → NoRefusal → (file : List ℕ) (place : ℕ) (m : FrameLines) (events : List Event)
    (views : List RecordView) (rest : List ℕ) (why : RecordWhy) → coming_of m.feed ≡ Finished
    → IsFed file place (fed 0 events) (has_ended 0 events)
    → Shown m events → AreRecords file views rest → ¬ (IsNoRecord rest why)
none_refused one never file place m events views rest why done f s records refused =
    let behind = behind_at m events Finished done s in
    let all = records_file file (fed 0 events) f.more s.feed.rest (s.told ++ s.next) f.parts s.feed.records in
    let nothing : s.feed.rest ++ f.more ≡ [] = ap (λ (l : List ℕ). l ++ f.more) behind.0 ∙ f.end behind.1 in
    refused.0
    ((same_records one never file rest [] views (s.told ++ s.next) records
    (subst (λ (l : List ℕ). AreRecords file (s.told ++ s.next) l) nothing all) (why, refused.1) stuck_nil).1)

-- if something was not said, what stands behind the records that were is not refused
not_refused : OneRecord → NoRefusal → (file : List ℕ) (place : ℕ) (m : FrameLines) (events : List Event)
    (views : List RecordView)
    (rest unsaid : List ℕ) (why : RecordWhy) → IsFed file place (fed 0 events) (has_ended 0 events)
    → Shown m events → AreRecords file views rest → gave events ≡ record_lines 0 views ++ unsaid → unsaid ≢ []
    → ¬ (IsNoRecord rest why)
not_refused one never file place m events views rest unsaid why f s records parts some refused =
    elim (told_lines (coming_of m.feed) s.told s.next m.line (gave events) s.given) [
      | inl told ↦
          let first = records_first (fed 0 events) s.feed.rest s.told s.next s.feed.records in
          let within = records_within one never file rest (first.0 ++ f.more) views s.told records
          (records_file file (fed 0 events) f.more first.0 s.told f.parts first.1) (why, refused.1) in
          some (left_behind s.told within.0 views unsaid within.1 (sym told ∙ parts))
      | inr done ↦ none_refused one never file place m events views rest why done f s records refused
    ]

-- what was said if something was left to say
some_left : OneRecord → NoRefusal → (start now : FrameLines) (old new : State) (name : List ℕ) (place : ℕ)
    (unsaid : List ℕ)
    (x : Tells (Comes start) next_of old new name now place unsaid) → unsaid ≢ []
    → IfSome old.held (λ held. LeavesRecords (bytes_of held.files name) (gave x.early))
some_left one never start now old new name place unsaid x some =
    if_both old.held _ _ _ (λ held f first. (
      first.0,
      first.1,
      first.2,
      (λ why. not_refused one never (bytes_of held.files name) place now x.events first.0 first.1 unsaid
          why f x.came.shown
          first.2.0 (x.parts ∙ ap (λ (l : List ℕ). l ++ unsaid) first.2.1) some),
    )) x.inputs (some_said start now old new name place unsaid x (λ all. absurd (some all)))

pub frames_stop : OneRecord → NoRefusal → TakesOn → LacksWithin → (start now : FrameLines) (old new : State)
    (name : List ℕ)
    (why : RunStop ShowStop) → StopsLines (Comes start) next_of old new name now why → shows old new name (Err why)
frames_stop one never takes within start now old new name (run.Refused why) s = absurd s
frames_stop one never takes within start now old new name (run.Files (TooLong input)) s =
    let x = s.1.tells in
    let r = needs now _ _ s.1.wants in
    let lacks = r.0.some in
    let few = r.1 in
    shows_long IsRecordText (Comes start) next_of old new name now s.1 input s.0
    (IfSome_then old.held x.inputs (λ held f.
    let ahead = f.ahead in
    let count : ℕ = longest_file - length (fed 0 x.events) in (
      (let w = f.within in w),
      subst (λ (l : List ℕ). SaysMetRecords (bytes_of held.files name) longest_file l) (x.parts
          ∙ append-nil (gave x.early))
          (all_met takes within (bytes_of held.files name) now x.events longest_file count r.0.idle r.0.some
          (omega (arith, lacks, few)) x.came.shown (starts_fed _ _ _ _ f)
          (omega (arith, ahead))),
    )))
frames_stop one never takes within start now old new name (run.Files (ReadFault input)) s =
    shows_fault IsRecordText (Comes start) next_of old new name now input s
    (λ file. (([], file, refl, inl (omega arith), refl, omega arith), none_first file))
    (λ t.
    let x = t.tells in
    let r = short now 0 _ t.wants in
    let lacks = r.0.some in
    let few = r.1 in
    if_both old.held _ _ _ (λ held f first. (
      part_met takes within (bytes_of held.files name) now x.events t.place (t.place - length (fed 0 x.events))
          (gave x.early) t.unsaid r.0.idle r.0.some (omega (arith, lacks, few)) x.came.shown (starts_fed _ _ _ _ f)
          (let ahead = f.ahead in omega (arith, ahead)) x.parts x.waits.few,
      first,
    )) x.inputs (some_said start now old new name t.place t.unsaid x (λ none. (r.0.idle, r.0.some))))
frames_stop one never takes within start now old new name (run.Files WriteFault) s =
    shows_unwritten IsRecordText (Comes start) next_of old new name now s
    (some_left one never start now old new name s.1.0 s.1.1 s.1.2 s.1.3)
frames_stop one never takes within start now old new name run.OutOfMemory s =
    shows_none IsRecordText (λ file. refl) old new name s
