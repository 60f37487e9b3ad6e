-- What the lines of packets tell of the file: the packets that were met, and what stands behind them.
use Rattle.std.proofs.Common.{◌≡◌, ℕ, ◌+◌, ◌-◌, ◌≤◌, Bool, true, List, [], ◌∷◌, ◌++◌, length, refl, ap, sym, subst}
use Rattle.std.proofs.Common.{◌∙◌, inl, inr, arith, append-nil, length-append}
use Rattle.std.specs.Fmt.{decimal}
use Rattle.std.specs.Prelude.{codes, ◌⊎◌, Ok, Err}
use Rattle.ports.specs.declared.counts.Counts.{Counts}
use Rattle.ports.specs.Desk.{State}
use Rattle.file_run.specs.Faults.{ReadsFail}
use Rattle.file_run.specs.Opening.{Opened, Unopened}
use Rattle.t2mi_packet.specs.declared.fault.PacketWhy.{PacketWhy}
use Rattle.file_run.specs.Telling.{most_waiting, StartsWith, ReadsFailAtLeast}
use Rattle.file_run.specs.Events.{Event, fed, has_ended, gave}
use Rattle.file_run.specs.FileRun.{IsFed}
use Rattle.file_run.specs.declared.machine.Step.TheVariants.{Give, End}
use Rattle.show_run.specs.PacketFile.{Packs, IsRefused}
use Rattle.show_run.specs.PacketLines.{next_from, next_of, IsWhole, Given, Shown, Comes}
use Rattle.show_run.specs.PacketText.{AreFirst, Met, LacksFew, SaysMet, IsPacketText}
use Rattle.show_run.specs.SaidLines.{lines_of, count_line}
use Rattle.show_run.specs.declared.packet_lines.PacketLines.{PacketLines}
use Rattle.show_run.specs.declared.packet_lines.Phase.{Phase}
use Rattle.show_run.specs.declared.packet_lines.Phase.TheVariants.{Reads, Refused, Finished}
use Rattle.file_run.specs.declared.stop.RunStop.TheVariants as run
use Rattle.show_run.specs.declared.stop.ShowStop.TheVariants.{PacketRefused}
use Rattle.show_run.proofs.PacketFileLemmas.{packs_first, file_len}
use Rattle.show_run.proofs.PacketFrontLemmas.{refused_whole}
use Rattle.show_run.proofs.PacketLinesLemmas.{packs_on, under_way, told_all}

-- bytes that were fed are a front of the file
pub packs_file : (file front more rest : List ℕ) (ps : List (List ℕ)) → file ≡ front ++ more → Packs front ps rest
    → Packs file ps (rest ++ more)
packs_file file front more rest ps is h =
    rw is (packs_on front more rest ps h)

-- the lines of the first packets, if a machine has lines still to give
first_lines : (phase : Phase) (told next : List (List ℕ)) (line text : List ℕ) → next_from line phase ≡ Give
    → Given phase told next line text → text ≡ lines_of 0 told
first_lines Reads told next line text gives g = g.0
first_lines (Refused why) told next line text gives g = g.0
first_lines Finished told next [] text gives g = absurd (let e : End ≡ Give = gives in cc)
first_lines Finished told next (c ∷ line) text gives (none, inl waits) = waits.1
first_lines Finished told next (c ∷ line) text gives (none, inr given) = absurd (let e : c ∷ line ≡ [] = given.0 in cc)

first_of_file : (file : List ℕ) (m : PacketLines) (events : List Event)
    → StartsWith file (fed 0 events) (has_ended 0 events)
    → (s : Shown m events) → gave events ≡ lines_of 0 s.told → AreFirst file (gave events)
first_of_file file m events starts s text =
    let mid = packs_first (fed 0 events) s.rest s.told s.next s.packs in
    (s.told, mid.0 ++ starts.0, packs_file file (fed 0 events) starts.0 mid.0 s.told starts.1 mid.1, text)

pub none_first : (file : List ℕ) → AreFirst file []
none_first file = ([], file, refl, refl)

-- what was said is the lines of the first packets
pub said_first : (start : PacketLines) (file : List ℕ) (early : List Event) (mid : PacketLines)
    → StartsWith file (fed 0 early) (has_ended 0 early) → Comes start early mid → (early ≡ []) ⊎ (next_of mid ≡ Give)
    → AreFirst file (gave early)
said_first start file early mid starts came (inl none) = subst (λ (l : List Event). AreFirst file (gave l)) (sym none)
    (none_first file)
said_first start file early mid starts came (inr gives) =
    first_of_file file mid early starts came.shown
    (first_lines mid.phase came.shown.told came.shown.next mid.line (gave early) gives came.shown.given)

fails_only : (old new : State) → ReadsFail old new → ReadsFailAtLeast old new
fails_only old new f = record {
  rose = f.rose;
  first = f.first;
  reads = f.later;
  writes = (let e = ap (λ (k : Counts). k.writes) f.others in omega (arith, e));
  lines = ap (λ (k : Counts). k.lines) f.others;
}

-- a file that could not be opened, and one that was
pub closed_counted : (old new : State) → ReadsFail old new → ReadsFailAtLeast old new
    × (Unopened old new → ReadsFail old new)
closed_counted old new f = (fails_only old new f, λ closed. f)

pub opened_counted : (old new : State) (name : List ℕ) (given : ℕ) → Opened old new name given
    → ReadsFailAtLeast old new
    → ReadsFailAtLeast old new × (Unopened old new → ReadsFail old new)
opened_counted old new name given o f = (
  f,
  λ closed. let n = ap length (sym closed.opened ∙ o.opened) in let k = length-append old.opened (given ∷ []) in
      absurd (omega (arith, n, k)),
)

pub starts_fed : (file : List ℕ) (place : ℕ) (front : List ℕ) (ended : Bool) → IsFed file place front ended
    → StartsWith file front ended
starts_fed file place front ended f = (f.more, f.parts, f.end)

-- if no line waits and all was said
quiet : (m : PacketLines) (events : List Event) → m.line ≡ [] → m.phase ≡ Reads → (s : Shown m events)
    → gave events ≡ lines_of 0 (s.told ++ s.next)
quiet m events none reads s =
    let g = rw reads at s.given in
    told_all s.told s.next m.line (gave events) none g.0 g.1

-- what was met of a file is what was fed
unfoldable met_of : (file : List ℕ) (m : PacketLines) (events : List Event) → m.phase ≡ Reads → (s : Shown m events)
    → StartsWith file (fed 0 events) (has_ended 0 events) → Met file
met_of file m events reads s starts = record {
  front = fed 0 events;
  more = starts.0;
  parts = starts.1;
  packets = s.told ++ s.next;
  behind = s.rest;
  packs = s.packs;
  short = (under_way m events reads s).1;
}

-- all packets that were seen of a file were told
pub all_met : (file : List ℕ) (m : PacketLines) (events : List Event) (place : ℕ) → m.line ≡ [] → m.phase ≡ Reads
    → (s : Shown m events) → StartsWith file (fed 0 events) (has_ended 0 events) → length (fed 0 events) ≤ place
    → place ≤ length (fed 0 events) + 1 → SaysMet file place (gave events)
unfolding met_of
all_met file m events place none reads s starts ahead near =
    (met_of file m events reads s starts, ahead, near, quiet m events none reads s)

-- of the lines of these packets the first were said
pub some_met : (file : List ℕ) (m : PacketLines) (events : List Event) (place : ℕ) (text unsaid : List ℕ) → m.line ≡ []
    → m.phase ≡ Reads → (s : Shown m events) → StartsWith file (fed 0 events) (has_ended 0 events)
    → place ≡ length (fed 0 events) → gave events ≡ text ++ unsaid → length unsaid ≤ most_waiting
    → LacksFew file place text unsaid
unfolding met_of
some_met file m events place text unsaid none reads s starts is parts few =
    (met_of file m events reads s starts, is, sym (quiet m events none reads s) ∙ parts, few)

-- nothing was met
pub none_met : (file : List ℕ) → LacksFew file 0 [] []
none_met file = (
  record { front = []; more = file; parts = refl; packets = []; behind = []; packs = refl; short = inl (omega arith) },
  refl,
  refl,
  omega arith,
)

pub all_first : (file : List ℕ) (m : PacketLines) (events : List Event) → m.line ≡ [] → m.phase ≡ Reads
    → (s : Shown m events)
    → StartsWith file (fed 0 events) (has_ended 0 events) → AreFirst file (gave events)
all_first file m events none reads s starts = (
  s.told ++ s.next,
  s.rest ++ starts.0,
  packs_file file (fed 0 events) starts.0 s.rest (s.told ++ s.next) starts.1 s.packs,
  quiet m events none reads s,
)

-- at the end no line waits
pub ends_idle : (line : List ℕ) (phase : Phase) → next_from line phase ≡ End → line ≡ []
ends_idle [] phase e = refl
ends_idle (c ∷ line) phase e = absurd (let f : Give ≡ End = e in cc)

-- a line of a key and a number is not empty
pub line_some : (key : List ℕ) (count : ℕ) → key ++ decimal count ++ codes "\n" ≡ [] → ⊥
line_some key count e = let n = ap length e in let m = length-append (key ++ decimal count) (codes "\n") in
    absurd (omega (arith, n, m))

pub count_some : (count : ℕ) → count_line count ≡ [] → ⊥
count_some count e = line_some (codes "packets=") count e

-- the end of a file that is nothing but packets
ended_all : (told next : List (List ℕ)) (line text : List ℕ) → line ≡ [] → Given Finished told next line text
    → (next ≡ [])
    × (text ≡ lines_of 0 told ++ count_line (length told))
ended_all told next line text none (some, inl waits) = absurd (count_some (length told) (sym waits.0 ∙ none))
ended_all told next line text none (some, inr given) = (some, given.1)

pub finished_text : (file : List ℕ) (place : ℕ) (m : PacketLines) (events : List Event) (early : List ℕ) → m.line ≡ []
    → m.phase ≡ Finished → (s : Shown m events) → IsFed file place (fed 0 events) (has_ended 0 events)
    → gave events ≡ early
    → IsPacketText file place (Ok m.count) early []
finished_text file place m events early none done s f text =
    let behind = rw done at s.behind in
    let all = ended_all s.told s.next m.line (gave events) none (rw done at s.given) in
    let whole : s.told ++ s.next ≡ s.told = ap (λ (l : List (List ℕ)). s.told ++ l) all.0 ∙ append-nil s.told in
    let count : m.count ≡ length s.told = s.number ∙ ap length whole in
    let same : file ≡ fed 0 events = f.parts ∙ ap (λ (l : List ℕ). fed 0 events ++ l) (f.end behind.1)
    ∙ append-nil (fed 0 events) in
    let a = f.ahead in let w = f.within in let n = ap length same in (
      s.told,
      rw same (rw (whole, behind.0) at s.packs),
      count,
      sym text ∙ all.1 ∙ ap (λ (k : ℕ). lines_of 0 s.told ++ count_line k) (sym count),
      omega (arith, a, w, n),
    )

-- what is no packet is none in the whole file
refused_on : (front more : List ℕ) (why : PacketWhy) (ended : Bool) → (ended ≡ true) ⊎ IsWhole front
    → (ended ≡ true → more ≡ []) → IsRefused front why → IsRefused (front ++ more) why
refused_on front more why ended (inl on) end r =
    rw (end on, append-nil front) r
refused_on front more why ended (inr whole) end r = refused_whole front more why whole r

pub refused_text : (file : List ℕ) (place : ℕ) (m : PacketLines) (events : List Event) (early : List ℕ)
    (why : PacketWhy) → m.line ≡ [] → m.phase ≡ Refused why → (s : Shown m events)
    → IsFed file place (fed 0 events) (has_ended 0 events)
    → gave events ≡ early → IsPacketText file place
    (Err (run.Refused (PacketRefused (m.at - length m.bytes.items) why))) early []
refused_text file place m events early why none refused s f text =
    let behind = rw refused at s.behind in
    let size = file_len (fed 0 events) s.rest (s.told ++ s.next) s.packs in
    let same = ap length behind.0 in
    let at = s.place in
    let g = rw refused at s.given in (
      s.told ++ s.next,
      s.rest ++ f.more,
      packs_file file (fed 0 events) f.more s.rest (s.told ++ s.next) f.parts s.packs,
      refused_on s.rest f.more why (has_ended 0 events) behind.2 f.end behind.1,
      omega (arith, size, same, at),
      sym text ∙ told_all s.told s.next m.line (gave events) none g.0 g.1,
    )
