-- What was told of the lines of packets in units is what a file of units asks for.
use Rattle.std.proofs.Common.{◌≡◌, ◌≢◌, ℕ, ◌-◌, Bool, true, false, cond, List, [], ◌∷◌, ◌++◌, length, take, drop, map}
use Rattle.std.proofs.Common.{refl, ap, sym, ◌∙◌, inl, inr, arith, append_assoc, append-nil}
use Rattle.std.specs.Prelude.{◌⊎◌, nat_lt, IfSome, Result, Ok, Err}
use Rattle.std.proofs.lemmas.List.{take-append-drop, map-append}
use Rattle.std.proofs.lemmas.List.Concat.{flat_map-append}
use Rattle.terms.proofs.OptionLemmas.{if_both}
use Rattle.show_run.proofs.ToldLemmas.{first_said, shows_all, shows_fault, shows_long, shows_none, shows_unwritten}
use Rattle.ports.specs.Desk.{State, bytes_of}
use Rattle.file_run.specs.Reading.{longest_file}
use Rattle.file_run.specs.declared.input.TheConstants.{BUFFER}
use Rattle.ts_packet.specs.declared.sizes.TheConstants.{SIZE}
use Rattle.t2mi_stream.specs.Accepted.{AcceptedPacket}
use Rattle.t2mi_stream.specs.FirstPid.{PacketsBehind, NoPackets, t2mi_packets_in}
use Rattle.t2mi_stream.specs.Laws.{AcceptedFront}
use Rattle.t2mi_stream.specs.Skipping.{further}
use Rattle.t2mi_stream.specs.Units.{accepted_of}
use Rattle.t2mi_stream.specs.UnpiperStandsFor.{is_ready}
use Rattle.file_run.specs.Events.{Event, fed, has_ended, gave}
use Rattle.file_run.specs.FileRun.{IsFed}
use Rattle.file_run.specs.Steps.{Needs}
use Rattle.file_run.specs.Telling.{StartsWith, Tells, TellsAll}
use Rattle.file_run.specs.declared.machine.Step.TheVariants.{Read, Give, End}
use Rattle.file_run.specs.declared.stop.RunFault.TheVariants.{TooLong, ReadFault, WriteFault}
use Rattle.show_run.specs.SaidLines.{count_line}
use Rattle.show_run.specs.Shows.{Shows}
use Rattle.show_run.specs.T2miLines.{next_in, next_of, packets_from, Unpiping, Found, Shown, Comes}
use Rattle.show_run.specs.T2miText.{place_line, place_lines, AreFirstLines, LeavesLines, IsT2miText}
use Rattle.show_run.specs.LinesStop.{StopsLines}
use Rattle.file_run.specs.declared.stop.RunStop.{RunStop}
use Rattle.file_run.specs.declared.stop.RunStop.TheVariants as run
use Rattle.show_run.specs.declared.stop.ShowStop.{ShowStop}
use Rattle.show_run.specs.declared.t2mi_lines.T2miLines.{T2miLines}
use Rattle.show_run.specs.declared.t2mi_lines.Search.{Search}
use Rattle.show_run.specs.declared.t2mi_lines.Search.TheVariants.{Seeks, Unpipes, Finished}
use Rattle.show_run.proofs.PacketMetLemmas.{count_some}
use Rattle.show_run.proofs.T2miEndLemmas.{behind_all, read_needed, read_short, short_needs}

-- the lines of packets that were given are those of the first packets of the file
first_unpiped : AcceptedFront → PacketsBehind → (file : List ℕ) (m : T2miLines) (all text : List ℕ) (ended : Bool)
    → StartsWith file all ended → Unpiping m all text ended → AreFirstLines (t2mi_packets_in file) text
first_unpiped front behind file m all text ended starts f =
    let rest = drop m.from m.unit ++ starts.0 in
    let more = front f.pid f.bytes rest in
    let packets = packets_from f.pid (length f.front) f.bytes in
    let others = map (further (length f.front)) more.0 in
    let is : t2mi_packets_in file ≡ packets ++ others =
    ap t2mi_packets_in starts.1 ∙ behind_all behind m all text ended f starts.0
    ∙ ap (λ (l : List ℕ). map (further (length f.front)) (accepted_of f.pid l))
    (append_assoc f.bytes (drop m.from m.unit) starts.0)
    ∙ ap (map (further (length f.front))) more.1 ∙ map-append (further (length f.front)) (accepted_of f.pid f.bytes)
    more.0 in (
      take m.count packets,
      drop m.count packets ++ others,
      is ∙ ap (λ (l : List AcceptedPacket). l ++ others)
          (sym (take-append-drop m.count packets)) ∙ append_assoc (take m.count packets) (drop m.count packets) others,
      f.lines,
    )

none_first : (packets : List AcceptedPacket) (text : List ℕ) → text ≡ [] → AreFirstLines packets text
none_first packets text none = ([], packets, refl, none)

first_found : AcceptedFront → PacketsBehind → (file : List ℕ) (m : T2miLines) (search : Search) (all text : List ℕ)
    (ended : Bool)
    → (search ≡ Finished → m.line ≢ []) → StartsWith file all ended → Found search m all text ended
    → AreFirstLines (t2mi_packets_in file) text
first_found front behind file m Seeks all text ended waits starts f = none_first (t2mi_packets_in file) text f.silent
first_found front behind file m Unpipes all text ended waits starts f = first_unpiped front behind file
    m all text ended starts f
first_found front behind file m Finished all text ended waits starts f =
    let same : file ≡ all = starts.1 ∙ ap (λ (l : List ℕ). all ++ l) (starts.2 f.over) ∙ append-nil all in
    elim f.lines [
      | inl given ↦ (t2mi_packets_in all, [], ap t2mi_packets_in same ∙ sym (append-nil (t2mi_packets_in all)), given.1)
      | inr done ↦ absurd (waits refl done.0)
    ]

first_shown : AcceptedFront → PacketsBehind → (file : List ℕ) (m : T2miLines) (events : List Event)
    → (m.search ≡ Finished → m.line ≢ []) → StartsWith file (fed 0 events) (has_ended 0 events) → Shown m events
    → AreFirstLines (t2mi_packets_in file) (gave events)
first_shown front behind file m events waits starts s = first_found front behind file m m.search (fed 0 events)
    (gave events)
    (has_ended 0 events) waits starts s.found

-- a machine that gives or wants bytes has lines still to give, if it has found the end
gives_waits : (search : Search) (ready : Bool) (left : ℕ) (line : List ℕ) → next_in search ready left line ≡ Give
    → search ≡ Finished → line ≢ []
gives_waits Seeks ready left line gives done none = let e : Seeks ≡ Finished = done in cc
gives_waits Unpipes ready left line gives done none = let e : Unpipes ≡ Finished = done in cc
gives_waits Finished ready left [] gives done none = let e : End ≡ Give = gives in cc
gives_waits Finished ready left (c ∷ line) gives done none = let e : c ∷ line ≡ [] = none in cc

needs_waits : (search : Search) (ready : Bool) (left : ℕ) (line : List ℕ) (count : ℕ)
    → Needs (next_in search ready left line) 0 count → search ≡ Finished → ⊥
needs_waits Seeks ready left line count r done = let e : Seeks ≡ Finished = done in cc
needs_waits Unpipes ready left line count r done = let e : Unpipes ≡ Finished = done in cc
needs_waits Finished ready left [] count r done = r
needs_waits Finished ready left (c ∷ line) count r done = r

-- at the end all was given
at_end : (search : Search) (ready : Bool) (left : ℕ) (line : List ℕ) → next_in search ready left line ≡ End
    → (search ≡ Finished)
    × (line ≡ [])
at_end Seeks ready left line e = absurd (let f : Read 0 SIZE BUFFER ≡ End = e in cc)
at_end Unpipes true left line e = absurd (let f : Give ≡ End = e in cc)
at_end Unpipes false left line e = absurd (go (nat_lt 0 left) e)
  where
    go : (b : Bool) → cond b Give (Read 0 1 BUFFER) ≡ End → ⊥
    go true e = let f : Give ≡ End = e in cc
    go false e = let f : Read 0 1 BUFFER ≡ End = e in cc
at_end Finished ready left [] e = (refl, refl)
at_end Finished ready left (c ∷ line) e = absurd (let f : Give ≡ End = e in cc)

abbrev shows : State → State → List ℕ → Result ℕ (RunStop ShowStop) → Type 0
shows old new name result = Shows IsT2miText old new name result

all_text : (file : List ℕ) (place : ℕ) (m : T2miLines) (events : List Event) (early : List ℕ) → m.search ≡ Finished
    → m.line ≡ []
    → Shown m events → IsFed file place (fed 0 events) (has_ended 0 events) → gave events ≡ early
    → IsT2miText file place (Ok m.count) early []
all_text file place m events early done none s f text =
    let e = rw done at s.found in
    let same : file ≡ fed 0 events = f.parts ∙ ap (λ (l : List ℕ). fed 0 events ++ l) (f.end e.over)
    ∙ append-nil (fed 0 events) in
    let a = f.ahead in let w = f.within in let n = ap length same in (
      e.number ∙ ap (λ (l : List ℕ). length (t2mi_packets_in l)) (sym same),
      sym text ∙ elim e.lines [ inl waits ↦ absurd (count_some m.count (sym waits.0 ∙ none)) | inr given ↦ given.1 ]
          ∙ ap (λ (l : List ℕ). place_lines (t2mi_packets_in l) ++ count_line m.count) (sym same),
      omega (arith, a, w, n),
    )

pub t2mi_end : (start now : T2miLines) (old new : State) (name : List ℕ)
    → TellsAll (Comes start) next_of old new name now
    → shows old new name (Ok now.count)
t2mi_end start now old new name t =
    let x = t.tells in
    let end = at_end now.search (is_ready now.unpiper) (SIZE - now.from) now.line t.end in
    shows_all IsT2miText (Comes start) next_of old new name now t (Ok now.count) (λ r. r) (λ r. r)
    (λ file f text. all_text file t.place now x.events (gave x.early) end.0 end.1 x.came.shown f text)

longer : (xs ys : List ℕ) → xs ≢ [] → xs ++ ys ≢ []
longer [] ys some none = some refl
longer (x ∷ xs) ys some none = let n = ap length none in absurd (omega (arith, n))

-- what was given are the first of the lines in what was fed, or, at the end, all of them and their number
found_due : AcceptedFront → PacketsBehind → (m : T2miLines) (search : Search) (all text : List ℕ) (ended : Bool)
    → Found search m all text ended → AreFirstLines (t2mi_packets_in all) text
    ⊎ ((ended ≡ true) × (text ≡ place_lines (t2mi_packets_in all) ++ count_line (length (t2mi_packets_in all))))
found_due front behind m Seeks all text ended f = inl (none_first (t2mi_packets_in all) text f.silent)
found_due front behind m Unpipes all text ended f =
    inl (first_unpiped front behind all m all text ended ([], sym (append-nil all), λ over. refl) f)
found_due front behind m Finished all text ended f = elim f.lines [
  | inl given ↦ inl (t2mi_packets_in all, [], sym (append-nil (t2mi_packets_in all)), given.1)
  | inr done ↦ inr (f.over, done.1 ∙ ap (λ (n : ℕ). place_lines (t2mi_packets_in all) ++ count_line n) f.number)
]

-- some of it was not said
leaves : AcceptedFront → PacketsBehind → (file : List ℕ) (place : ℕ) (m : T2miLines) (events : List Event)
    (text unsaid : List ℕ)
    → unsaid ≢ [] → gave events ≡ text ++ unsaid → Shown m events → IsFed file place (fed 0 events) (has_ended 0 events)
    → LeavesLines file place text
leaves front behind file place m events text unsaid some given s f =
    elim (found_due front behind m m.search (fed 0 events) (gave events) (has_ended 0 events) s.found) [
      | inl first ↦ record {
        front = fed 0 events;
        more = f.more;
        parts = f.parts;
        read = f.ahead;
        unsaid = unsaid ++ place_lines first.1;
        some = longer unsaid (place_lines first.1) some;
        due = inl (ap place_lines first.2 ∙ flat_map-append place_line first.0 first.1
            ∙ ap (λ (l : List ℕ). l ++ place_lines first.1) (sym first.3 ∙ given)
            ∙ append_assoc text unsaid (place_lines first.1));
      }
      | inr all ↦ record {
        front = fed 0 events;
        more = f.more;
        parts = f.parts;
        read = f.ahead;
        unsaid = unsaid;
        some = some;
        due = inr (f.end all.0, sym all.1 ∙ given);
      }
    ]

-- what was said if not all was
some_said : AcceptedFront → PacketsBehind → (start now : T2miLines) (old new : State) (name : List ℕ) (place : ℕ)
    (unsaid : List ℕ) (x : Tells (Comes start) next_of old new name now place unsaid)
    → (unsaid ≡ [] → now.search ≡ Finished → ⊥)
    → IfSome old.held (λ held. AreFirstLines (t2mi_packets_in (bytes_of held.files name)) (gave x.early))
some_said front behind start now old new name place unsaid x wants =
    first_said (λ file text. AreFirstLines (t2mi_packets_in file) text) (Comes start) next_of old new name now place
    unsaid x
    (λ none file f. first_shown front behind file now x.events (λ done idle. absurd (wants none done)) f x.came.shown)
    early
  where
    early : (file : List ℕ) → StartsWith file (fed 0 x.early) (has_ended 0 x.early)
        → (x.early ≡ []) ⊎ (next_of x.mid ≡ Give) → AreFirstLines (t2mi_packets_in file) (gave x.early)
    early file first (inl none) = none_first (t2mi_packets_in file) (gave x.early) (ap gave none)
    early file first (inr gives) = first_shown front behind file x.mid x.early
        (gives_waits x.mid.search (is_ready x.mid.unpiper) (SIZE - x.mid.from) x.mid.line gives) first x.met.shown

-- what a machine that needs bytes has given
abbrev GivesAll : T2miLines → T2miLines → Type 0
GivesAll start m = (events : List Event) (least : ℕ) → Comes start events m → Needs (next_of m) 0 least
    → gave events ≡ place_lines (t2mi_packets_in (fed 0 events))

-- no bytes hold no packet
no_text : NoPackets → place_lines (t2mi_packets_in []) ≡ []
no_text law =
    ap place_lines (law [] [] (record { units = 0; whole = refl; none = λ number lt. absurd (omega (arith, lt)) })
    (omega arith))

pub t2mi_stop : NoPackets → AcceptedFront → PacketsBehind → (start now : T2miLines) (old new : State) (name : List ℕ)
    (why : RunStop ShowStop) → GivesAll start now → StopsLines (Comes start) next_of old new name now why
    → shows old new name (Err why)
t2mi_stop nothing front behind start now old new name (run.Refused why) all s = absurd s
t2mi_stop nothing front behind start now old new name (run.Files (TooLong input)) all s =
    let t = s.1 in
    let x = t.tells in
    shows_long IsT2miText (Comes start) next_of old new name now t input s.0
    (if_both old.held _ _ _ (λ held f first. (
      (let w = f.within in w),
      (
        f.within,
        sym (x.parts ∙ append-nil (gave x.early)) ∙ all x.events _ x.came t.wants
            ∙ ap place_lines (sym (read_needed nothing behind start now x.events (bytes_of held.files name)
            x.came f t.wants)),
      ),
      first,
    )) x.inputs
    (some_said front behind start now old new name longest_file [] x
    (λ none. needs_waits now.search (is_ready now.unpiper) (SIZE - now.from) now.line _ t.wants)))
t2mi_stop nothing front behind start now old new name (run.Files (ReadFault input)) all s =
    shows_fault IsT2miText (Comes start) next_of old new name now input s
    (λ file. ((omega arith, no_text nothing, omega arith), none_first (t2mi_packets_in file) [] refl))
    (λ t.
    let x = t.tells in
    if_both old.held _ _ _ (λ held f first. (
      (
        f.within,
        ap place_lines (read_short nothing behind start now x.events (bytes_of held.files name) t.place
            x.came f t.wants)
            ∙ sym (all x.events _ x.came (short_needs (next_of now) _ t.wants)) ∙ x.parts,
        x.waits.few,
      ),
      first,
    )) x.inputs (some_said front behind start now old new name t.place t.unsaid x
    (λ none. needs_waits now.search (is_ready now.unpiper) (SIZE - now.from) now.line _
    (short_needs (next_of now) _ t.wants))))
t2mi_stop nothing front behind start now old new name (run.Files WriteFault) all s =
    let x = s.1.2 in
    shows_unwritten IsT2miText (Comes start) next_of old new name now s
    (if_both old.held _ _ _ (λ held f first. (
      leaves front behind (bytes_of held.files name) s.1.0 now x.events (gave x.early) s.1.1 s.1.3
          x.parts x.came.shown f,
      first,
    )) x.inputs (some_said front behind start now old new name s.1.0 s.1.1 x (λ none. absurd (s.1.3 none))))
t2mi_stop nothing front behind start now old new name run.OutOfMemory all s =
    shows_none IsT2miText (λ file. refl) old new name s
