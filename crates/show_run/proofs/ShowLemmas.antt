-- What was told of the lines of packets is what a file of packets asks for.
use Rattle.std.proofs.Common.{◌≡◌, ◌≢◌, ℕ, ◌+◌, ◌-◌, List, [], ◌++◌, length, refl, ap, sym, subst, ◌∙◌, inl, inr, arith}
use Rattle.std.proofs.Common.{append-nil, length-append}
use Rattle.std.specs.Prelude.{◌⊎◌, IfSome, Result, Err}
use Rattle.std.proofs.lemmas.List.{nil_from_length}
use Rattle.std.proofs.lemmas.Option.{IfSome_then}
use Rattle.terms.proofs.OptionLemmas.{if_both}
use Rattle.ports.specs.Desk.{State, bytes_of}
use Rattle.file_run.specs.Reading.{longest_file}
use Rattle.file_run.specs.declared.input.TheConstants.{BUFFER}
use Rattle.t2mi_packet.specs.Laws.{OnePacket, NoRefusal, PacketLength}
use Rattle.t2mi_packet.specs.declared.fault.PacketWhy.{PacketWhy}
use Rattle.file_run.specs.Events.{Event, fed, has_ended, gave}
use Rattle.file_run.specs.FileRun.{IsFed}
use Rattle.file_run.specs.Telling.{Tells, TellsAll}
use Rattle.file_run.specs.declared.machine.Step.TheVariants.{Read, End}
use Rattle.file_run.specs.declared.stop.RunFault.TheVariants.{TooLong, ReadFault, WriteFault}
use Rattle.show_run.specs.PacketFile.{Packs, bytes_in, IsRefused}
use Rattle.show_run.specs.PacketLines.{next_from, next_of, Behind, Given, Shown, Comes, packets_end}
use Rattle.show_run.specs.PacketText.{AreFirst, SaysMet, LeavesSome, IsPacketText}
use Rattle.show_run.specs.SaidLines.{lines_of}
use Rattle.show_run.specs.Shows.{Shows}
use Rattle.show_run.specs.LinesStop.{StopsLines}
use Rattle.show_run.specs.declared.packet_lines.PacketLines.{PacketLines}
use Rattle.show_run.specs.declared.packet_lines.Phase.{Phase}
use Rattle.show_run.specs.declared.packet_lines.Phase.TheVariants.{Reads, Refused, Finished}
use Rattle.file_run.specs.declared.stop.RunStop.{RunStop}
use Rattle.file_run.specs.declared.stop.RunStop.TheVariants as run
use Rattle.show_run.specs.declared.stop.ShowStop.{ShowStop}
use Rattle.show_run.proofs.EndLemmas.{packs_within, same_packets}
use Rattle.show_run.proofs.PacketFileLemmas.{packs_first, lines_of-append}
use Rattle.show_run.proofs.PacketLinesLemmas.{falls_idle, needs_idle}
use Rattle.show_run.proofs.PacketMetLemmas.{packs_file, none_first, said_first}
use Rattle.show_run.proofs.ToldLemmas.{first_said, shows_all, shows_fault, shows_long, shows_none, shows_unwritten}
use Rattle.show_run.proofs.PacketMetLemmas.{starts_fed, all_met, some_met, none_met}
use Rattle.show_run.proofs.PacketMetLemmas.{all_first, ends_idle, finished_text, refused_text}

abbrev shows : State → State → List ℕ → Result ℕ (RunStop ShowStop) → Type 0
shows old new name result = Shows IsPacketText old new name result

-- a run to the end
pub shows_end : (start now : PacketLines) (old new : State) (name : List ℕ)
    → TellsAll (Comes start) next_of old new name now
    → shows old new name (packets_end now.phase (now.at - length now.bytes.items) now.count)
shows_end start now old new name t = go now.phase refl
  where
    x : Tells (Comes start) next_of old new name now t.place []
    x = t.tells

    idle : now.line ≡ []
    idle = ends_idle now.line now.phase t.end

    go : (p : Phase) → now.phase ≡ p → shows old new name (packets_end p (now.at - length now.bytes.items) now.count)
    go Reads is =
        absurd (let e : Read 0 1 BUFFER ≡ End = subst (λ (p : Phase). next_from [] p ≡ End) is
        (subst (λ (l : List ℕ). next_from l now.phase ≡ End) idle t.end) in cc)
    go (Refused why) is = shows_all IsPacketText (Comes start) next_of old new name now t _ (λ r. r) (λ r. r)
        (λ file f text. refused_text file t.place now x.events (gave x.early) why idle is x.came.shown f text)
    go Finished is = shows_all IsPacketText (Comes start) next_of old new name now t _ (λ r. r) (λ r. r)
        (λ file f text. finished_text file t.place now x.events (gave x.early) idle is x.came.shown f text)

-- what was said if not all was
some_said : (start now : PacketLines) (old new : State) (name : List ℕ) (place : ℕ) (unsaid : List ℕ)
    (x : Tells (Comes start) next_of old new name now place unsaid) → (unsaid ≡ [] → (now.line ≡ [])
    × (now.phase ≡ Reads))
    → IfSome old.held (λ held. AreFirst (bytes_of held.files name) (gave x.early))
some_said start now old new name place unsaid x reads =
    first_said AreFirst (Comes start) next_of old new name now place unsaid x
    (λ none file f. all_first file now x.events (reads none).0 (reads none).1 x.came.shown f)
    (λ file first going. said_first start file x.early x.mid first x.met going)

-- lines were told of packets, or the file was gone through
told_lines : (phase : Phase) (told next : List (List ℕ)) (line text : List ℕ) → Given phase told next line text
    → (text ≡ lines_of 0 told) ⊎ (phase ≡ Finished)
told_lines Reads told next line text g = inl g.0
told_lines (Refused why) told next line text g = inl g.0
told_lines Finished told next line text g = inr refl

-- lines that were not said are of packets behind
left_behind : (told others : List (List ℕ)) (packets : List (List ℕ)) (unsaid : List ℕ) → packets ≡ told ++ others
    → lines_of 0 told ≡ lines_of 0 packets ++ unsaid → unsaid ≡ []
left_behind told others packets unsaid are is =
    let lines = ap length (ap (λ (l : List (List ℕ)). lines_of 0 l) are ∙ lines_of-append 0 told others) in
    let sum = length-append (lines_of 0 told) (lines_of (0 + bytes_in told) others) in
    let all = ap length is in
    let parts = length-append (lines_of 0 packets) unsaid in
    nil_from_length unsaid (omega (arith, lines, sum, all, parts))

-- a file that was gone through has no rest that is refused
none_refused : OnePacket → NoRefusal → PacketLength → (file : List ℕ) (place : ℕ) (m : PacketLines)
    (events : List Event)
    (packets : List (List ℕ)) (rest : List ℕ) (why : PacketWhy) → m.phase ≡ Finished
    → IsFed file place (fed 0 events) (has_ended 0 events)
    → Shown m events → Packs file packets rest → ¬ (IsRefused rest why)
none_refused one none sizes file place m events packets rest why done f s packs refused =
    let behind = subst (λ (p : Phase). Behind p m.bytes.items s.rest (has_ended 0 events)) done s.behind in
    let all = packs_file file (fed 0 events) f.more s.rest (s.told ++ s.next) f.parts s.packs in
    let nothing : s.rest ++ f.more ≡ [] = ap (λ (l : List ℕ). l ++ f.more) behind.0 ∙ f.end behind.1 in
    refused.0
    ((same_packets one none sizes file rest (s.rest ++ f.more) packets (s.told ++ s.next) packs all (inr (why, refused))
    (inl nothing)).1 ∙ nothing)

-- if something was not said, what stands behind the packets that were is not refused
not_refused : OnePacket → NoRefusal → PacketLength → (file : List ℕ) (place : ℕ) (m : PacketLines) (events : List Event)
    (packets : List (List ℕ)) (rest unsaid : List ℕ) (why : PacketWhy)
    → IsFed file place (fed 0 events) (has_ended 0 events)
    → Shown m events → Packs file packets rest → gave events ≡ lines_of 0 packets ++ unsaid → unsaid ≢ []
    → ¬ (IsRefused rest why)
not_refused one none sizes file place m events packets rest unsaid why f s packs parts some refused =
    elim (told_lines m.phase s.told s.next m.line (gave events) s.given) [
      | inl told ↦
          let first = packs_first (fed 0 events) s.rest s.told s.next s.packs in
          let within = packs_within one none sizes file rest (first.0 ++ f.more) packets s.told packs
          (packs_file file (fed 0 events) f.more first.0 s.told f.parts first.1) (inr (why, refused)) in
          some (left_behind s.told within.0 packets unsaid within.1 (sym told ∙ parts))
      | inr done ↦ none_refused one none sizes file place m events packets rest why done f s packs refused
    ]

-- what was said if something was left to say
some_left : OnePacket → NoRefusal → PacketLength → (start now : PacketLines) (old new : State) (name : List ℕ)
    (place : ℕ)
    (unsaid : List ℕ) (x : Tells (Comes start) next_of old new name now place unsaid) → unsaid ≢ []
    → IfSome old.held (λ held. LeavesSome (bytes_of held.files name) (gave x.early))
some_left one none sizes start now old new name place unsaid x some =
    if_both old.held _ _ _ (λ held f first. (
      first.0,
      first.1,
      first.2,
      (λ why. not_refused one none sizes (bytes_of held.files name) place now x.events first.0 first.1
          unsaid why f x.came.shown
          first.2 (x.parts ∙ ap (λ (l : List ℕ). l ++ unsaid) first.3) some),
      first.3,
    )) x.inputs (some_said start now old new name place unsaid x (λ all. absurd (some all)))

pub shows_stop : OnePacket → NoRefusal → PacketLength → (start now : PacketLines) (old new : State) (name : List ℕ)
    (why : RunStop ShowStop) → StopsLines (Comes start) next_of old new name now why → shows old new name (Err why)
shows_stop one none sizes start now old new name (run.Refused why) s = absurd s
shows_stop one none sizes start now old new name (run.Files (TooLong input)) s =
    let x = s.1.tells in
    let r = needs_idle now _ s.1.wants in
    shows_long IsPacketText (Comes start) next_of old new name now s.1 input s.0
    (IfSome_then old.held x.inputs (λ held f. (
      (let w = f.within in w),
      subst (λ (l : List ℕ). SaysMet (bytes_of held.files name) longest_file l) (x.parts ∙ append-nil (gave x.early))
          (all_met (bytes_of held.files name) now x.events longest_file r.0 r.1 x.came.shown (starts_fed _ _ _ _ f)
          f.ahead (let n = r.2 in omega (arith, n))),
    )))
shows_stop one none sizes start now old new name (run.Files (ReadFault input)) s =
    shows_fault IsPacketText (Comes start) next_of old new name now input s (λ file. (none_met file, none_first file))
    (λ t.
    let x = t.tells in
    let r = falls_idle now 0 _ t.wants in
    if_both old.held _ _ _ (λ held f first. (
      some_met (bytes_of held.files name) now x.events t.place (gave x.early) t.unsaid r.0 r.1 x.came.shown
          (starts_fed _ _ _ _ f) (let d = r.3 in let a = f.ahead in omega (arith, d, a)) x.parts x.waits.few,
      first,
    )) x.inputs (some_said start now old new name t.place t.unsaid x (λ none. (r.0, r.1))))
shows_stop one none sizes start now old new name (run.Files WriteFault) s =
    shows_unwritten IsPacketText (Comes start) next_of old new name now s
    (some_left one none sizes start now old new name s.1.0 s.1.1 s.1.2 s.1.3)
shows_stop one none sizes start now old new name run.OutOfMemory s =
    shows_none IsPacketText (λ file. refl) old new name s
