-- The lines of packets, step by step.
use Rattle.std.proofs.Common.{◌≡◌, ◌≢◌, ℕ, ◌+◌, ◌-◌, ◌<◌, ◌≤◌, false, List, [], ◌∷◌, ◌++◌, length, drop}
use Rattle.std.proofs.Common.{refl, ap, sym, subst, ◌∙◌, inl, inr, arith, append-nil, length-append}
use Rattle.std.proofs.lemmas.List.{drop-append-le, nil_from_length}
use Rattle.std.proofs.Math.Seq.{drop-length}
use Rattle.t2mi_packet.specs.Laws.{SpellIs}
use Rattle.t2mi_packet.specs.T2miPacket.{told_len, IsShort}
use Rattle.t2mi_packet.specs.declared.fault.PacketFault.{PacketFault}
use Rattle.t2mi_packet.specs.declared.fault.PacketWhy.TheVariants.{Short}
use Rattle.file_run.specs.Events.{Event, Fed, Ended, Gave, fed, has_ended, gave}
use Rattle.file_run.specs.Laws.{EventsTell}
use Rattle.file_run.specs.Reading.{longest_file}
use Rattle.file_run.specs.declared.input.TheConstants.{BUFFER}
use Rattle.file_run.specs.declared.machine.Step.{Step}
use Rattle.file_run.specs.declared.machine.Step.TheVariants.{Read, Give, End}
use Rattle.file_run.specs.Steps.{Suffices, FallsShort, Needs, HasRoom}
use Rattle.show_run.specs.PacketFile.{Begins, Packs, bytes_in}
use Rattle.show_run.specs.SaidLines.{line_of, lines_of, count_line}
use Rattle.show_run.specs.Front.{IsLacking}
use Rattle.show_run.specs.PacketLines.{next_from, next_of, IsWhole, Sees, Behind, Given, Shown, IsNew, Comes}
use Rattle.show_run.specs.declared.packet_lines.PacketLines.{PacketLines}
use Rattle.show_run.specs.declared.packet_lines.Phase.{Phase}
use Rattle.show_run.specs.declared.packet_lines.Phase.TheVariants.{Reads, Refused, Finished}
use Rattle.show_run.proofs.PacketFileLemmas.{begins_inside, begins_on, packs_more, lines_of-append, file_len}
use Rattle.show_run.proofs.PacketFrontLemmas.{whole_packet, lacks_some, lacks_none, whole_exact}

-- what is asked of the next step, which neither gives nor is the end, tells that packets are read, and that no line
-- waits
wants_if : (P : Step → Type 0) → (P Give → ⊥) → (P End → ⊥) → (m : PacketLines) → P (next_of m)
    → (m.line ≡ []) × (m.phase ≡ Reads) × P (Read 0 1 BUFFER)
wants_if P give end m p = go m.line m.phase p
  where
    go : (line : List ℕ) (phase : Phase) → P (next_from line phase)
        → (line ≡ []) × (phase ≡ Reads) × P (Read 0 1 BUFFER)
    go [] Reads p = (refl, refl, p)
    go [] (Refused why) p = absurd (end p)
    go [] Finished p = absurd (end p)
    go (c ∷ line) phase p = absurd (give p)

pub idle : (m : PacketLines) (input count : ℕ) → Suffices (next_of m) input count → (m.line ≡ []) × (m.phase ≡ Reads)
    × (input ≡ 0) × (1 ≤ count)
idle m input count s =
    let w = wants_if (λ step. Suffices step input count) (λ e. e) (λ e. e) m s in (w.0, w.1, sym w.2.0, w.2.1)

pub falls_idle : (m : PacketLines) (input count : ℕ) → FallsShort (next_of m) input count → (m.line ≡ [])
    × (m.phase ≡ Reads)
    × (input ≡ 0) × (count < 1)
falls_idle m input count s =
    let w = wants_if (λ step. FallsShort step input count) (λ e. e) (λ e. e) m s in (w.0, w.1, sym w.2.0, w.2.1)

pub needs_idle : (m : PacketLines) (count : ℕ) → Needs (next_of m) 0 count → (m.line ≡ []) × (m.phase ≡ Reads)
    × (count ≤ 1)
needs_idle m count s =
    let w = wants_if (λ step. Needs step 0 count) (λ e. e) (λ e. e) m s in (w.0, w.1, w.2.1)

-- if packets are read, behind those that were seen stands the one under way
pub under_way : (m : PacketLines) (events : List Event) → m.phase ≡ Reads → (s : Shown m events)
    → (s.rest ≡ m.bytes.items) × IsShort s.rest × (has_ended 0 events ≡ false)
under_way m events reads s = subst (λ (p : Phase). Behind p m.bytes.items s.rest (has_ended 0 events)) reads s.behind

-- packets, and then more bytes
pub packs_on : (file more rest : List ℕ) (ps : List (List ℕ)) → Packs file ps rest
    → Packs (file ++ more) ps (rest ++ more)
packs_on file more rest [] e = ap (λ (l : List ℕ). l ++ more) e
packs_on file more rest (p ∷ ps) h = (
  begins_on file more p h.0,
  rw (drop-append-le (length p) file more (begins_inside file p h.0)) (packs_on (drop (length p) file) more rest ps
      h.1),
)

-- the lines of the next packets go behind
lines_next : (told next : List (List ℕ)) (line text : List ℕ) → text ≡ lines_of 0 told
    → line ≡ lines_of (bytes_in told) next
    → text ++ line ≡ lines_of 0 (told ++ next)
lines_next told next line text is waits =
    let from : 0 + bytes_in told ≡ bytes_in told = omega arith in
    rw (is, waits) (ap (λ (k : ℕ). lines_of 0 told ++ lines_of k next) (sym from) ∙ sym (lines_of-append 0 told next))

-- all lines of packets that were told, if none waits
pub told_all : (told next : List (List ℕ)) (line text : List ℕ) → line ≡ [] → text ≡ lines_of 0 told
    → line ≡ lines_of (bytes_in told) next → text ≡ lines_of 0 (told ++ next)
told_all told next line text none is waits =
    sym (append-nil text) ∙ ap (λ (l : List ℕ). text ++ l) (sym none) ∙ lines_next told next line text is waits

-- a phase in which packets may follow
abbrev pub IsOpen : Phase → Type 0
IsOpen Finished = ⊥
IsOpen phase = Unit {0}

given_of : (phase : Phase) (told next : List (List ℕ)) (line text : List ℕ) → IsOpen phase
    → Given phase told next line text
    → (text ≡ lines_of 0 told) × (line ≡ lines_of (bytes_in told) next)
given_of Reads told next line text o g = g
given_of (Refused why) told next line text o g = g
given_of Finished told next line text o g = absurd o

given_as : (phase : Phase) (told next : List (List ℕ)) (line text : List ℕ) → IsOpen phase → (text ≡ lines_of 0 told)
    × (line ≡ lines_of (bytes_in told) next) → Given phase told next line text
given_as Reads told next line text o g = g
given_as (Refused why) told next line text o g = g
given_as Finished told next line text o g = absurd o

-- One more packet was seen.
seen_more : (m n : PacketLines) (was now : List Event) (packet : List ℕ) → m.line ≡ [] → IsOpen m.phase
    → IsOpen n.phase → n.at ≡ length (fed 0 now) → n.count ≡ m.count + 1 → (s : Shown m was)
    → n.line ≡ line_of (bytes_in (s.told ++ s.next)) packet → Packs (fed 0 now) ((s.told ++ s.next) ++ packet ∷ []) []
    → gave now ≡ gave was → Behind n.phase n.bytes.items [] (has_ended 0 now) → Shown n now
seen_more m n was now packet idle going goes at count s text packs same behind =
    let g = given_of m.phase s.told s.next m.line (gave was) going s.given in
    record {
      told = s.told ++ s.next;
      next = packet ∷ [];
      rest = [];
      packs = packs;
      place = at;
      number = (let c = s.number in let b = length-append (s.told ++ s.next) (packet ∷ []) in omega
          (arith, count, c, b));
      behind = behind;
      given = given_as n.phase (s.told ++ s.next) (packet ∷ []) n.line (gave now) goes (
        same ∙ told_all s.told s.next m.line (gave was) idle g.0 g.1,
        text ∙ sym (append-nil (line_of (bytes_in (s.told ++ s.next)) packet)),
      );
    }

-- No more packets were seen.
seen_same : (m n : PacketLines) (was now : List Event) (rest : List ℕ) → m.line ≡ [] → n.line ≡ [] → IsOpen m.phase
    → IsOpen n.phase → n.at ≡ length (fed 0 now) → n.count ≡ m.count → (s : Shown m was)
    → Packs (fed 0 now) (s.told ++ s.next) rest → gave now ≡ gave was
    → Behind n.phase n.bytes.items rest (has_ended 0 now) → Shown n now
seen_same m n was now rest idle quiet going goes at count s packs same behind =
    let g = given_of m.phase s.told s.next m.line (gave was) going s.given in
    record {
      told = s.told ++ s.next;
      next = [];
      rest = rest;
      packs = rw (append-nil (s.told ++ s.next)) packs;
      place = at;
      number = count ∙ s.number ∙ ap length (sym (append-nil (s.told ++ s.next)));
      behind = behind;
      given = given_as n.phase (s.told ++ s.next) [] n.line (gave now) goes
          (same ∙ told_all s.told s.next m.line (gave was) idle g.0 g.1, quiet);
    }

-- a piece that was fed stands behind the packet under way
packs_fed : EventsTell → (m : PacketLines) (events : List Event) (piece : List ℕ) (s : Shown m events)
    → Packs (fed 0 (events ++ Fed 0 piece ∷ [])) (s.told ++ s.next) (s.rest ++ piece)
packs_fed law m events piece s =
    rw (law.fed 0 piece events).here (packs_on (fed 0 events) piece s.rest (s.told ++ s.next) s.packs)

at_fed : EventsTell → (m n : PacketLines) (events : List Event) (piece : List ℕ) → Shown m events
    → n.at ≡ m.at + length piece
    → n.at ≡ length (fed 0 (events ++ Fed 0 piece ∷ []))
at_fed law m n events piece s at =
    let more = ap length (law.fed 0 piece events).here in let sum = length-append (fed 0 events) piece in
    let p = s.place in
    omega (arith, at, more, sum, p)

-- not the last of a packet
pub took_some : EventsTell → (start m n : PacketLines) (events : List Event) (input : ℕ) (piece : List ℕ) → input ≡ 0
    → m.line ≡ [] → m.phase ≡ Reads → n.phase ≡ m.phase → n.line ≡ m.line → n.count ≡ m.count
    → n.at ≡ m.at + length piece
    → n.bytes.items ≡ m.bytes.items ++ piece → IsShort n.bytes.items → Comes start events m
    → Comes start (events ++ Fed input piece ∷ []) n
took_some law start m n events input piece zero idle reads same quiet count at bytes few c =
    let s = c.shown in
    let b = under_way m events reads s in
    let more = law.fed 0 piece events in
    let is : s.rest ++ piece ≡ n.bytes.items = ap (λ (l : List ℕ). l ++ piece) b.0 ∙ sym bytes in
    subst (λ (k : ℕ). Comes start (events ++ Fed k piece ∷ []) n) (sym zero) (record {
      fresh = c.fresh;
      shown = seen_same m n events (events ++ Fed 0 piece ∷ []) (s.rest ++ piece) idle (quiet ∙ idle)
          (rw reads tt) (rw (same ∙ reads) tt) (at_fed law m n events piece s at)
          count s
          (packs_fed law m events piece s) more.gave
          (rw (same ∙ reads) (is, rw is few, more.ended 0 ∙ b.2));
    })

-- if as many bytes were taken as were lacking, and none is lacking now
pub took_whole : EventsTell → SpellIs → (start m mid n : PacketLines) (events : List Event) (input lacked left : ℕ)
    (piece : List ℕ) → Sees mid n → input ≡ 0 → m.line ≡ [] → m.phase ≡ Reads → mid.phase ≡ m.phase → mid.line ≡ m.line
    → mid.count ≡ m.count → mid.at ≡ m.at + length piece → mid.bytes.items ≡ m.bytes.items ++ piece
    → IsLacking m.bytes.items lacked → length piece ≤ lacked → IsLacking mid.bytes.items left → left ≡ 0 → n.at ≡ mid.at
    → Comes start events m → Comes start (events ++ Fed input piece ∷ []) n
took_whole law spells start m mid n events input lacked left piece sees zero idle reads same quiet count
    came bytes before few
    after none at c =
    let s = c.shown in
    let b = under_way m events reads s in
    let some = lacks_some m.bytes.items lacked before (subst IsShort b.0 b.1) in
    let whole = lacks_none mid.bytes.items left after none in
    let exact : length mid.bytes.items ≡ told_len mid.bytes.items =
    rw bytes (whole_exact m.bytes.items piece lacked before some few (subst IsWhole bytes whole)) in
    let more = law.fed 0 piece events in
    let now = events ++ Fed 0 piece ∷ [] in
    let is : mid.bytes.items ≡ s.rest ++ piece = bytes ∙ ap (λ (l : List ℕ). l ++ piece) (sym b.0) in
    let packs = packs_fed law m events piece s in
    let all = at_fed law m mid events piece s came in
    subst (λ (k : ℕ). Comes start (events ++ Fed k piece ∷ []) n) (sym zero) (elim sees [
      | inl seen ↦
          let f = seen.front in
          let packet : f.packet ≡ s.rest ++ piece =
          whole_packet spells mid.bytes.items f.packet f.begins exact ∙ is in
          let begins : Begins (s.rest ++ piece) f.packet = rw is at f.begins in
          let rest : drop (length f.packet) (s.rest ++ piece) ≡ [] = rw packet (drop-length (s.rest ++ piece)) in
          let fed_len = file_len (fed 0 now) (s.rest ++ piece) (s.told ++ s.next) packs in
          let size = ap length is in
          let place : mid.at - length mid.bytes.items ≡ bytes_in (s.told ++ s.next) =
          omega (arith, fed_len, all, size) in
          record {
            fresh = c.fresh;
            shown = seen_more m n events now f.packet idle (rw reads tt) (rw (seen.phase ∙ same ∙ reads) tt) (at ∙ all)
                (seen.count ∙ ap (λ (k : ℕ). k + 1) count) s
                (f.text ∙ ap (λ (k : ℕ). line_of k f.packet) place)
                (rw rest at (packs_more (fed 0 now) (s.rest ++ piece) (s.told ++ s.next) f.packet packs begins))
                more.gave
                (rw (seen.phase ∙ same ∙ reads) (sym seen.bytes, inl (omega arith), more.ended 0 ∙ b.2));
          }
      | inr stopped ↦
          let t = stopped.1 in
          let begun : s.rest ++ piece ≢ [] = λ e. let n = ap length e in let k = ap length is in
          let h = whole.header in absurd (omega (arith, n, k, h)) in
          record {
            fresh = c.fresh;
            shown = seen_same m n events now (s.rest ++ piece) idle (t.line ∙ quiet ∙ idle) (rw reads tt)
                (rw t.phase tt) (at ∙ all) (t.count ∙ count) s packs more.gave
                (rw t.phase (sym is ∙ sym t.bytes, (begun, rw is at t.refuses), inr (rw is at whole)));
          }
    ])

-- the file has ended behind the packets
pub ended_all : EventsTell → (start m n : PacketLines) (events : List Event) (input : ℕ) (bytes : List ℕ)
    → FallsShort (next_of m) input (length bytes) → length m.bytes.items ≡ 0 → n.phase ≡ Finished
    → n.line ≡ count_line m.count
    → n.at ≡ m.at → n.count ≡ m.count → Comes start events m → Comes start (events ++ Ended input bytes ∷ []) n
ended_all law start m n events input bytes wanted empty done line at count c =
    let none : m.bytes.items ≡ [] = nil_from_length m.bytes.items empty in
    let w = falls_idle m input (length bytes) wanted in
    let s = c.shown in
    let b = under_way m events w.1 s in
    let more = law.ended 0 bytes events in
    let packets : List (List ℕ) = s.told ++ s.next in
    let nothing : bytes ≡ [] = nil_from_length bytes (let k = w.3 in omega (arith, k)) in
    let same : fed 0 (events ++ Ended 0 bytes ∷ []) ≡ fed 0 events = more.here
    ∙ ap (λ (l : List ℕ). fed 0 events ++ l) nothing
    ∙ append-nil (fed 0 events) in
    let g = given_of m.phase s.told s.next m.line (gave events) (rw w.1 tt) s.given in
    let all : gave (events ++ Ended 0 bytes ∷ []) ≡ lines_of 0 packets = more.gave
    ∙ told_all s.told s.next m.line (gave events) w.0 g.0 g.1 in
    subst (λ (k : ℕ). Comes start (events ++ Ended k bytes ∷ []) n) (sym w.2) (record {
      fresh = c.fresh;
      shown = record {
        told = packets;
        next = [];
        rest = [];
        packs = rw (append-nil packets, same) (rw (b.0 ∙ none) at s.packs);
        place = at ∙ s.place ∙ ap length (sym same);
        number = count ∙ s.number ∙ ap length (sym (append-nil packets));
        behind = rw done (refl, more.ended);
        given = rw done (refl, inl (line ∙ ap count_line s.number, all));
      };
    })

-- within a packet
pub ended_within : EventsTell → (start m n : PacketLines) (events : List Event) (input : ℕ) (bytes : List ℕ)
    → FallsShort (next_of m) input (length bytes) → 0 < length m.bytes.items → n.phase ≡ Refused Short → n.line ≡ m.line
    → n.bytes.items ≡ m.bytes.items → n.at ≡ m.at → n.count ≡ m.count → Comes start events m
    → Comes start (events ++ Ended input bytes ∷ []) n
ended_within law start m n events input bytes wanted some refused quiet held at count c =
    let w = falls_idle m input (length bytes) wanted in
    let s = c.shown in
    let b = under_way m events w.1 s in
    let more = law.ended 0 bytes events in
    let nothing : bytes ≡ [] = nil_from_length bytes (let k = w.3 in omega (arith, k)) in
    let same : fed 0 (events ++ Ended 0 bytes ∷ []) ≡ fed 0 events = more.here
    ∙ ap (λ (l : List ℕ). fed 0 events ++ l) nothing
    ∙ append-nil (fed 0 events) in
    let fault : PacketFault = record { at = length s.rest; why = Short } in
    subst (λ (k : ℕ). Comes start (events ++ Ended k bytes ∷ []) n) (sym w.2) (record {
      fresh = c.fresh;
      shown = seen_same m n events (events ++ Ended 0 bytes ∷ []) s.rest w.0 (quiet ∙ w.0)
          (rw w.1 tt)
          (rw refused tt) (at ∙ s.place ∙ ap length (sym same)) count s
          (rw same s.packs) more.gave
          (rw refused (
            b.0 ∙ sym held,
            ((λ e. let n = ap length (sym b.0 ∙ e) in absurd (omega (arith, n, some))), (fault, (b.1, refl), refl)),
            inl more.ended,
          ));
    })

-- what was fed fits
pub fits : (m : PacketLines) (input count : ℕ) → HasRoom Comes m input count → input ≡ 0 → m.at + count ≤ longest_file
fits m input count room zero =
    let few : length (fed 0 room.events) + count ≤ longest_file =
    subst (λ (k : ℕ). length (fed k room.events) + count ≤ longest_file) zero room.few in
    let at = room.came.shown.place in omega (arith, at, few)

-- the packet under way is short
pub is_short : (m : PacketLines) (input count : ℕ) → HasRoom Comes m input count → m.phase ≡ Reads
    → IsShort m.bytes.items
is_short m input count room reads =
    let b = under_way m room.events reads room.came.shown in
    subst IsShort b.0 b.1

-- a line was given
line_given : (phase : Phase) (told next : List (List ℕ)) (line text now : List ℕ) → line ≢ [] → now ≡ text ++ line
    → Given phase told next line text
    → (all : List (List ℕ)) × (left : List (List ℕ)) × (all ++ left ≡ told ++ next) × Given phase all left [] now
line_given Finished told next line text now some is (none, inl waits) =
    (told, [], ap (λ (l : List (List ℕ)). told ++ l) (sym none), (refl, inr (refl, is ∙ rw (waits.0, waits.1) refl)))
line_given Finished told next line text now some is (none, inr given) = absurd (some given.0)
line_given Reads told next line text now some is g =
    (told ++ next, [], append-nil (told ++ next), (is ∙ lines_next told next line text g.0 g.1, refl))
line_given (Refused why) told next line text now some is g =
    (told ++ next, [], append-nil (told ++ next), (is ∙ lines_next told next line text g.0 g.1, refl))

pub gave_line : EventsTell → (start m n : PacketLines) (events : List Event) (bytes : List ℕ) → m.line ≢ []
    → bytes ≡ m.line
    → n.line ≡ [] → n.phase ≡ m.phase → n.bytes.items ≡ m.bytes.items → n.at ≡ m.at → n.count ≡ m.count
    → Comes start events m
    → Comes start (events ++ Gave bytes ∷ []) n
gave_line law start m n events bytes some is none phase rest at count c =
    let s = c.shown in
    let more = law.given bytes events in
    let g = line_given m.phase s.told s.next m.line (gave events) (gave (events ++ Gave bytes ∷ [])) some
    (more.gave ∙ ap (λ (l : List ℕ). gave events ++ l) is) s.given in
    record {
      fresh = c.fresh;
      shown = record {
        told = g.0;
        next = g.1;
        rest = s.rest;
        packs = rw (g.2, more.fed 0) s.packs;
        place = at ∙ s.place ∙ ap length (sym (more.fed 0));
        number = count ∙ s.number ∙ ap length (sym g.2);
        behind = rw (phase, rest, more.ended 0) s.behind;
        given = rw (phase, none) g.3;
      };
    }

-- a machine that gives has a line
pub gives_line : (line : List ℕ) (phase : Phase) → next_from line phase ≡ Give → line ≢ []
gives_line [] Reads e = absurd (let f : Read 0 1 BUFFER ≡ Give = e in cc)
gives_line [] (Refused why) e = absurd (let f : End ≡ Give = e in cc)
gives_line [] Finished e = absurd (let f : End ≡ Give = e in cc)
gives_line (c ∷ line) phase e = λ none. cc

-- nothing was done yet
pub comes_first : (m : PacketLines) → IsNew m → Comes m [] m
comes_first m fresh = record {
  fresh = fresh;
  shown = record {
    told = [];
    next = [];
    rest = [];
    packs = refl;
    place = fresh.at;
    number = fresh.count;
    behind = rw fresh.phase (sym fresh.bytes, inl (omega arith), refl);
    given = rw fresh.phase (refl, fresh.line);
  };
}
