-- Bytes in, records out.
use Rattle.std.proofs.Common.{◌≡◌, ℕ, zero, suc, ◌+◌, ◌-◌, ◌≤◌, ◌<◌, Bool, true, false, List, [], ◌∷◌, ◌++◌, length}
use Rattle.std.proofs.Common.{take, drop, Option, Some, None, refl, ap, ap₂, sym, subst, ◌∙◌, ⊎_elim, inl, inr, arith}
use Rattle.std.proofs.Common.{append_assoc, append-nil, length-append}
use Rattle.std.specs.Prelude.{is_some, option_map, slice_get, IfSome, IfNone}
use Rattle.std.proofs.Math.Seq.{take-add}
use Rattle.std.proofs.lemmas.Bool.{true≢false, false_from_ne_true, cases_lt}
use Rattle.std.proofs.lemmas.List.{map-append, nil_from_length, take_rest, take_all, take-append-le, take-append-drop}
use Rattle.std.proofs.lemmas.Option.{slice_get_past, same_Some}
use Rattle.terms.proofs.OptionLemmas.{none_some}
use Rattle.t2mi_packet.specs.declared.packet.Packet.{Packet}
use Rattle.frame_groups.specs.Groups.{Group, is_counted}
use Rattle.frame_groups.specs.Grouping.{key_of}
use Rattle.frame_groups.specs.declared.key.Key.{Key}
use Rattle.frame_groups.specs.Modulated.{Numbered, Rules, FrameRecord, modulated}
use Rattle.frame_groups.specs.Laws.{without_last, ModulatedFront}
use Rattle.frame_groups.specs.Due.{due, ComesNext, DueLaw, RecordsAreDue}
use Rattle.frame_groups.specs.Records.{record_of}
use Rattle.frame_groups.specs.Sequenced.{Keeps, Sequenced, Ends, record_now}
use Rattle.frame_groups.specs.Waits.{waiting_of}
use Rattle.frame_groups.specs.declared.waiting.Waiting.{Waiting}
use Rattle.t2mi_stream.specs.Accepted.{AcceptedPacket}
use Rattle.t2mi_stream.specs.Events.{UnpiperEvent, fed, released}
use Rattle.t2mi_stream.specs.Events.UnpiperEvent.{Fed, Released}
use Rattle.t2mi_stream.specs.Laws.{EventsPush, AcceptedFront}
use Rattle.t2mi_stream.specs.Units.{accepted_of}
use Rattle.t2mi_stream.specs.UnpiperStandsFor.{UnpiperStandsFor, is_ready, next_packet, AllReleased}
use Rattle.t2mi_stream.specs.declared.unpiper.Unpiper.{Unpiper}
use Rattle.t2mi_stream.proofs.NextLemmas.{has_bytes, IsIdle}
use Rattle.frame_groups.specs.Tests.{rules}
use Rattle.open_group.specs.Holds.{Holds}
use Rattle.open_group.specs.declared.group.PooledGroup.{PooledGroup}
use Rattle.plp_config.specs.declared.config.Config.{Config}
use Rattle.modulator.specs.Modulating.{packet_of, packets_of, worked, IsAhead, StandsAt, IsSettled, has_record, Course}
use Rattle.modulator.specs.Modulating.{course_of, HoldsOn}
use Rattle.modulator.specs.StandsFor.{records_due}
use Rattle.modulator.specs.declared.modulating.Modulating.{Modulating}

-- one element more
take_next : {X : Type 0} (xs : List X) (i : ℕ) (a : X) → slice_get xs i ≡ Some a
    → (take (suc i) xs ≡ take i xs ++ a ∷ [])
    × (suc i ≤ length xs)
take_next [] i a e = none_some a e
take_next (x ∷ xs) zero a e = (ap (λ y. y ∷ []) (same_Some x a e), omega arith)
take_next (x ∷ xs) (suc i) a e = let r = take_next xs i a e in (ap (λ l. x ∷ l) r.0, omega (arith, r.1))

ends_kept : (r : Rules) (key : Option Key) (p : Packet) → Ends r key p → is_counted r.frames p ≡ true
ends_kept r None p e = absurd e
ends_kept r (Some k) p e = e.0

-- the records of what is kept
the_law : (laws : RecordsAreDue) (m : Modulating) (bytes : List ℕ) (given : List FrameRecord)
    (h : StandsAt m bytes given)
    → DueLaw (rules m.sequence.group.network) h.keeps.past h.keeps.group m.sequence.progress
    (worked m.sequence.group.network.pid h.events) given
the_law laws m bytes given h = laws (rules m.sequence.group.network) h.keeps.past h.keeps.group m.sequence.progress
    (worked m.sequence.group.network.pid h.events) given h.keeps.sequenced

-- the key of the group that is kept
has_key : (held : PooledGroup) (past : List Numbered) (g : Option Group) → Holds held past g → key_of g ≡ held.key
has_key held past None h = sym h.0
has_key held past (Some g) h = sym h.key

-- what an object stands for, by a network that its own is
stands_by : (m : Modulating) (c : Config) (bytes : List ℕ) (given : List FrameRecord) (events : List UnpiperEvent)
    → m.sequence.group.network ≡ c → UnpiperStandsFor m.unpiper c.pid events → fed events ≡ bytes
    → released events ≤ length (accepted_of c.pid (fed events))
    → Keeps (Holds m.sequence.group) (rules m.sequence.group.network) m.sequence.progress (worked c.pid events) given
    → (m.sequence.progress.closing ≡ true → IsAhead (record (course_of m) { network = c }) events)
    → StandsAt m bytes given
stands_by m c bytes given events same =
    subst
    (λ (c : Config). UnpiperStandsFor m.unpiper c.pid events → fed events ≡ bytes
    → released events ≤ length (accepted_of c.pid (fed events))
    → Keeps (Holds m.sequence.group) (rules m.sequence.group.network) m.sequence.progress (worked c.pid events) given
    → (m.sequence.progress.closing ≡ true → IsAhead (record (course_of m) { network = c }) events)
    → StandsAt m bytes given) same
    (λ stands fed_is few keeps ahead. record {
      events = events;
      stands = stands;
      fed_is = fed_is;
      few = few;
      keeps = keeps;
      ahead = ahead;
    })

-- the group stands for what it stood for, and is the same
pub record Moved (m : Modulating) (bytes : List ℕ) (given : List FrameRecord) (group : Option Group) : Type 0 where
  pub stands : StandsAt m bytes given
  pub same : stands.keeps.group ≡ group

pub moved : (old new : Modulating) (bytes : List ℕ) (given : List FrameRecord) → course_of new ≡ course_of old
    → HoldsOn old new
    → (h : StandsAt old bytes given) → Moved new bytes given h.keeps.group
moved old new bytes given same on h =
    subst
    (λ (k : Course). UnpiperStandsFor k.unpiper k.network.pid h.events
    → released h.events ≤ length (accepted_of k.network.pid (fed h.events))
    → Sequenced (rules k.network) h.keeps.past h.keeps.group k.progress.number k.progress.next k.progress.closing
    k.progress.fault (worked k.network.pid h.events) given
    → (k.progress.closing ≡ true → IsAhead k h.events)
    → Moved new bytes given h.keeps.group) same
    (λ stands few sequenced ahead. record {
      stands =
          record {
            events = h.events;
            stands = stands;
            fed_is = h.fed_is;
            few = few;
            keeps = record {
              past = h.keeps.past;
              group = h.keeps.group;
              holds = on h.keeps.past h.keeps.group h.keeps.holds;
              sequenced = sequenced;
            };
            ahead = ahead;
          };
      same = refl;
    })
    h.stands h.few h.keeps.sequenced h.ahead

-- a packet was worked off
worked_more : (push : EventsPush) (pid : ℕ) (events : List UnpiperEvent) (a : AcceptedPacket)
    → next_packet pid events ≡ Some a
    → (worked pid (events ++ Released ∷ []) ≡ worked pid events ++ packet_of a.bytes ∷ [])
    × (released (events ++ Released ∷ []) ≤ length (accepted_of pid (fed (events ++ Released ∷ []))))
worked_more push pid events a e =
    let p = push events in
    let n : released (events ++ Released ∷ []) ≡ suc (released events) = p.released_more ∙ omega arith in
    let t = take_next (accepted_of pid (fed events)) (released events) a e in (
      ap₂ (λ (k : ℕ) (l : List ℕ). packets_of (take k (accepted_of pid l))) n p.fed_same ∙ ap packets_of t.0
          ∙ map-append (λ (a : AcceptedPacket). packet_of a.bytes)
          (take (released events) (accepted_of pid (fed events)))
          (a ∷ []),
      subst (λ (l : List ℕ). released (events ++ Released ∷ []) ≤ length (accepted_of pid l)) (sym p.fed_same)
          (omega (arith, n, t.1)),
    )

-- the packet is worked off, in the group that goes on or the next one
abbrev pub WorksOff : Modulating → Modulating → Packet → Type 0
WorksOff old new p = (ps : List Packet) (given : List FrameRecord)
    → Keeps (Holds old.sequence.group) (rules old.sequence.group.network) old.sequence.progress ps given
    → (old.sequence.progress.closing ≡ true → Ends (rules old.sequence.group.network) old.sequence.group.key p)
    → Keeps (Holds new.sequence.group) (rules new.sequence.group.network) new.sequence.progress (ps ++ p ∷ []) given

pub stepped : (push : EventsPush) (old new : Modulating) (bytes : List ℕ) (given : List FrameRecord) (seen : List ℕ)
    → new.sequence.group.network ≡ old.sequence.group.network → is_ready old.unpiper ≡ true
    → ((pid : ℕ) (events : List UnpiperEvent) → UnpiperStandsFor old.unpiper pid events
    → option_map (λ a. a.bytes) (next_packet pid events) ≡ Some seen)
    → ((pid : ℕ) (events : List UnpiperEvent) → UnpiperStandsFor old.unpiper pid events
    → UnpiperStandsFor new.unpiper pid (events ++ Released ∷ []))
    → WorksOff old new (packet_of seen)
    → (new.sequence.progress.closing ≡ true → (old.sequence.progress.closing ≡ true)
    × (is_counted (rules old.sequence.group.network).frames (packet_of seen) ≡ false))
    → StandsAt old bytes given → StandsAt new bytes given
stepped push old new bytes given seen same ready told goes work still h =
    let net = old.sequence.group.network in
    let b = has_bytes (next_packet net.pid h.events) seen (told net.pid h.events h.stands) in
    let w = worked_more push net.pid h.events b.packet b.is in
    let ends : old.sequence.progress.closing ≡ true → Ends (rules net) old.sequence.group.key (packet_of seen) =
    λ c. ⊎_elim
    (λ (x : (a : AcceptedPacket) × (next_packet net.pid h.events ≡ Some a)
    × Ends (rules net) old.sequence.group.key (packet_of a.bytes)).
    subst (λ (l : List ℕ). Ends (rules net) old.sequence.group.key (packet_of l))
    (ap (λ (a : AcceptedPacket). a.bytes) (same_Some x.0 b.packet (sym x.1 ∙ b.is)) ∙ b.bytes) x.2)
    (λ (x : (old.finished ≡ true) × (is_ready old.unpiper ≡ false)). absurd (true≢false (sym ready ∙ x.1)))
    (h.ahead c) in
    stands_by new net bytes given (h.events ++ Released ∷ []) same (goes net.pid h.events h.stands)
    ((push h.events).fed_same ∙ h.fed_is) w.1
    (subst (λ (ps : List Packet). Keeps (Holds new.sequence.group) (rules new.sequence.group.network)
    new.sequence.progress ps
    given)
    (ap (λ (l : List ℕ). worked net.pid h.events ++ packet_of l ∷ []) (sym b.bytes) ∙ sym w.0)
    (work (worked net.pid h.events) given h.keeps ends))
    (λ c. let o = still c in
    absurd (true≢false (sym (ends_kept (rules net) old.sequence.group.key (packet_of seen) (ends o.0)) ∙ o.1)))

-- if no packet waits and more bytes may come, the group is not closed
not_closing : (m : Modulating) (bytes : List ℕ) (given : List FrameRecord) (h : StandsAt m bytes given)
    → m.finished ≡ false
    → AllReleased m.sequence.group.network.pid h.events → m.sequence.progress.closing ≡ true → ⊥
not_closing m bytes given h more all c =
    let net = m.sequence.group.network in
    ⊎_elim
    (λ (x : (a : AcceptedPacket) × (next_packet net.pid h.events ≡ Some a)
    × Ends (rules net) m.sequence.group.key (packet_of a.bytes)).
    none_some x.0 (sym (slice_get_past (accepted_of net.pid (fed h.events)) (released h.events) (omega (arith, all)))
    ∙ x.1))
    (λ (x : (m.finished ≡ true) × (is_ready m.unpiper ≡ false)). absurd (true≢false (sym x.0 ∙ more)))
    (h.ahead c)

-- bytes were fed
pub fed_more : (front : AcceptedFront) (push : EventsPush) (old : Modulating) (u : Unpiper) (bytes piece : List ℕ)
    (given : List FrameRecord)
    → IsIdle old.unpiper → old.finished ≡ false
    → ((pid : ℕ) (events : List UnpiperEvent) → UnpiperStandsFor old.unpiper pid events
    → UnpiperStandsFor u pid (events ++ Fed piece ∷ []))
    → StandsAt old bytes given → StandsAt (record old { unpiper = u }) (bytes ++ piece) given
fed_more front push old u bytes piece given none more goes h =
    let pid = old.sequence.group.network.pid in
    let p = push h.events in
    let all = none pid h.events h.stands in
    let f = front pid (fed h.events) piece in
    let k : released (h.events ++ Fed piece ∷ []) ≡ length (accepted_of pid (fed h.events)) = p.released_same piece
    ∙ sym all in
    let whole : accepted_of pid (fed (h.events ++ Fed piece ∷ [])) ≡ accepted_of pid (fed h.events) ++ f.0 =
    ap (accepted_of pid) (p.fed_more piece) ∙ f.1 in
    let few : length (accepted_of pid (fed h.events)) ≤ length (accepted_of pid (fed h.events)) = omega arith in
    let same : worked pid (h.events ++ Fed piece ∷ []) ≡ worked pid h.events =
    ap₂ (λ (k : ℕ) (l : List AcceptedPacket). packets_of (take k l)) k whole
    ∙ ap packets_of (take-append-le (length (accepted_of pid (fed h.events))) (accepted_of pid (fed h.events)) f.0 few)
    ∙ ap (λ (k : ℕ). packets_of (take k (accepted_of pid (fed h.events)))) all in
    let n = length-append (accepted_of pid (fed h.events)) f.0 in
    record {
      events = h.events ++ Fed piece ∷ [];
      stands = goes pid h.events h.stands;
      fed_is = p.fed_more piece ∙ ap (λ (l : List ℕ). l ++ piece) h.fed_is;
      few = subst (λ (l : List AcceptedPacket). released (h.events ++ Fed piece ∷ []) ≤ length l) (sym whole)
          (omega (arith, k, n));
      keeps = subst (λ (ps : List Packet). Keeps (Holds old.sequence.group) (rules old.sequence.group.network)
          old.sequence.progress ps given) (sym same) h.keeps;
      ahead = λ c. absurd (not_closing old bytes given h more all c);
    }

-- the group is closed, or as it was
abbrev pub KeepsOn : Modulating → Modulating → Type 0
KeepsOn old new = (ps : List Packet) (given : List FrameRecord)
    → Keeps (Holds old.sequence.group) (rules old.sequence.group.network) old.sequence.progress ps given
    → Keeps (Holds new.sequence.group) (rules new.sequence.group.network) new.sequence.progress ps given

-- a packet closed the group, and waits
pub held : (old new : Modulating) (bytes : List ℕ) (given : List FrameRecord) (seen : List ℕ)
    → new.sequence.group.network ≡ old.sequence.group.network → new.unpiper ≡ old.unpiper
    → ((pid : ℕ) (events : List UnpiperEvent) → UnpiperStandsFor old.unpiper pid events
    → option_map (λ a. a.bytes) (next_packet pid events) ≡ Some seen)
    → KeepsOn old new
    → Ends (rules new.sequence.group.network) new.sequence.group.key (packet_of seen)
    → StandsAt old bytes given → StandsAt new bytes given
held old new bytes given seen same still told work ends h =
    let net = old.sequence.group.network in
    let b = has_bytes (next_packet net.pid h.events) seen (told net.pid h.events h.stands) in
    stands_by new net bytes given h.events same
    (subst (λ (u : Unpiper). UnpiperStandsFor u net.pid h.events) (sym still) h.stands) h.fed_is h.few
    (work (worked net.pid h.events) given h.keeps)
    (λ _. inl (
      b.packet,
      b.is,
      subst (λ (l : List ℕ). Ends (rules net) new.sequence.group.key (packet_of l)) (sym b.bytes)
          (subst (λ (c : Config). Ends (rules c) new.sequence.group.key (packet_of seen)) same ends),
    ))

none_of : (g : Option Group) (key : Option Key) → key_of g ≡ key → is_some key ≡ false → g ≡ None
none_of None key e none = refl
none_of (Some h) key e none = absurd (true≢false (ap is_some e ∙ none))

-- all packets were worked off, if none waits
all_worked : (pid : ℕ) (events : List UnpiperEvent) → AllReleased pid events
    → worked pid events ≡ packets_of (accepted_of pid (fed events))
all_worked pid events all = ap packets_of (take_all (released events) (accepted_of pid (fed events))
    (omega (arith, all)))

prefix_without : {X : Type 0} (xs : List X) → (more : List X) × (xs ≡ without_last xs ++ more)
prefix_without [] = ([], refl)
prefix_without (x ∷ []) = (x ∷ [], refl)
prefix_without (x ∷ y ∷ xs) = let r = prefix_without (y ∷ xs) in (r.0, ap (λ l. x ∷ l) r.1)

-- what is due by some packets is the front of what is due by more
pub due_front : (front : ModulatedFront) (r : Rules) (finished : Bool) (ps qs : List Packet) → (more : List FrameRecord)
    × (due r finished (ps ++ qs) ≡ due r false ps ++ more)
due_front front r false ps qs = front r ps qs
due_front front r true ps qs =
    let a = front r ps qs in
    let b = prefix_without (modulated r (ps ++ qs)) in (
      a.0 ++ b.0,
      b.1 ∙ ap (λ (l : List FrameRecord). l ++ b.0) a.1 ∙ append_assoc (without_last (modulated r ps))
          a.0 b.0,
    )

-- a record that comes next in a front comes next in the whole
next_in : (front all given more : List FrameRecord) (x : FrameRecord) → ComesNext front given x → all ≡ front ++ more
    → ComesNext all given x
next_in front all given more x n e =
    (n.0 ++ more, e ∙ ap (λ (l : List FrameRecord). l ++ more) n.1 ∙ append_assoc given (x ∷ n.0) more)

-- the packets that are accepted, from those worked off on
rest_of : (pid : ℕ) (events : List UnpiperEvent) → packets_of (accepted_of pid (fed events)) ≡ worked pid events
    ++ packets_of (drop (released events) (accepted_of pid (fed events)))
rest_of pid events =
    ap packets_of (sym (take-append-drop (released events) (accepted_of pid (fed events))))
    ∙ map-append (λ (a : AcceptedPacket). packet_of a.bytes) (take (released events) (accepted_of pid (fed events)))
    (drop (released events) (accepted_of pid (fed events)))

-- no record waits, nor a packet: all that are due were given
pub all_given : (laws : RecordsAreDue) (m : Modulating) (bytes : List ℕ) (given : List FrameRecord) → IsIdle m.unpiper
    → IsSettled m → has_record m ≡ false → StandsAt m bytes given
    → records_due m.sequence.group.network m.finished bytes ≡ given
all_given laws m bytes given none settled w h = go m.finished m.sequence.progress.closing refl refl
  where
    law : DueLaw (rules m.sequence.group.network) h.keeps.past h.keeps.group m.sequence.progress
        (worked m.sequence.group.network.pid h.events) given
    law = the_law laws m bytes given h

    all : packets_of (accepted_of m.sequence.group.network.pid bytes) ≡ worked m.sequence.group.network.pid h.events
    all = ap (λ (l : List ℕ). packets_of (accepted_of m.sequence.group.network.pid l)) (sym h.fed_is)
        ∙ sym (all_worked m.sequence.group.network.pid h.events (none m.sequence.group.network.pid h.events h.stands))

    due_as : (t : Bool) → m.finished ≡ t → records_due m.sequence.group.network m.finished bytes
        ≡ due (rules m.sequence.group.network) t (worked m.sequence.group.network.pid h.events)
    due_as t e = ap₂ (λ (t : Bool) (ps : List Packet). due (rules m.sequence.group.network) t ps) e all

    go : (f c : Bool) → m.finished ≡ f → m.sequence.progress.closing ≡ c
        → records_due m.sequence.group.network m.finished bytes ≡ given
    go true true e k = due_as m.sequence.progress.closing (e ∙ sym k) ∙ law.idle w
    go true false e k = due_as true e
        ∙ law.none (none_of h.keeps.group m.sequence.group.key
        (has_key m.sequence.group h.keeps.past h.keeps.group h.keeps.holds) (settled.ended e w k))
    go false false e k = due_as m.sequence.progress.closing (e ∙ sym k) ∙ law.idle w
    go false true e k =
        absurd (not_closing m bytes given h e (none m.sequence.group.network.pid h.events h.stands) k)

-- the record that waits comes next of all that are due
pub comes_next : (laws : RecordsAreDue) (front : ModulatedFront) (m : Modulating) (bytes : List ℕ)
    (given : List FrameRecord)
    (w : Waiting) (group : Group)
    → (is_ready m.unpiper ≡ false → IsIdle m.unpiper) → waiting_of m.sequence.progress ≡ Some w
    → (h : StandsAt m bytes given) → h.keeps.group ≡ Some group
    → ComesNext (records_due m.sequence.group.network m.finished bytes) given (record_of group w)
comes_next laws front m bytes given w group none is h gs = go m.sequence.progress.closing refl
  where
    law : DueLaw (rules m.sequence.group.network) h.keeps.past h.keeps.group m.sequence.progress
        (worked m.sequence.group.network.pid h.events) given
    law = the_law laws m bytes given h

    waits_now : has_record m ≡ true
    waits_now = ap is_some is

    it : (x : FrameRecord)
        → record_now (rules m.sequence.group.network) h.keeps.past h.keeps.group m.sequence.progress.number
        m.sequence.progress.next ≡ Some x → x ≡ record_of group w
    it x e = same_Some x (record_of group w) (sym e ∙ law.told group gs w is)

    fed_packets_of : packets_of (accepted_of m.sequence.group.network.pid bytes)
        ≡ packets_of (accepted_of m.sequence.group.network.pid (fed h.events))
    fed_packets_of = ap (λ (l : List ℕ). packets_of (accepted_of m.sequence.group.network.pid l)) (sym h.fed_is)

    next_by : (ps qs : List Packet) (all more : List FrameRecord) (x : FrameRecord)
        → packets_of (accepted_of m.sequence.group.network.pid bytes) ≡ ps ++ qs
        → due (rules m.sequence.group.network) false ps ≡ all ++ more → ComesNext all given x
        → ComesNext (records_due m.sequence.group.network m.finished bytes) given x
    next_by ps qs all more x e d n =
        let f = due_front front (rules m.sequence.group.network) m.finished ps qs in
        next_in all (records_due m.sequence.group.network m.finished bytes) given (more ++ f.0) x n
        (ap (due (rules m.sequence.group.network) m.finished) e ∙ f.1 ∙ ap (λ (l : List FrameRecord). l ++ f.0) d
        ∙ append_assoc all more f.0)

    go : (c : Bool) → m.sequence.progress.closing ≡ c
        → ComesNext (records_due m.sequence.group.network m.finished bytes) given (record_of group w)
    go false c =
        let pid = m.sequence.group.network.pid in
        let r = rules m.sequence.group.network in
        let n = law.under_way c waits_now in
        subst (ComesNext (records_due m.sequence.group.network m.finished bytes) given) (it n.0 n.1)
        (next_by (worked pid h.events) _ (due r false (worked pid h.events)) [] n.0 (fed_packets_of
        ∙ rest_of pid h.events)
        (sym (append-nil (due r false (worked pid h.events)))) n.2)
    go true c =
        let pid = m.sequence.group.network.pid in
        let r = rules m.sequence.group.network in
        let n = law.ended c waits_now in
        subst (ComesNext (records_due m.sequence.group.network m.finished bytes) given) (it n.0 n.1)
        (⊎_elim
        (λ (x : (a : AcceptedPacket) × (next_packet pid h.events ≡ Some a)
        × Ends r m.sequence.group.key (packet_of a.bytes)).
        let t = take_next (accepted_of pid (fed h.events)) (released h.events) x.0 x.1 in
        let e : packets_of (accepted_of pid bytes) ≡ (worked pid h.events ++ packet_of x.0.bytes ∷ [])
        ++ packets_of (drop (suc (released h.events)) (accepted_of pid (fed h.events))) =
        fed_packets_of ∙ ap packets_of
        (sym (take-append-drop (suc (released h.events)) (accepted_of pid (fed h.events)))
        ∙ ap (λ (l : List AcceptedPacket). l ++ drop (suc (released h.events)) (accepted_of pid (fed h.events))) t.0)
        ∙ map-append (λ (a : AcceptedPacket). packet_of a.bytes)
        (take (released h.events) (accepted_of pid (fed h.events)) ++ x.0
        ∷ []) (drop (suc (released h.events)) (accepted_of pid (fed h.events)))
        ∙ ap (λ (l : List Packet). l ++ packets_of (drop (suc (released h.events)) (accepted_of pid (fed h.events))))
        (map-append (λ (a : AcceptedPacket). packet_of a.bytes)
        (take (released h.events) (accepted_of pid (fed h.events)))
        (x.0 ∷ [])) in
        let d = law.closed c (packet_of x.0.bytes)
        (subst (λ (o : Option Key). Ends r o (packet_of x.0.bytes))
        (sym (has_key m.sequence.group h.keeps.past h.keeps.group h.keeps.holds)) x.2) in
        next_by (worked pid h.events ++ packet_of x.0.bytes ∷ []) _ (due r true (worked pid h.events))
        d.0 n.0 e d.1 n.2)
        (λ (x : (m.finished ≡ true) × (is_ready m.unpiper ≡ false)).
        let all = fed_packets_of ∙ sym (all_worked pid h.events (none x.1 pid h.events h.stands)) in
        let e : records_due m.sequence.group.network m.finished bytes ≡ due r true (worked pid h.events) =
        ap₂ (λ (t : Bool) (ps : List Packet). due r t ps) x.0 all in
        (n.2.0, e ∙ n.2.1))
        (h.ahead c))

-- a record was given
pub record_gave : (laws : RecordsAreDue) (old new : Modulating) (bytes : List ℕ) (given : List FrameRecord)
    (w : Waiting)
    (group : Group)
    → waiting_of old.sequence.progress ≡ Some w → new.unpiper ≡ old.unpiper → new.finished ≡ old.finished
    → new.sequence.group ≡ old.sequence.group → new.sequence.progress.closing ≡ old.sequence.progress.closing
    → ((ps : List Packet) (given : List FrameRecord) (x : FrameRecord)
    (k : Keeps (Holds old.sequence.group) (rules old.sequence.group.network) old.sequence.progress ps given)
    → record_now (rules old.sequence.group.network) k.past k.group old.sequence.progress.number
    old.sequence.progress.next
    ≡ Some x
    → Keeps (Holds new.sequence.group) (rules new.sequence.group.network) new.sequence.progress ps (given ++ x ∷ []))
    → (h : StandsAt old bytes given) → h.keeps.group ≡ Some group
    → StandsAt new bytes (given ++ record_of group w ∷ [])
record_gave laws old new bytes given w group is unpiper finished same closing gave h gs =
    let law = the_law laws old bytes given h in
    let net = old.sequence.group.network in
    stands_by new net bytes (given ++ record_of group w ∷ []) h.events
    (ap (λ (g : PooledGroup). g.network) same)
    (subst (λ (u : Unpiper). UnpiperStandsFor u net.pid h.events) (sym unpiper) h.stands) h.fed_is h.few
    (gave (worked net.pid h.events) given (record_of group w) h.keeps (law.told group gs w is))
    (λ c. subst (λ (g : PooledGroup). IsAhead (record (course_of new) { network = net; key = g.key }) h.events)
    (sym same)
    (subst (λ (u : Unpiper). IsAhead (record (course_of new) {
      unpiper = u;
      network = net;
      key =
          old.sequence.group.key;
    })
    h.events) (sym unpiper)
    (subst (λ (f : Bool). IsAhead (record (course_of new) {
      unpiper = old.unpiper;
      finished = f;
      network = net;
      key = old.sequence.group.key;
    }) h.events) (sym finished)
    (h.ahead (sym closing ∙ c)))))

-- no more bytes come
pub no_more : (m : Modulating) (bytes : List ℕ) (given : List FrameRecord) → m.finished ≡ false
    → (h : StandsAt m bytes given) → Moved (record m { finished = true }) bytes given h.keeps.group
no_more m bytes given more h = record {
  stands = record {
    events = h.events;
    stands = h.stands;
    fed_is = h.fed_is;
    few = h.few;
    keeps = h.keeps;
    ahead = λ c. ⊎_elim
        (λ (x : (a : AcceptedPacket) × (next_packet m.sequence.group.network.pid h.events ≡ Some a)
        × Ends (rules m.sequence.group.network) m.sequence.group.key (packet_of a.bytes)). inl x)
        (λ (x : (m.finished ≡ true) × (is_ready m.unpiper ≡ false)). inr (refl, x.1))
        (h.ahead c);
  };
  same = refl;
}

pub some_from : {X : Type 0} (o : Option X) (P : X → Type 0) → ((x : X) → o ≡ Some x → P x) → IfSome o P
some_from None P h = tt
some_from (Some x) P h = h x refl

pub none_from : {X : Type 0} (o : Option X) (P : Type 0) → (o ≡ None → P) → IfNone o P
none_from None P h = h refl
none_from (Some x) P h = tt

-- more bytes of a piece were taken
pub piece_on : (bytes piece : List ℕ) (count more : ℕ) → (bytes ++ take count piece) ++ take more (drop count piece)
    ≡ bytes ++ take (count + more) piece
piece_on bytes piece count more = append_assoc bytes (take count piece) (take more (drop count piece))
    ∙ ap (λ (l : List ℕ). bytes ++ l) (sym (take-add count more piece))

-- bytes with which no packet was accepted: still all that is due was given
pub fed_idle : (laws : RecordsAreDue) (front : AcceptedFront) (push : EventsPush) (m : Modulating)
    (bytes piece : List ℕ)
    (given : List FrameRecord) → IsIdle m.unpiper → m.finished ≡ false
    → ((pid : ℕ) (events : List UnpiperEvent) → UnpiperStandsFor m.unpiper pid events
    → AllReleased pid (events ++ Fed piece ∷ []))
    → has_record m ≡ false → StandsAt m bytes given
    → records_due m.sequence.group.network false (bytes ++ piece) ≡ given
fed_idle laws front push m bytes piece given none more still w h =
    let r = rules m.sequence.group.network in
    let pid = m.sequence.group.network.pid in
    let p = push h.events in
    let all = none pid h.events h.stands in
    let a = still pid h.events h.stands in
    let f = front pid (fed h.events) piece in
    let n = length-append (accepted_of pid (fed h.events)) f.0 in
    let e : length (accepted_of pid (fed h.events) ++ f.0) ≡ length (accepted_of pid (fed h.events)) =
    ap length (sym f.1) ∙ ap (λ (l : List ℕ). length (accepted_of pid l)) (sym (p.fed_more piece)) ∙ a
    ∙ p.released_same piece
    ∙ sym all in
    let z : f.0 ≡ [] = nil_from_length f.0 (omega (arith, n, e)) in
    let same : accepted_of pid (bytes ++ piece) ≡ accepted_of pid (fed h.events) =
    ap (λ (l : List ℕ). accepted_of pid (l ++ piece)) (sym h.fed_is) ∙ f.1
    ∙ ap (λ (l : List AcceptedPacket). accepted_of pid (fed h.events) ++ l) z
    ∙ append-nil (accepted_of pid (fed h.events)) in
    let law = the_law laws m bytes given h in
    ap (λ (l : List AcceptedPacket). due r false (packets_of l)) same
    ∙ ap (due r false) (sym (all_worked pid h.events all))
    ∙ ap (λ (t : Bool). due r t (worked pid h.events))
    (sym (false_from_ne_true m.sequence.progress.closing (λ c. not_closing m bytes given h more all c))) ∙ law.idle w

-- a front of the bytes taken, in the loop
pub front_on : (c d : Config) (bytes piece : List ℕ) (given : List FrameRecord) (count more k : ℕ) → d ≡ c
    → count ≤ length piece
    → ((k : ℕ) → k < count → records_due c false (bytes ++ take k piece) ≡ given)
    → ((j : ℕ) → j < more
    → records_due d false ((bytes ++ take count piece) ++ take j (take (length piece - count) (drop count piece)))
    ≡ given)
    → k < count + more → records_due c false (bytes ++ take k piece) ≡ given
front_on c d bytes piece given count more k same inside before here l = ⊎_elim
    (λ (a : k < count). before k a)
    (λ (a : count ≤ k).
    let e : count + (k - count) ≡ k = omega (arith, a) in
    let j = here (k - count) (omega (arith, a, l)) in
    let o : (bytes ++ take count piece) ++ take (k - count) (take (length piece - count) (drop count piece))
    ≡ bytes ++ take k piece =
    ap (λ (l : List ℕ). (bytes ++ take count piece) ++ take (k - count) l) (take_rest piece count)
    ∙ piece_on bytes piece count (k - count) ∙ ap (λ (n : ℕ). bytes ++ take n piece) e in
    ap₂ (λ (c : Config) (l : List ℕ). records_due c false l) (sym same) (sym o) ∙ j)
    (cases_lt k count)

pub some_at : {X : Type 0} (o : Option X) (x : X) (P : X → Type 0) → IfSome o P → o ≡ Some x → P x
some_at None x P h e = none_some x e
some_at (Some y) x P h e = subst P (same_Some y x e) h

pub none_is : {X : Type 0} (o : Option X) (P : Type 0) → IfNone o P → o ≡ None → P
none_is None P h e = h
none_is (Some x) P h e = none_some x (sym e)
