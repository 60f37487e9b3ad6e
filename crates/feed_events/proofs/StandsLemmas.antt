-- Bytes in, events out.
use Rattle.std.proofs.Common.{◌≡◌, ℕ, zero, suc, ◌-◌, ◌/◌, ◌%◌, ◌≤◌, ◌<◌, Bool, true, false, List, [], ◌∷◌, ◌++◌}
use Rattle.std.proofs.Common.{length, take, drop, Option, Some, None, refl, ap, ap₂, sym, subst, ◌∙◌, arith}
use Rattle.std.proofs.Common.{append_assoc, append-nil, length-append, ◌⊎◌, inl, inr}
use Rattle.std.specs.Prelude.{map, not, option_map, is_some, IfSome}
use Rattle.std.proofs.lemmas.Bool.{true≢false, cases_lt}
use Rattle.std.proofs.lemmas.List.{drop_all, take_all}
use Rattle.std.proofs.lemmas.Option.{slice_get_past, slice_get_within}
use Rattle.terms.proofs.OptionLemmas.{none_some}
use Rattle.terms.proofs.ListLemmas.{drop_some}
use Rattle.t2mi_packet.specs.Reading.{packet_at}
use Rattle.t2mi_packet.specs.T2miPacket.{view_of, Spells}
use Rattle.t2mi_packet.specs.declared.packet.Packet.{Packet}
use Rattle.frame_groups.specs.Groups.{Group}
use Rattle.frame_groups.specs.Modulated.{Numbered, Rules}
use Rattle.t2mi_stream.specs.Accepted.{AcceptedPacket}
use Rattle.t2mi_stream.specs.Events.{UnpiperEvent, fed, released}
use Rattle.t2mi_stream.specs.Events.UnpiperEvent.{Fed, Released}
use Rattle.t2mi_stream.specs.Laws.{EventsPush, AcceptedFront}
use Rattle.t2mi_stream.specs.Units.{accepted_of, accepted_in}
use Rattle.t2mi_stream.specs.UnpiperStandsFor.{UnpiperStandsFor, is_ready, next_packet, AllReleased}
use Rattle.t2mi_stream.specs.declared.unpiper.Unpiper.{Unpiper}
use Rattle.t2mi_stream.proofs.NextLemmas.{has_bytes, IsIdle}
use Rattle.t2mi_stream.proofs.UnitLemmas.{runs_same}
use Rattle.feed_events.specs.Arrivals.{Arrival, came_of, is_idle, idle_if, arrivals_with, arrivals_from, arrivals}
use Rattle.feed_events.specs.Arrivals.Arrival.{Came, Idle}
use Rattle.feed_events.specs.FeedEvents.{FeedEvent, feed_events}
use Rattle.feed_events.specs.StandsFor.{arrivals_behind, arrivals_left, CanBecome, EventsStandFor, IsNext}
use Rattle.feed_events.specs.Under.{IsHeld, Went, Ended, course_events, head_events, events_behind, under_of, start}
use Rattle.feed_events.specs.declared.course.Course.{Course}
use Rattle.feed_events.specs.declared.course.Head.{Head}
use Rattle.feed_events.specs.declared.course.Head.TheVariants as head
use Rattle.t2mi_stream.specs.Skipping.{FewPackets}
use Rattle.feed_events.proofs.UnderLemmas.{first_events, no_event}
use Rattle.feed_events.proofs.ArrivalLemmas.{with_unit, behind_unit, behind_none}

-- what an unpiper shows of the packet that waits
abbrev pub Sees : Unpiper → List ℕ → Type 0
Sees u seen = (pid : ℕ) (events : List UnpiperEvent) → UnpiperStandsFor u pid events
    → option_map (λ a. a.bytes) (next_packet pid events) ≡ Some seen

abbrev pub Releases : Unpiper → Unpiper → Type 0
Releases old new = (pid : ℕ) (events : List UnpiperEvent) → UnpiperStandsFor old pid events
    → UnpiperStandsFor new pid (events ++ Released ∷ [])

-- the packet that waits is the first that is left
pub record LeftFirst (pid : ℕ) (events : List UnpiperEvent) (idle : Bool) (seen : List ℕ) : Type 0 where
  pub left : arrivals_left pid events idle ≡ Came (packet_at (view_of seen)) ∷ arrivals_left pid
      (events ++ Released ∷ []) idle
  pub few : released (events ++ Released ∷ []) ≤ length (accepted_of pid (fed (events ++ Released ∷ [])))

left_first : (push : EventsPush) (pid : ℕ) (events : List UnpiperEvent) (idle : Bool) (seen : List ℕ)
    → option_map (λ a. a.bytes) (next_packet pid events) ≡ Some seen → LeftFirst pid events idle seen
left_first push pid events idle seen told =
    let b = has_bytes (next_packet pid events) seen told in
    let p = push events in
    let n : released (events ++ Released ∷ []) ≡ suc (released events) = p.released_more ∙ omega arith in
    let d = drop_some (accepted_of pid (fed events)) (released events) b.packet b.is in
    let within = slice_get_within (accepted_of pid (fed events)) (released events) b.packet b.is in
    record {
      left =
          ap (λ (l : List AcceptedPacket). map came_of l ++ idle_if idle) d
          ∙ ap₂ (λ (x : List ℕ) (l : List AcceptedPacket). Came (packet_at (view_of x))
          ∷ (map came_of l ++ idle_if idle)) b.bytes
          (ap₂ (λ (k : ℕ) (l : List ℕ). drop k (accepted_of pid l)) (sym p.released_more) (sym p.fed_same));
      few = subst (λ (l : List ℕ). released (events ++ Released ∷ []) ≤ length (accepted_of pid l)) (sym p.fed_same)
          (omega (arith, n, within));
    }

-- the packet that waits was worked off
pub worked_off : (push : EventsPush) (Old New : List Numbered → Option Group → Type 0) (r : Rules) (u v : Unpiper)
    (c d : Course)
    (idle finished : Bool) (bytes : List ℕ) (gone : List FeedEvent) (seen : List ℕ) → Sees u seen → Releases u v
    → ((g : Option Group) → IsHeld Old c g → Went New r d (course_events r c g) (Came (packet_at (view_of seen)) ∷ [])
    [])
    → EventsStandFor Old r u c idle finished bytes gone → EventsStandFor New r v d idle finished bytes gone
worked_off push Old New r u v c d idle finished bytes gone seen sees releases went h =
    let pid = r.network.pid in
    let f = left_first push pid h.events idle seen (sees pid h.events h.stands) in
    let p = push h.events in
    let w = went h.group h.held in
    record {
      events = h.events ++ Released ∷ [];
      stands = releases pid h.events h.stands;
      few = f.few;
      whole = ap (λ (l : List ℕ). length l % 188) p.fed_same ∙ h.whole;
      tail = h.tail;
      bytes_are = h.bytes_are ∙ ap (λ (l : List ℕ). l ++ h.tail) (sym p.fed_same);
      short = h.short;
      no_tail = h.no_tail;
      group = w.group;
      held = w.held;
      all = λ ended all later can.
          h.all ended all later can
          ∙ ap (λ (l : List Arrival). gone ++ course_events r c h.group ended (l ++ later)) f.left
          ∙ ap (λ (l : List FeedEvent). gone ++ l)
          (sym (w.same ended (arrivals_left pid (h.events ++ Released ∷ []) idle ++ later)));
    }

-- it closed a group, and waits on
pub held_back : (push : EventsPush) (Old New : List Numbered → Option Group → Type 0) (r : Rules) (u : Unpiper)
    (c d : Course)
    (idle finished : Bool) (bytes : List ℕ) (gone : List FeedEvent) (seen : List ℕ) → Sees u seen
    → ((g : Option Group) → IsHeld Old c g
    → Went New r d (course_events r c g) (Came (packet_at (view_of seen)) ∷ []) (Came (packet_at (view_of seen)) ∷ []))
    → EventsStandFor Old r u c idle finished bytes gone → EventsStandFor New r u d idle finished bytes gone
held_back push Old New r u c d idle finished bytes gone seen sees went h =
    let pid = r.network.pid in
    let f = left_first push pid h.events idle seen (sees pid h.events h.stands) in
    let w = went h.group h.held in
    let rest = arrivals_left pid (h.events ++ Released ∷ []) idle in
    record {
      events = h.events;
      stands = h.stands;
      few = h.few;
      whole = h.whole;
      tail = h.tail;
      bytes_are = h.bytes_are;
      short = h.short;
      no_tail = h.no_tail;
      group = w.group;
      held = w.held;
      all = λ ended all later can.
          h.all ended all later can
          ∙ ap (λ (l : List Arrival). gone ++ course_events r c h.group ended (l ++ later)) f.left
          ∙ ap (λ (l : List FeedEvent). gone ++ l) (sym (w.same ended (rest ++ later)))
          ∙ ap (λ (l : List Arrival). gone ++ course_events r d w.group ended (l ++ later)) (sym f.left);
    }

-- no packet is left
none_left : (pid : ℕ) (events : List UnpiperEvent) (idle : Bool) → AllReleased pid events
    → arrivals_left pid events idle ≡ idle_if idle
none_left pid events idle all =
    ap (λ (l : List AcceptedPacket). map came_of l ++ idle_if idle)
    (drop_all (released events) (accepted_of pid (fed events)) (omega (arith, all)))

-- an idle unit was worked off, or closed a group
pub fell_silent : (Old New : List Numbered → Option Group → Type 0) (r : Rules) (u : Unpiper) (c d : Course)
    (idle worked finished : Bool) (bytes : List ℕ) (gone : List FeedEvent) → IsIdle u → idle ≡ true
    → (worked ≡ true → (g : Option Group) → IsHeld Old c g → Went New r d (course_events r c g) (Idle ∷ []) [])
    → (worked ≡ false → (g : Option Group) → IsHeld Old c g → Went New r d (course_events r c g) (Idle ∷ [])
    (Idle ∷ []))
    → EventsStandFor Old r u c idle finished bytes gone → EventsStandFor New r u d (not worked) finished bytes gone
fell_silent Old New r u c d idle worked finished bytes gone none is all held stands =
    let h = subst (λ (i : Bool). EventsStandFor Old r u c i finished bytes gone) is stands in
    let left = not worked in
    let went : (g : Option Group) → IsHeld Old c g → Went New r d (course_events r c g) (Idle ∷ []) (idle_if left) =
    went_as worked all held in
    let pid = r.network.pid in
    let w = went h.group h.held in
    let n = none pid h.events h.stands in
    record {
      events = h.events;
      stands = h.stands;
      few = h.few;
      whole = h.whole;
      tail = h.tail;
      bytes_are = h.bytes_are;
      short = h.short;
      no_tail = h.no_tail;
      group = w.group;
      held = w.held;
      all = λ ended all later can.
          h.all ended all later can
          ∙ ap (λ (l : List Arrival). gone ++ course_events r c h.group ended (l ++ later))
          (none_left pid h.events true n)
          ∙ ap (λ (l : List FeedEvent). gone ++ l) (sym (w.same ended later))
          ∙ ap (λ (l : List Arrival). gone ++ course_events r d w.group ended (l ++ later))
          (sym (none_left pid h.events left n));
    }
  where
    went_as : (t : Bool)
        → (t ≡ true → (g : Option Group) → IsHeld Old c g → Went New r d (course_events r c g) (Idle ∷ []) [])
        → (t ≡ false → (g : Option Group) → IsHeld Old c g → Went New r d (course_events r c g) (Idle ∷ []) (Idle ∷ []))
        → (g : Option Group) → IsHeld Old c g → Went New r d (course_events r c g) (Idle ∷ []) (idle_if (not t))
    went_as true a b = a refl
    went_as false a b = b refl

-- the end came
at_the_end : (Old New : List Numbered → Option Group → Type 0) (r : Rules) (u : Unpiper) (c d : Course) (bytes : List ℕ)
    (gone : List FeedEvent) → IsIdle u → ((g : Option Group) → IsHeld Old c g → Ended New r d (course_events r c g))
    → EventsStandFor Old r u c false true bytes gone → EventsStandFor New r u d false true bytes gone
at_the_end Old New r u c d bytes gone none ends h =
    let pid = r.network.pid in
    let w = ends h.group h.held in
    let n = none_left pid h.events false (none pid h.events h.stands) in
    let at : (k : Course) (g : Option Group) (ended : Bool) (later : List Arrival) → ended ≡ true → later ≡ []
    → course_events r k g ended (arrivals_left pid h.events false ++ later) ≡ course_events r k g true [] =
    λ k g ended later e l. ap₂ (λ (t : Bool) (xs : List Arrival). course_events r k g t xs) e
    (ap₂ (λ (xs ys : List Arrival). xs ++ ys) n l) in
    record {
      events = h.events;
      stands = h.stands;
      few = h.few;
      whole = h.whole;
      tail = h.tail;
      bytes_are = h.bytes_are;
      short = h.short;
      no_tail = h.no_tail;
      group = w.group;
      held = w.held;
      all = λ ended all later can.
          h.all ended all later can
          ∙ ap (λ (l : List FeedEvent). gone ++ l)
          (at c h.group ended later can.0 can.2 ∙ sym w.same ∙ sym (at d w.group ended later can.0 can.2));
    }

pub came_end : (Old New : List Numbered → Option Group → Type 0) (r : Rules) (u : Unpiper) (c d : Course)
    (idle finished : Bool)
    (bytes : List ℕ) (gone : List FeedEvent) → IsIdle u → idle ≡ false → finished ≡ true
    → ((g : Option Group) → IsHeld Old c g → Ended New r d (course_events r c g))
    → EventsStandFor Old r u c idle finished bytes gone → EventsStandFor New r u d false finished bytes gone
came_end Old New r u c d idle finished bytes gone none not_idle at_end ends stands =
    subst (λ (f : Bool). EventsStandFor New r u d false f bytes gone) (sym at_end)
    (at_the_end Old New r u c d bytes gone none ends
    (subst (λ (f : Bool). EventsStandFor Old r u c false f bytes gone) at_end
    (subst (λ (i : Bool). EventsStandFor Old r u c i finished bytes gone) not_idle stands)))

-- a unit that does not end gives nothing: so an unpiper to which a unit is fed takes all of it
pub takes_all : (front : AcceptedFront) (push : EventsPush) (pid : ℕ) (events : List UnpiperEvent) (unit : List ℕ)
    (count : ℕ)
    → length (fed events) % 188 ≡ 0 → length unit ≡ 188 → count < 188 → AllReleased pid events
    → AllReleased pid (events ++ Fed (take count unit) ∷ [])
takes_all front push pid events unit count whole size few all =
    let p = push events in
    let n = length-append (fed events) (take count unit) in
    let t : length (take count unit) ≤ count = length_take_le count unit in
    let same : accepted_of pid (fed events ++ take count unit) ≡ accepted_of pid (fed events) =
    ap accepted_in (runs_same pid (fed events) (take count unit) (omega (arith, whole, few, n, t))) in
    ap (λ (l : List ℕ). length (accepted_of pid l)) (p.fed_more (take count unit))
    ∙ ap length same ∙ all ∙ sym (p.released_same (take count unit))
  where
    length_take_le : (k : ℕ) (xs : List ℕ) → length (take k xs) ≤ k
    length_take_le zero xs = omega arith
    length_take_le (suc k) [] = omega arith
    length_take_le (suc k) (x ∷ xs) = let r = length_take_le k xs in omega (arith, r)

-- a unit came
pub came_unit : (front : AcceptedFront) (push : EventsPush) (Holds : List Numbered → Option Group → Type 0) (r : Rules)
    (u v : Unpiper) (c : Course) (bytes unit : List ℕ) (gone : List FeedEvent) → IsIdle u → length unit ≡ 188
    → (h : EventsStandFor Holds r u c false false bytes gone) → UnpiperStandsFor v r.network.pid
    (h.events ++ Fed unit ∷ [])
    → EventsStandFor Holds r v c (is_idle r.network.pid unit) false (bytes ++ unit) gone
came_unit front push Holds r u v c bytes unit gone none size h feeds =
    let pid = r.network.pid in
    let p = push h.events in
    let n = none pid h.events h.stands in
    let f = front pid (fed h.events) unit in
    let idle = is_idle pid unit in
    let old : bytes ≡ fed h.events = h.bytes_are ∙ ap (λ (l : List ℕ). fed h.events ++ l) (h.no_tail refl)
    ∙ append-nil (fed h.events) in
    let new : fed (h.events ++ Fed unit ∷ []) ≡ bytes ++ unit = p.fed_more unit
    ∙ ap (λ (l : List ℕ). l ++ unit) (sym old) in
    let whole : length bytes % 188 ≡ 0 = ap (λ (l : List ℕ). length l % 188) old ∙ h.whole in
    let all_of : length (accepted_of pid bytes) ≡ released h.events = ap (λ (l : List ℕ). length (accepted_of pid l))
    old ∙ n in
    let k : released (h.events ++ Fed unit ∷ []) ≡ length (accepted_of pid bytes) = p.released_same unit ∙ sym all_of in
    let left : arrivals_left pid (h.events ++ Fed unit ∷ []) idle ≡ arrivals_with pid (bytes ++ unit)
    (length bytes / 188) =
    ap₂ (λ (i : ℕ) (l : List ℕ). map came_of (drop i (accepted_of pid l)) ++ idle_if idle) k new
    ∙ sym (with_unit pid bytes unit (length bytes / 188) (omega (arith, whole)) size) in
    let l = length-append bytes unit in
    let m = length-append (accepted_of pid (fed h.events)) f.0 in
    record {
      events = h.events ++ Fed unit ∷ [];
      stands = feeds;
      few = subst (λ (xs : List AcceptedPacket). released (h.events ++ Fed unit ∷ []) ≤ length xs)
          (sym (ap (accepted_of pid) (p.fed_more unit) ∙ f.1))
          (subst (λ (i : ℕ). i ≤ length (accepted_of pid (fed h.events) ++ f.0)) (sym (p.released_same unit ∙ sym n))
          (omega (arith, m)));
      whole = ap (λ (xs : List ℕ). length xs % 188) new ∙ omega (arith, l, whole, size);
      tail = [];
      bytes_are = sym (append-nil (fed (h.events ++ Fed unit ∷ [])) ∙ new);
      short = omega arith;
      no_tail = λ _. refl;
      group = h.group;
      held = h.held;
      all = λ ended all later can.
          h.all ended all (arrivals_behind pid bytes (unit ++ can.0))
          (unit ++ can.0, can.1 ∙ append_assoc bytes unit can.0, refl)
          ∙ ap (λ (xs : List Arrival). gone ++ course_events r c h.group ended xs)
          (ap (λ (xs : List Arrival). xs ++ arrivals_behind pid bytes (unit ++ can.0)) (none_left pid h.events false n)
          ∙ behind_unit pid bytes unit can.0 whole size
          ∙ ap₂ (λ (xs ys : List Arrival). xs ++ ys) (sym left) (sym can.2));
    }

-- what is next was passed
pub passed : (Holds : List Numbered → Option Group → Type 0) (r : Rules) (u : Unpiper) (c : Course)
    (idle finished : Bool)
    (bytes : List ℕ) (gone : List FeedEvent) (h : EventsStandFor Holds r u c idle finished bytes gone)
    → EventsStandFor Holds r u (record c { head = head.Unknown }) idle finished bytes
    (gone ++ head_events c.head h.group)
passed Holds r u c idle finished bytes gone h = record {
  events = h.events;
  stands = h.stands;
  few = h.few;
  whole = h.whole;
  tail = h.tail;
  bytes_are = h.bytes_are;
  short = h.short;
  no_tail = h.no_tail;
  group = h.group;
  held = record { own = h.held.own; holds = h.held.holds; stamped = h.held.stamped };
  all = λ ended all later can.
      h.all ended all later can
      ∙ sym (append_assoc gone (head_events c.head h.group)
      (events_behind r ended (under_of c.under_way h.group) c.last (arrivals_left r.network.pid h.events idle
      ++ later)));
}

-- no more bytes come
pub finished_by : (Holds : List Numbered → Option Group → Type 0) (r : Rules) (u : Unpiper) (c : Course)
    (bytes tail : List ℕ)
    (gone : List FeedEvent) → length tail < 188 → EventsStandFor Holds r u c false false bytes gone
    → EventsStandFor Holds r u c false true (bytes ++ tail) gone
finished_by Holds r u c bytes tail gone short h =
    let pid = r.network.pid in
    let old : bytes ≡ fed h.events = h.bytes_are ∙ ap (λ (l : List ℕ). fed h.events ++ l) (h.no_tail refl)
    ∙ append-nil (fed h.events) in
    record {
      events = h.events;
      stands = h.stands;
      few = h.few;
      whole = h.whole;
      tail = tail;
      bytes_are = ap (λ (l : List ℕ). l ++ tail) old;
      short = short;
      no_tail = λ e. absurd (true≢false e);
      group = h.group;
      held = h.held;
      all = λ ended all later can.
          h.all ended all (arrivals_behind pid bytes tail) (tail, can.1, refl)
          ∙ ap (λ (l : List Arrival). gone ++ course_events r c h.group ended (arrivals_left pid h.events false ++ l))
          (behind_none pid bytes tail (ap (λ (l : List ℕ). length l % 188) old ∙ h.whole) short ∙ sym can.2);
    }

-- no byte came
nothing : FewPackets → (pid : ℕ) → AllReleased pid []
unfolding fed released
nothing few pid = let n = few pid [] in omega (arith, n)

no_bytes : fed [] ≡ []
unfolding fed
no_bytes = refl

events_are : (r : Rules) (ended : Bool) (all : List ℕ) → feed_events r ended all ≡ events_behind r ended None None
    (arrivals r.network.pid all)
unfolding feed_events
events_are r ended all = first_events r ended (arrivals r.network.pid all)

no_list : List ℕ
no_list = []

all_behind_none : (pid : ℕ) (all : List ℕ) → arrivals pid all ≡ arrivals_behind pid [] all
unfolding no_list
all_behind_none pid all =
    let a : 0 ≡ length no_list / 188 = omega arith in
    let b : length all / 188 ≡ length all / 188 - length no_list / 188 = omega arith in
    ap₂ (arrivals_from pid all) a b

pub begun_with : FewPackets → (Holds : List Numbered → Option Group → Type 0) (r : Rules) (u : Unpiper)
    → UnpiperStandsFor u r.network.pid [] → IsHeld Holds start None → EventsStandFor Holds r u start false false [] []
begun_with few Holds r u stands held =
    let pid = r.network.pid in
    let n = nothing few pid in
    record {
      events = [];
      stands = stands;
      few = omega (arith, n);
      whole = ap (λ (l : List ℕ). length l % 188) no_bytes;
      tail = [];
      bytes_are = sym (append-nil (fed []) ∙ no_bytes);
      short = omega arith;
      no_tail = λ _. refl;
      group = None;
      held = held;
      all = λ ended all later can.
          events_are r ended all
          ∙ ap (events_behind r ended None None) (ap (arrivals pid) can.1 ∙ all_behind_none pid can.0 ∙ sym can.2)
          ∙ ap (λ (l : List Arrival). events_behind r ended None None (l ++ later)) (sym (none_left pid [] false n));
    }

-- by other names of the same
pub by_flags : (Holds : List Numbered → Option Group → Type 0) (r : Rules) (u : Unpiper) (c : Course)
    (idle other finished over : Bool)
    (bytes : List ℕ) (gone : List FeedEvent) → idle ≡ other → finished ≡ over
    → EventsStandFor Holds r u c idle finished bytes gone → EventsStandFor Holds r u c other over bytes gone
by_flags Holds r u c idle other finished over bytes gone i f h =
    subst (λ (t : Bool). EventsStandFor Holds r u c other t bytes gone) f
    (subst (λ (t : Bool). EventsStandFor Holds r u c t finished bytes gone) i h)

pub by_rules : (Holds : List Numbered → Option Group → Type 0) (r s : Rules) (u : Unpiper) (c : Course)
    (idle finished : Bool)
    (bytes : List ℕ) (gone : List FeedEvent) → s ≡ r → EventsStandFor Holds r u c idle finished bytes gone
    → EventsStandFor Holds s u c idle finished bytes gone
by_rules Holds r s u c idle finished bytes gone same = subst (λ (x : Rules). EventsStandFor Holds x u
    c idle finished bytes gone) (sym same)

-- a unit that is fed is fed whole: it gives no packet before its last byte
pub feeds_all : (front : AcceptedFront) (push : EventsPush) (pid : ℕ) (events : List UnpiperEvent) (unit : List ℕ)
    (count : ℕ) (v : Unpiper)
    → length (fed events) % 188 ≡ 0 → length unit ≡ 188 → AllReleased pid events
    → UnpiperStandsFor v pid (events ++ Fed (take count unit) ∷ [])
    → (count < length unit → is_ready v ≡ true)
    → (is_ready v ≡ true → (a : AcceptedPacket) × (next_packet pid (events ++ Fed (take count unit) ∷ []) ≡ Some a))
    → UnpiperStandsFor v pid (events ++ Fed unit ∷ [])
feeds_all front push pid events unit count v whole size all stands stops ready = go (cases_lt count 188)
  where
    go : (count < 188) ⊎ (188 ≤ count) → UnpiperStandsFor v pid (events ++ Fed unit ∷ [])
    go (inl less) =
        let r = ready (stops (omega (arith, less, size))) in
        let gone = takes_all front push pid events unit count whole size less all in
        absurd (none_some r.0 (sym (slice_get_past (accepted_of pid (fed (events ++ Fed (take count unit) ∷ [])))
        (released (events ++ Fed (take count unit) ∷ [])) (omega (arith, gone))) ∙ r.1))
    go (inr more) = subst (λ (l : List ℕ). UnpiperStandsFor v pid (events ++ Fed l ∷ []))
        (take_all count unit (omega (arith, more, size)))
        stands

-- the packet that waits, if one does
pub has_next : (o : Option Packet) (ready : Bool) (v : Unpiper) → is_some o ≡ ready
    → IfSome o (λ p. (pid : ℕ) (events : List UnpiperEvent) → UnpiperStandsFor v pid events
    → (a : AcceptedPacket) × (next_packet pid events ≡ Some a) × Spells p a.bytes)
    → ready ≡ true → (pid : ℕ) (events : List UnpiperEvent) → UnpiperStandsFor v pid events
    → (a : AcceptedPacket) × (next_packet pid events ≡ Some a)
has_next None ready v e is r pid events stands = absurd (true≢false (sym r ∙ sym e))
has_next (Some p) ready v e is r pid events stands = let a = is pid events stands in (a.0, a.1)

-- ---- what is next

-- behind the last bytes of a feed nothing is left
over_events : (Holds : List Numbered → Option Group → Type 0) (r : Rules) (u : Unpiper) (c : Course)
    (idle finished : Bool) (bytes : List ℕ)
    (gone : List FeedEvent) (h : EventsStandFor Holds r u c idle finished bytes gone) → IsIdle u → idle ≡ false
    → finished ≡ true
    → c.under_way ≡ false → (ended : Bool) (all : List ℕ) (later : List Arrival)
    → CanBecome finished r.network.pid bytes ended all later
    → (ended ≡ true) × (events_behind r ended (under_of c.under_way h.group) c.last
    (arrivals_left r.network.pid h.events idle ++ later) ≡ [])
over_events Holds r u c idle finished bytes gone h none not_idle at_end under ended all later can =
    let pid = r.network.pid in
    let z = subst (λ (f : Bool). CanBecome f pid bytes ended all later) at_end can in
    let left : arrivals_left pid h.events idle ++ later ≡ [] =
    ap₂ (λ (xs ys : List Arrival). xs ++ ys)
    (ap (arrivals_left pid h.events) not_idle ∙ none_left pid h.events false (none pid h.events h.stands)) z.2 in (
      z.0,
      ap₂ (λ (t : Bool) (xs : List Arrival). events_behind r t (under_of c.under_way h.group) c.last xs) z.0 left
          ∙ ap (λ (t : Bool). events_behind r true (under_of t h.group) c.last []) under,
    )

pub is_next : (Holds : List Numbered → Option Group → Type 0) (r : Rules) (u : Unpiper) (c : Course)
    (idle finished : Bool)
    (bytes : List ℕ) (gone : List FeedEvent) (h : EventsStandFor Holds r u c idle finished bytes gone)
    → ((n : ℕ) → c.head ≡ head.Frame n → (x : Group) × (h.group ≡ Some x))
    → (c.head ≡ head.Over → IsIdle u × (idle ≡ false) × (finished ≡ true) × (c.under_way ≡ false))
    → (ended : Bool) (all : List ℕ) (later : List Arrival) → CanBecome finished r.network.pid bytes ended all later
    → IsNext c.head h.group ended gone (feed_events r ended all)
is_next Holds r u c idle finished bytes gone h frame over ended all later can = go c.head refl
  where
    rest : List FeedEvent
    rest = events_behind r ended (under_of c.under_way h.group) c.last (arrivals_left r.network.pid h.events idle
        ++ later)

    is : feed_events r ended all ≡ gone ++ (head_events c.head h.group ++ rest)
    is = h.all ended all later can

    go : (k : Head) → c.head ≡ k → IsNext k h.group ended gone (feed_events r ended all)
    go head.Unknown e = (rest, is ∙ ap (λ (k : Head). gone ++ (head_events k h.group ++ rest)) e)
    go (head.Frame n) e =
        let x = frame n e in (
          x.0,
          x.1,
          (rest, is ∙ ap₂ (λ (k : Head) (g : Option Group). gone ++ (head_events k g ++ rest)) e x.1),
        )
    go head.Silent e = (rest, is ∙ ap (λ (k : Head). gone ++ (head_events k h.group ++ rest)) e)
    go head.Over e =
        let o = over e in
        let z = over_events Holds r u c idle finished bytes gone h o.0 o.1 o.2 o.3 ended all later can in (
          z.0,
          is
              ∙ ap (λ (k : Head). gone ++ (head_events k h.group ++ rest)) e
              ∙ ap (λ (l : List FeedEvent). gone ++ l) z.1
              ∙ append-nil gone,
        )

pub unknown_next : (Holds : List Numbered → Option Group → Type 0) (r : Rules) (u : Unpiper) (c : Course)
    (idle finished : Bool)
    (bytes : List ℕ) (gone : List FeedEvent) (h : EventsStandFor Holds r u c idle finished bytes gone)
    → IsIdle u → idle ≡ false
    → finished ≡ false → c.head ≡ head.Unknown → feed_events r false bytes ≡ gone
unknown_next Holds r u c idle finished bytes gone h none not_idle going e =
    let pid = r.network.pid in
    let whole : length bytes % 188 ≡ 0 =
    ap (λ (l : List ℕ). length l % 188) (h.bytes_are ∙ ap (λ (l : List ℕ). fed h.events ++ l) (h.no_tail going)
    ∙ append-nil (fed h.events)) ∙ h.whole in
    let later : arrivals_behind pid bytes [] ≡ [] = behind_none pid bytes [] whole (omega arith) in
    let can : CanBecome finished pid bytes false bytes (arrivals_behind pid bytes []) =
    subst (λ (f : Bool). CanBecome f pid bytes false bytes (arrivals_behind pid bytes [])) (sym going)
    ([], sym (append-nil bytes), refl) in
    let left : arrivals_left pid h.events idle ++ arrivals_behind pid bytes [] ≡ [] =
    ap₂ (λ (xs ys : List Arrival). xs ++ ys)
    (ap (arrivals_left pid h.events) not_idle ∙ none_left pid h.events false (none pid h.events h.stands)) later in
    h.all false bytes (arrivals_behind pid bytes []) can
    ∙ ap₂ (λ (k : Head) (xs : List Arrival). gone ++ (head_events k h.group ++ events_behind r false
    (under_of c.under_way h.group) c.last xs))
    e left
    ∙ ap (λ (l : List FeedEvent). gone ++ l) (no_event r (under_of c.under_way h.group) c.last)
    ∙ append-nil gone

unknown_or_over : head.Unknown ≡ head.Over → ⊥
unknown_or_over e = let z : Unit {0} = tt in cc

pub not_under : (under : Bool) (h : Head) → (under ≡ true → h ≡ head.Unknown) → h ≡ head.Over → under ≡ false
not_under true h known over = absurd (unknown_or_over (sym (known refl) ∙ over))
not_under false h known over = refl
