-- The events of the whole stream of a run: all packets of all frames, each with its number.
use Rattle.std.proofs.Common.{◌≡◌, ◌≢◌, ℕ, zero, suc, ◌+◌, ◌*◌, ◌/◌, ◌%◌, ◌^◌, ◌<◌, ◌≤◌, ◌==◌, ◌&&◌, ◌||◌, not, Bool}
use Rattle.std.proofs.Common.{true, false, cond, List, [], ◌∷◌, ◌++◌, length, map, take, drop, replicate, Option, Some}
use Rattle.std.proofs.Common.{None, refl, ap, ap₂, sym, ◌∙◌, arith, append-nil, length-append, inl, inr}
use Rattle.std.specs.Prelude.{nat_lt, slice_get}
use Rattle.std.specs.List.{flat_map, filter, cons_option, items_where_true, range_with_len, AllByRecursion}
use Rattle.std.proofs.lemmas.Bool.{cases_Bool, cond-true, and_right, and_parts, and_from, eq-eqb, ne_eqb}
use Rattle.std.proofs.lemmas.Bool.{eqb-false, ltb-true, lt-ltb}
use Rattle.std.proofs.lemmas.List.{map-append, take-append-le, take_all}
use Rattle.std.proofs.lemmas.List.Concat.{flat_map-append}
use Rattle.std.proofs.Math.Nat.{zero-mod}
use Rattle.std.proofs.lemmas.Simd.{map-map}
use Rattle.terms.proofs.OptionLemmas.{none_some}
use Rattle.terms.proofs.RangeLemmas.{range_more}
use Rattle.plp_config.specs.Capacity.{IsPlan}
use Rattle.plp_config.specs.declared.config.Config.{Config}
use Rattle.plp_config.specs.declared.moment.TheConstants.{MOST_FRAMES}
use Rattle.ts_packet.specs.FieldsIn.{fields_in}
use Rattle.ts_packet.specs.TransportPacket.{Fields}
use Rattle.ts_packet.specs.TsFile.{joined}
use Rattle.t2mi_packet.specs.declared.packet.Body.{Body}
use Rattle.t2mi_packet.specs.declared.packet.Body.TheVariants.{Block, L1Current, Timestamp, Other}
use Rattle.t2mi_packet.specs.declared.packet.Packet.{Packet}
use Rattle.t2mi_packet.specs.declared.packet.Stamp.{Stamp}
use Rattle.t2mi_stream.specs.Accepted.{AcceptedPacket, accepted, starts}
use Rattle.t2mi_stream.specs.Laws.{AcceptedFront, UnitReads}
use Rattle.t2mi_stream.specs.Pipe.{JoinedByte, part, unit, units_in, pipe}
use Rattle.t2mi_stream.specs.Units.{PipedUnit, carries, points_inside, carried, piped_unit_of, unit_at, piped_units}
use Rattle.t2mi_stream.specs.Units.{runs, accepted_of}
use Rattle.feed_events.specs.Arrivals.{Arrival, came_of, is_idle, is_idle_of, accepted_by, idle_if, arrivals_with}
use Rattle.feed_events.specs.Arrivals.{arrivals_from, arrivals}
use Rattle.feed_events.specs.Arrivals.Arrival.{Came}
use Rattle.feed_events.specs.FeedEvents.{FeedEvent, is_timestamp, has_stamp, number_after, number_of, event_of}
use Rattle.feed_events.specs.FeedEvents.{numbered_from, in_first, between_idle, events_between, feed_events}
use Rattle.frame_groups.specs.Groups.{is_same, Group, groups}
use Rattle.frame_groups.specs.Numbers.{frame_key}
use Rattle.frame_groups.specs.declared.key.Key.{Key}
use Rattle.frame_groups.specs.Carried.{body_stamp, stamps_of}
use Rattle.frame_groups.specs.TestLaws.{FrameNamed}
use Rattle.frame_groups.specs.Tests.{rules}
use Rattle.record_laws.specs.Frames.{HasByteIds}
use Rattle.modulator.specs.Modulating.{packet_of}
use Rattle.frame_writer.specs.FramePackets.{stamp_of}
use Rattle.gateway_core.specs.Packets.{packets_of as run_packets_of}
use Rattle.stream_laws.specs.DamageLaws.{GroupsAreFrames, LaterNear}
use Rattle.stream_laws.proofs.GroupLemmas.{near_apart, order_survivors}
use Rattle.stream_laws.specs.SentPackets.{Sent, packets_of, frame_packets, frame_group, AreFrames}
use Rattle.stream_laws.specs.Survivors.{has_packets, groups_met}
use Rattle.stream_laws.specs.FrameLaws.{FramesAreStream}
use Rattle.stream_laws.specs.SentFrames.{sent_frames, run_length}
use Rattle.stream_laws.proofs.CarriedLemmas.{HasFrame}
use Rattle.stream_laws.proofs.ByteLemmas.{accepted_are}
use Rattle.stream_laws.proofs.ArriveLemmas.{all_left}
use Rattle.t2mi_stream.specs.SurvivorLaws.{AcceptedSurvive, KeptUndamaged}
use Rattle.network_laws.specs.FeedsOfRun.{run_packets, run_event, run_events}
use Rattle.std.proofs.Math.Seq.{drop-append_seam}

-- ---- units that are piped are not idle

piped_not_idle : (pid place : ℕ) (bytes : List ℕ) (u : PipedUnit) (o : Option Fields)
    → piped_unit_of pid place bytes o ≡ Some u → is_idle_of pid o ≡ false
piped_not_idle pid place bytes u None e = none_some u e
piped_not_idle pid place bytes u (Some f) e = go (carries pid f) refl e
  where
    go : (t : Bool) → carries pid f ≡ t
        → cond t (Some (record { counter = f.counter; bytes = carried place bytes f })) None ≡ Some u
        → is_idle_of pid (Some f) ≡ false
    go true is e =
        let some = ltb-true 0 (length f.payload)
        (and_parts ((f.pid == pid) && not f.error && (f.scrambling == 0)) (nat_lt 0 (length f.payload))
        (and_parts ((f.pid == pid) && not f.error && (f.scrambling == 0) && nat_lt 0 (length f.payload))
        (points_inside f) is).0).1 in
        and_right ((f.pid == pid) && not f.error && (f.scrambling == 0)) (length f.payload == 0)
        (ne_eqb (length f.payload) 0 (λ z. omega arith))
    go false is e = none_some u e

-- A unit of 188 bytes that is not idle.
abbrev IsFull : ℕ → List ℕ → Type 0
IsFull pid u = (length u ≡ 188) × (is_idle pid u ≡ false)

all_full : UnitReads → (pid steps counter : ℕ) (xs : List JoinedByte) → pid < 2 ^ 13 → counter < 16
    → AllByRecursion (IsFull pid) (units_in pid steps counter xs)
unfolding units_in
all_full reads pid zero counter xs small l = tt
all_full reads pid (suc steps) counter [] small l = tt
all_full reads pid (suc steps) counter (x ∷ xs) small l =
    let r = reads pid 0 counter (x ∷ xs) small l (omega arith) in (
      (r.1, piped_not_idle pid 0 (unit pid counter (x ∷ xs)) _ (fields_in (unit pid counter (x ∷ xs))) r.0),
      all_full reads pid steps ((counter + 1) % 16) (drop (part (x ∷ xs)).size (x ∷ xs)) small (omega arith),
    )

length_full : (pid : ℕ) (us : List (List ℕ)) → AllByRecursion (IsFull pid) us → length (joined us) ≡ 188 * length us
length_full pid [] h = refl
length_full pid (u ∷ us) h =
    omega (arith, length-append u (joined us), length_full pid us h.1)

-- so none of the units of their bytes is idle
none_idle : (pid : ℕ) (us : List (List ℕ)) (i : ℕ) → AllByRecursion (IsFull pid) us → i < length us
    → is_idle pid (unit_at (joined us) i) ≡ false
none_idle pid [] i h l = absurd (omega arith)
none_idle pid (u ∷ us) zero h l =
    rw (take-append-le 188 u (joined us) (omega arith), take_all 188 u (omega arith), h.0.1)
none_idle pid (u ∷ us) (suc i) h l =
    let at : 188 * suc i ≡ length u + 188 * i = omega arith in
    ap (λ (k : ℕ). is_idle pid (take 188 (drop k (u ++ joined us)))) at
    ∙ ap (λ (rest : List ℕ). is_idle pid (take 188 rest)) (drop_past u (joined us) (188 * i))
    ∙ none_idle pid us i h.1 (omega arith)
  where
    drop_past : (xs ys : List ℕ) (k : ℕ) → drop (length xs + k) (xs ++ ys) ≡ drop k ys
    drop_past [] ys k = ap (λ (j : ℕ). drop j ys) (let e : 0 + k ≡ k = omega arith in e)
    drop_past (x ∷ xs) ys k =
        ap (λ (j : ℕ). drop j (x ∷ (xs ++ ys))) (let e : suc (length xs) + k ≡ suc (length xs + k) = omega arith in e)
        ∙ drop_past xs ys k

-- ---- so all that arrives is packets

none_accepted : (pid : ℕ) → accepted_of pid [] ≡ []
unfolding runs piped_units accepted starts
none_accepted pid = refl

take_more : (bytes : List ℕ) (a b : ℕ) → a ≤ b → (more : List ℕ) × (take b bytes ≡ take a bytes ++ more)
take_more bytes zero b l = (take b bytes, refl)
take_more bytes (suc a) zero l = absurd (omega arith)
take_more [] (suc a) (suc b) l = ([], refl)
take_more (x ∷ bytes) (suc a) (suc b) l =
    let r = take_more bytes a b (omega arith) in
    (r.0, ap (λ (l : List ℕ). x ∷ l) r.1)

arrive_to : AcceptedFront → (pid : ℕ) (bytes : List ℕ) (n : ℕ)
    → ((i : ℕ) → i < n → is_idle pid (unit_at bytes i) ≡ false)
    → arrivals_from pid bytes 0 n ≡ map came_of (accepted_by pid bytes n)
arrive_to front pid bytes zero none =
    sym (ap (map came_of) (none_accepted pid))
arrive_to front pid bytes (suc n) none =
    let f : ℕ → List Arrival = arrivals_with pid bytes in
    let x : List AcceptedPacket = accepted_by pid bytes n in
    let more = take_more bytes (188 * n) (188 * (n + 1)) (omega arith) in
    let others = front pid (take (188 * n) bytes) more.0 in
    let y : accepted_by pid bytes (n + 1) ≡ x ++ others.0 = ap (accepted_of pid) more.1 ∙ others.1 in
    let own : f n ≡ map came_of others.0 =
    ap₂ (λ (l : List AcceptedPacket) (t : Bool). map came_of (drop (length x) l) ++ idle_if t) y (none n (omega arith))
    ∙ append-nil (map came_of (drop (length x) (x ++ others.0))) ∙ ap (map came_of) (drop-append_seam x others.0) in
    let next : suc n ≡ n + 1 = omega arith in
    ap (λ (k : ℕ). flat_map f (range_with_len 0 k)) next
    ∙ ap (flat_map f) (range_more 0 n)
    ∙ flat_map-append f (range_with_len 0 n) ((0 + n) ∷ [])
    ∙ ap₂ (λ (a b : List Arrival). a ++ b) (arrive_to front pid bytes n (λ i l. none i (omega arith)))
    (append-nil (f (0 + n)) ∙ ap f (let e : 0 + n ≡ n = omega arith in e) ∙ own)
    ∙ sym (map-append came_of x others.0)
    ∙ ap (map came_of) (sym y)
    ∙ ap (λ (k : ℕ). map came_of (accepted_by pid bytes k)) (sym next)

pub pipe_arrives : AcceptedFront → UnitReads → (pid : ℕ) (packets : List (List ℕ)) → pid < 2 ^ 13
    → arrivals pid (joined (pipe pid packets)) ≡ map came_of (accepted_of pid (joined (pipe pid packets)))
pipe_arrives front reads pid packets small =
    let us : List (List ℕ) = pipe pid packets in
    let full : AllByRecursion (IsFull pid) us = all_full reads pid _ 0 _ small (omega arith) in
    let count : length (joined us) / 188 ≡ length us = omega (arith, length_full pid us full) in
    ap (arrivals_from pid (joined us) 0) count
    ∙ arrive_to front pid (joined us) (length us) (λ i l. none_idle pid us i full l)
    ∙ ap (λ (l : List ℕ). map came_of (accepted_of pid l))
    (take_all (188 * length us) (joined us) (omega (arith, length_full pid us full)))

-- packets alone are one row without a silence
pub no_idle : (ps : List Packet) → between_idle (map Came ps) ≡ ps ∷ []
no_idle [] = refl
no_idle (p ∷ ps) = ap (in_first p) (no_idle ps)

-- ---- the groups are the frames

all_have : (frames from count : ℕ) (sent : List Sent)
    → ((n : ℕ) → from ≤ n → n < from + count → frame_packets n sent ≢ [])
    → filter has_packets (map (frame_group frames sent) (range_with_len from count))
    ≡ map (frame_group frames sent) (range_with_len from count)
all_have frames from zero sent some = refl
all_have frames from (suc count) sent some =
    let g : Group = frame_group frames sent from in
    let rest : List Group = map (frame_group frames sent) (range_with_len (from + 1) count) in
    cond-true (has_packets g) (g ∷ filter has_packets rest) (filter has_packets rest)
    (there (frame_packets from sent) (some from (omega arith) (omega arith)))
    ∙ ap (λ (l : List Group). g ∷ l)
    (all_have frames (from + 1) count sent (λ n l m. some n (omega arith) (omega arith)))
  where
    there : (ps : List Packet) → ps ≢ [] → cond (length ps == 0) false true ≡ true
    there [] ne = absurd (ne refl)
    there (p ∷ ps) ne = rw (ne_eqb (length (p ∷ ps)) 0 (λ e. omega arith))

-- packets that are sent frame by frame are grouped by their frames
sent_groups : GroupsAreFrames → LaterNear → (frames count : ℕ) (sent : List Sent) → 0 < frames
    → AreFrames frames count sent
    → groups frames (packets_of sent) ≡ map (frame_group frames sent) (range_with_len 0 count)
sent_groups law near frames count sent some are =
    let all : List Bool = replicate (length sent) true in
    let same : items_where_true all sent ≡ sent = all_left sent in
    ap (λ (l : List Sent). groups frames (packets_of l)) (sym same)
    ∙ law frames count sent all some are
    (near_apart frames None (items_where_true all sent) some (order_survivors frames None sent all are.order)
    (near frames count sent 0 (length sent) some are))
    ∙ ap (groups_met frames count) same
    ∙ all_have frames 0 count sent (λ n l m. are.some n (omega arith))

-- ---- and their numbers those of the frames

pub stamp_told : (ps : List Packet) → has_stamp ps ≡ nat_lt 0 (length (stamps_of ps))
stamp_told [] = refl
stamp_told (p ∷ ps) = go p.body (stamp_told ps)
  where
    go : (b : Body) → has_stamp ps ≡ nat_lt 0 (length (stamps_of ps))
        → (is_timestamp b || has_stamp ps) ≡ nat_lt 0 (length (cons_option (body_stamp b) (stamps_of ps)))
    go (Block frame_idx plp_id first bits) e = e
    go (L1Current frame_idx pre conf dynamic extension) e = e
    go (Timestamp stamp) e = sym (lt-ltb 0 (suc (length (stamps_of ps))) (omega arith))
    go (Other packet_type bits) e = e

-- the number of the frame before, or none
abbrev before_of : ℕ → Option ℕ
before_of zero = None
before_of (suc n) = Some n

module _ (named : FrameNamed) (c : Config) (inputs : ℕ → List (List ℕ)) (plan : IsPlan c)
    (has : (n : ℕ) → n < run_length c inputs → HasFrame c inputs n (run_packets c inputs n)) where
  abbrev group_at : ℕ → Group
  group_at n = record { key = frame_key c.frames n; packets = run_packets c inputs n }

  own_number : (n : ℕ) → n < run_length c inputs → n < MOST_FRAMES → number_of (rules c) (before_of n) (group_at n)
      ≡ Some n
  own_number n inside small = elim (cases_Bool (n % c.frames == 0)) [
    | inl t ↦
        let stamps : stamps_of (run_packets c inputs n) ≡ stamp_of c n ∷ [] = rw ((has n inside).stamps, t) refl in
        rw (stamp_told (run_packets c inputs n) ∙ ap (λ (l : List Stamp). nat_lt 0 (length l)) stamps)
        ((named c (group_at n) n plan.rules).1 (record {
          stamp = stamp_of c n;
          first = ap (λ (l : List Stamp). slice_get l 0) stamps;
          small = small;
          emission-is = refl;
          key = refl;
        }))
    | inr t ↦
        let stamps : stamps_of (run_packets c inputs n) ≡ [] = rw ((has n inside).stamps, t) refl in
        rw (stamp_told (run_packets c inputs n) ∙ ap (λ (l : List Stamp). nat_lt 0 (length l)) stamps)
        (next n small (eqb-false (n % c.frames) 0 t))
  ]
    where
      next : (n : ℕ) → n < MOST_FRAMES → (n % c.frames ≡ 0 → ⊥)
          → number_after c.frames (before_of n) (frame_key c.frames n) ≡ Some n
      next zero small later = absurd (later (zero-mod c.frames))
      next (suc n) small later =
          let is : n + 1 ≡ suc n = omega arith in
          let key : Key = frame_key c.frames (suc n) in
          let same : is_same (frame_key c.frames (n + 1)) key ≡ true =
          ap (λ (k : ℕ). is_same (frame_key c.frames k) key) is
          ∙ and_from (suc n / c.frames % 16 == suc n / c.frames % 16) (suc n % c.frames == suc n % c.frames)
          (eq-eqb (suc n / c.frames % 16) (suc n / c.frames % 16) refl)
          (eq-eqb (suc n % c.frames) (suc n % c.frames) refl) in
          cond-true {A = Option ℕ} (nat_lt (n + 1) MOST_FRAMES && is_same (frame_key c.frames (n + 1)) key)
          (Some (n + 1)) None
          (and_from (nat_lt (n + 1) MOST_FRAMES) (is_same (frame_key c.frames (n + 1)) key)
          (lt-ltb (n + 1) MOST_FRAMES (omega arith)) same)
          ∙ ap (λ (k : ℕ). Some k) is

  all_numbered : (j m : ℕ) → m + j ≤ run_length c inputs → run_length c inputs ≤ MOST_FRAMES
      → numbered_from (rules c) (before_of m) (map group_at (range_with_len m j))
      ≡ map (run_event c inputs) (range_with_len m j)
  all_numbered zero m l most = refl
  all_numbered (suc j) m l most =
      let gs : List Group = map group_at (range_with_len (m + 1) j) in
      let g : Group = group_at m in
      let next : Some m ≡ before_of (m + 1) = before_next m in
      ap (λ (o : Option ℕ). event_of o g ++ numbered_from (rules c) o gs) (own_number m (omega arith) (omega arith))
      ∙ ap (λ (es : List FeedEvent). run_event c inputs m ∷ es)
      (ap (λ (o : Option ℕ). numbered_from (rules c) o gs) next ∙ all_numbered j (m + 1) (omega arith) most)
    where
      before_next : (m : ℕ) → Some m ≡ before_of (m + 1)
      before_next m = ap before_of (let e : suc m ≡ m + 1 = omega arith in e)

-- So the events of the whole stream are those of the run.
pub run_stream_events : AcceptedFront → UnitReads → AcceptedSurvive → KeptUndamaged → GroupsAreFrames → LaterNear
    → FramesAreStream → FrameNamed → (c : Config) (inputs : ℕ → List (List ℕ)) → IsPlan c → HasByteIds c
    → run_length c inputs ≤ MOST_FRAMES
    → ((n : ℕ) → n < run_length c inputs → HasFrame c inputs n (run_packets c inputs n))
    → feed_events (rules c) true (joined (pipe c.pid (run_packets_of c inputs))) ≡ run_events c inputs
unfolding feed_events
run_stream_events front reads survive undamaged law near streams named c inputs plan ids most has =
    let n : ℕ = run_length c inputs in
    let s = streams c inputs n plan ids most in
    let packets : List (List ℕ) = run_packets_of c inputs in
    let bytes : List ℕ = joined (pipe c.pid packets) in
    let sent : List Sent = sent_frames c inputs n in
    let accepted : map (λ (a : AcceptedPacket). packet_of a.bytes) (accepted_of c.pid bytes) ≡ packets_of sent =
    rw (
      ← (map-map packet_of (λ (a : AcceptedPacket). a.bytes) (accepted_of c.pid bytes)),
      accepted_are survive undamaged c.pid packets s.pid s.spelled,
      s.reads,
    ) in
    let arrive : arrivals c.pid bytes ≡ map Came (packets_of sent) =
    rw (
      pipe_arrives front reads c.pid packets s.pid,
      ← (map-map Came (λ (a : AcceptedPacket). packet_of a.bytes) (accepted_of c.pid bytes)),
      accepted,
    ) in
    ap (λ (l : List Arrival). events_between (rules c) true (between_idle l)) arrive
    ∙ ap (events_between (rules c) true) (no_idle (packets_of sent))
    ∙ ap (numbered_from (rules c) None) (sent_groups law near c.frames n sent s.some s.frames)
    ∙ all_numbered named c inputs plan has n 0 (omega arith) most
