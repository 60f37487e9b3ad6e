-- What comes of frames that were sent again.
use Rattle.stream_laws.proofs.CarryLemmas.{at_place, twice}
use Rattle.std.proofs.Common.{◌≡◌, ℕ, zero, suc, ◌+◌, ◌-◌, ◌%◌, ◌<◌, ◌≤◌, ◌==◌, ◌&&◌, ◌||◌, Bool, true, false, List, []}
use Rattle.std.proofs.Common.{◌∷◌, ◌++◌, length, map, find, count_by, Option, Some, None, refl, ap, ap₂, sym}
use Rattle.std.proofs.Common.{subst, ◌∙◌, ⊎_elim, arith, append-nil, length-append}
use Rattle.std.specs.Prelude.{if◌then◌else◌}
use Rattle.std.specs.List.{range_with_len, items_where_true, last_or, list_all, AllByRecursion}
use Rattle.std.specs.Option.{option_map_or}
use Rattle.std.proofs.lemmas.Bool.{cases_Bool, cases_lt, cond-true, cond-false, and_from, and_left, eq-eqb, or_parts}
use Rattle.std.proofs.lemmas.Bool.{or_left, le-leb, true≢false}
use Rattle.std.proofs.lemmas.List.{length-map}
use Rattle.std.proofs.lemmas.List.Sums.{length-filter}
use Rattle.std.proofs.lemmas.Option.{same_Some}
use Rattle.terms.proofs.OptionLemmas.{none_some}
use Rattle.bb_frame.specs.Laws.{BitCounts, ScramblesBack}
use Rattle.plp_config.specs.Capacity.{IsPlan}
use Rattle.plp_config.specs.Emission.{emission}
use Rattle.plp_config.specs.InterleavingFrames.{is_first, begin_of}
use Rattle.plp_config.specs.Places.{places}
use Rattle.plp_config.specs.Rules.Rule.{SuperframeLength}
use Rattle.plp_config.specs.declared.config.Config.{Config}
use Rattle.l1_signal.specs.Laws.{PreBitsLength}
use Rattle.t2mi_packet.specs.declared.packet.Body.{Body}
use Rattle.t2mi_packet.specs.declared.packet.Packet.{Packet}
use Rattle.frame_groups.specs.Modulated.{Numbered, FrameRecord, modulated}
use Rattle.frame_groups.specs.Modulated.Content.{Whole, Muted}
use Rattle.frame_groups.specs.declared.cause.MuteCause.TheVariants.{PacketMissing}
use Rattle.frame_groups.specs.Carried.{right_blocks}
use Rattle.frame_groups.specs.TestLaws.{FrameNamed}
use Rattle.frame_groups.specs.Tests.{pool_chunks, room_test, has_begun, packets_fault, rules}
use Rattle.frame_groups.proofs.BegunLemmas.{no_need}
use Rattle.record_laws.specs.Records.{numbers_from}
use Rattle.open_group.specs.Written.{content_view}
use Rattle.site_frame.specs.declared.reading.RecordView.{RecordView}
use Rattle.site_frame.specs.declared.reading.RecordView.TheVariants.{Muted as MutedRecord}
use Rattle.stream_laws.specs.DamageLaws.{Survive, RulesMeet, ModulatedIsRecords, WholeIsAll, NotWholeMisses, IsMet}
use Rattle.stream_laws.specs.SentPackets.{Sent, packets_of, frame_packets, frame_group, AreNear}
use Rattle.stream_laws.specs.Survivors.{is_begun, is_whole, loss_of, sent_content, sent_record, end_of}
use Rattle.stream_laws.specs.Survivors.{survivor_records}
use Rattle.stream_laws.specs.SentFrames.{sent_from}
use Rattle.stream_laws.proofs.BegunLemmas.{Interleaving, place_of_any, begun_met, begin_met}
use Rattle.stream_laws.specs.Carrying.{blocks_in, plp_num_blocks, HaveRoom, has_told, ComesBack, FrameComesBack}
use Rattle.stream_laws.specs.Remade.{NumberedView, view_bodies, frame_pairs, remade_bodies, AreSpacedFrom, RiseFrom}
use Rattle.stream_laws.proofs.BackLemmas.{view_carries}
use Rattle.stream_laws.proofs.PassedLemmas.{passed}
use Rattle.stream_laws.proofs.FormedSignalLemmas.{Knows}
use Rattle.stream_laws.specs.Coming.{remade_sent, frame_at, blocks_at, is_complete, complete_view, view_at, end_after}
use Rattle.stream_laws.specs.Coming.{IsWrittenFrame, RemadeComesBack}
use Rattle.stream_laws.proofs.FullLemmas.{pairs, sent_append, stand_in, full, kept, length-kept, kept_are, filter_full}
use Rattle.stream_laws.proofs.FullLemmas.{lost_by, RisesFrom, Has, Look, look, at_before}
use Rattle.stream_laws.proofs.FullLemmas.Look.{Found, Missing}
use Rattle.stream_laws.proofs.OrderLemmas.{Made, AllMade, order_full, below_full, end_above, some_full, some_bodies}
use Rattle.stream_laws.proofs.OrderLemmas.{near_all}

-- ---- frames that a modulator wrote

written_made : BitCounts → ScramblesBack → PreBitsLength → (knows : Knows) (c : Config) → IsPlan c → (f : NumberedView)
    → IsWrittenFrame c f → Made c f
written_made numbers back law knows c plan f w =
    let packets : List Packet = w.0.packets in
    let p = passed c w.0.past f.number packets w.0.pass in
    record {
      dynamic = p.l1.first.dynamic;
      blocks = λ plp. right_blocks c plp packets;
      is = ap (view_bodies c f.number) w.0.is ∙ view_carries numbers back law knows c f.number plan packets p;
    }

pub all_made : BitCounts → ScramblesBack → PreBitsLength → (knows : Knows) (c : Config) → IsPlan c
    → (fs : List NumberedView)
    → AllByRecursion (IsWrittenFrame c) fs → AllMade c fs
all_made numbers back law knows c plan [] h = tt
all_made numbers back law knows c plan (f ∷ fs) h =
    (written_made numbers back law knows c plan f h.0, all_made numbers back law knows c plan fs h.1)

all_found : (P : NumberedView → Type 0) (n : ℕ) (fs : List NumberedView) (g : NumberedView) → AllByRecursion P fs
    → frame_at n fs ≡ Some g → P g
all_found P n [] g h e = none_some g e
all_found P n (f ∷ fs) g h e = ⊎_elim
    (λ (t : (f.number == n) ≡ true). subst P (same_Some f g (sym (cond-true _ _ _ t) ∙ e)) h.0)
    (λ (t : (f.number == n) ≡ false). all_found P n fs g h.1 (sym (cond-false _ _ _ t) ∙ e))
    (cases_Bool (f.number == n))

rises_from : (m : ℕ) (fs : List NumberedView) → RiseFrom m fs → RisesFrom (m + 1) fs
rises_from m [] r = tt
rises_from m (f ∷ fs) r = let l = r.0 in (omega (arith, l), rises_from f.number fs r.1)

-- ---- the last packet

last_append : (o : Option Sent) (xs ys : List Sent) → last_or o (xs ++ ys) ≡ last_or (last_or o xs) ys
last_append o [] ys = refl
last_append o (x ∷ xs) ys = last_append (Some x) xs ys

abbrev behind_of : Option Sent → ℕ
behind_of o = option_map_or (λ s. s.frame + 1) o 0

own_last : (c : Config) (n number : ℕ) (bodies : List Body) (o : Option Sent) → behind_of o ≡ n + 1
    → behind_of (last_or o (sent_from c number (pairs n bodies))) ≡ n + 1
own_last c n number [] o e = e
own_last c n number (b ∷ bodies) o e = own_last c n (number + 1) bodies _ refl

own_end : (c : Config) (n number : ℕ) (bodies : List Body) (o : Option Sent) → (bodies ≡ [] → ⊥)
    → behind_of (last_or o (sent_from c number (pairs n bodies))) ≡ n + 1
own_end c n number [] o some = absurd (some refl)
own_end c n number (b ∷ bodies) o some = own_last c n (number + 1) bodies _ refl

ends_at : (c : Config) (fs : List NumberedView) (number : ℕ) (o : Option Sent) (e : ℕ) → AllMade c fs → behind_of o ≡ e
    → behind_of (last_or o (sent_from c number (remade_bodies c fs))) ≡ end_after e fs
ends_at c [] number o e made is = is
ends_at c (f ∷ fs) number o e made is =
    let own : List Sent = sent_from c number (frame_pairs c f) in
    let j : ℕ = number + length (frame_pairs c f) in
    rw (sent_append, last_append)
    (ends_at c fs j (last_or o own) (f.number + 1) made.1
    (own_end c f.number number (view_bodies c f.number f.view) o (some_bodies c f made.0)))

-- ---- the first number that passes

find_first : (test : ℕ → Bool) (m : ℕ) → test m ≡ true → (k from : ℕ) → from ≤ m → m < from + k
    → ((n : ℕ) → from ≤ n → n < m → test n ≡ false) → find test (range_with_len from k) ≡ Some m
find_first test m passes zero from a b fails = absurd (omega (arith, a, b))
find_first test m passes (suc k) from a b fails = ⊎_elim
    (λ (t : test from ≡ true).
    let same : from ≡ m = ⊎_elim (λ (l : from < m). absurd (true≢false (sym t ∙ fails from (omega arith) l)))
    (λ (l : m ≤ from). omega (arith, l, a)) (cases_lt from m) in
    cond-true {A = Option ℕ} (test from) (Some from) (find test (range_with_len (from + 1) k)) t
    ∙ ap (λ (i : ℕ). Some i) same)
    (λ (t : test from ≡ false).
    let next : from ≡ m → ⊥ = λ e. true≢false (sym passes ∙ ap test (sym e) ∙ t) in
    cond-false {A = Option ℕ} (test from) (Some from) (find test (range_with_len (from + 1) k)) t
    ∙ find_first test m passes k (from + 1) (omega (arith, a, next)) (omega (arith, b))
    (λ n l r. fails n (omega (arith, l)) r))
    (cases_Bool (test from))

-- ---- tests of all PLPs

or_right : (t u : Bool) → (t || u) ≡ true → t ≡ false → u ≡ true
or_right true u e n = absurd (true≢false n)
or_right false u e n = e

and_false : (t : Bool) → (t && false) ≡ false
and_false true = refl
and_false false = refl

all_pass : (test : ℕ → Bool) (a k : ℕ) → ((plp : ℕ) → a ≤ plp → plp < a + k → test plp ≡ true)
    → list_all test (range_with_len a k) ≡ true
all_pass test a zero h = refl
all_pass test a (suc k) h =
    and_from _ _ (h a (omega arith) (omega arith))
    (all_pass test (a + 1) k (λ plp l m. h plp (omega (arith, l)) (omega (arith, m))))

-- a PLP that does not
some_fails : (test : ℕ → Bool) (a k : ℕ) → list_all test (range_with_len a k) ≡ false
    → (plp : ℕ) × (plp < a + k) × (test plp ≡ false)
some_fails test a zero e = absurd (true≢false e)
some_fails test a (suc k) e = ⊎_elim
    (λ (t : test a ≡ true).
    let more = some_fails test (a + 1) k
    (sym (ap (λ (b : Bool). b && list_all test (range_with_len (a + 1) k)) t) ∙ e) in
    let l = more.1 in
    (more.0, omega (arith, l), more.2))
    (λ (t : test a ≡ false). (a, omega arith, t))
    (cases_Bool (test a))

-- no packets have room
room_none : (c : Config) → room_test c [] ≡ None
unfolding room_test
room_none c = rw (no_need c, le-leb 0 (pool_chunks c) (omega arith)) refl

-- so many packets are of a frame
counted : (n : ℕ) (sent : List Sent) → count_by (λ (s : Sent). s.frame == n) sent ≡ length (frame_packets n sent)
counted n sent = grind (arith, length-filter, length-map)

-- ---- all of it

module _ (law : ModulatedIsRecords) (all : WholeIsAll) (misses : NotWholeMisses) (named : FrameNamed)
    (laws : Interleaving)
    (back : FrameComesBack) (c : Config) (f : NumberedView) (fs : List NumberedView) (plan : IsPlan c)
    (written : AllByRecursion (IsWrittenFrame c) (f ∷ fs)) (made : AllMade c (f ∷ fs)) (rises : RisesFrom 0 (f ∷ fs))
    (spaced : AreSpacedFrom c f.number fs) (begins : f.number % c.frames ≡ 0) where
  abbrev frames : List NumberedView
  frames = f ∷ fs

  abbrev sent : List Sent
  sent = full c frames 0 0 frames

  abbrev survival : List Bool
  survival = kept c frames 0 frames

  abbrev ss : List Sent
  ss = remade_sent c frames

  abbrev end : ℕ
  end = end_after 0 frames

  abbrev complete : NumberedView → Bool
  complete g = is_complete c frames g

  abbrev There : ℕ → NumberedView → Type 0
  There n g = Has c frames n 0 0 frames g

  left : items_where_true survival sent ≡ ss
  left = kept_are c frames 0 0 frames

  some_frames : 0 < c.frames
  some_frames = let r : (2 ≤ c.frames) × (c.frames ≤ 255) = plan.rules SuperframeLength in omega (arith, r.0)

  told : length survival ≡ length sent
  told = length-kept c frames 0 0 frames

  survive : Survive c.frames end sent survival
  survive = record {
    some = some_frames;
    sent_are = record {
      order = order_full c frames frames 0 0 None rises made tt;
      below = below_full c frames frames 0 0 end rises (omega arith);
      some = λ n l. some_full c frames n frames 0 0 rises made (omega arith) l;
    };
    told = told;
    near = subst (AreNear c.frames None) (sym left) (near_all c f fs some_frames spaced made);
  }

  abbrev whole : ℕ → Bool
  whole n = is_whole c sent survival n

  -- all packets of a complete frame are left
  all_left : (n : ℕ) (g : NumberedView) → There n g → complete g ≡ true → frame_packets n sent ≡ frame_packets n ss
  all_left n g h e = grind (arith, lost_by, append-nil)

  no_block : (plp n m : ℕ) → is_begun c plp n (stand_in c m) ≡ false
  no_block plp n m = and_false ((stand_in c m).frame == begin_of c plp n)

  -- and what it carries besides
  begun_left : (plp n : ℕ) → count_by (is_begun c plp n) sent ≡ count_by (is_begun c plp n)
      (items_where_true survival sent)
  begun_left plp n =
      sym (length-filter (is_begun c plp n) sent)
      ∙ ap length (filter_full c frames (is_begun c plp n) (no_block plp n) 0 0 frames)
      ∙ length-filter (is_begun c plp n) ss
      ∙ sym (ap (count_by (is_begun c plp n)) left)

  own_left : (n : ℕ) (g : NumberedView) → There n g → complete g ≡ true
      → count_by (λ (s : Sent). s.frame == n) sent ≡ count_by (λ (s : Sent). s.frame == n)
      (items_where_true survival sent)
  own_left n g h e =
      counted n sent ∙ ap length (all_left n g h e) ∙ sym (counted n ss)
      ∙ sym (ap (count_by (λ (s : Sent). s.frame == n)) left)

  found_whole : (n : ℕ) (g : NumberedView) → There n g → complete g ≡ true → whole n ≡ true
  found_whole n g h e = ⊎_elim (λ (t : whole n ≡ true). t)
      (λ (w : whole n ≡ false).
      let m = misses c sent survival n w in
      ⊎_elim
      (λ (own : (m.packet.frame == n) ≡ true).
      let l = m.fewer (λ (s : Sent). s.frame == n) own in
      let same = own_left n g h e in
      absurd (omega (arith, l, same)))
      (λ (other : (m.packet.frame == n) ≡ false).
      let one = place_of_any c (λ plp. is_begun c plp n m.packet)
      (or_right _ _ m.passing other) in
      let l = m.fewer (is_begun c one.0 n) one.2 in
      let same = begun_left one.0 n in
      absurd (omega (arith, l, same)))
      (cases_Bool (m.packet.frame == n)))
      (cases_Bool (whole n))

  -- a whole frame has lost none of its packets
  whole_left : (n : ℕ) → whole n ≡ true → frame_packets n ss ≡ frame_packets n sent
  whole_left n w = grind (arith, left, told, or_left)

  whole_found : (n : ℕ) → n < end → whole n ≡ true → (g : NumberedView) × There n g × (complete g ≡ true)
  whole_found n l w = go (look c frames n 0 0 frames rises (omega arith))
    where
      one_more : (g : NumberedView) → There n g → complete g ≡ false → ⊥
      one_more g h e =
          let size = ap length (whole_left n w ∙ h.more
          ∙ ap (λ (t : Bool). frame_packets n ss ++ packets_of (lost_by c g.number t)) e) in
          let both = length-append (frame_packets n ss) (packets_of (lost_by c g.number false)) in
          omega (arith, size, both)

      go : Look c frames n 0 0 frames → (g : NumberedView) × There n g × (complete g ≡ true)
      go (Found g h) = ⊎_elim
          (λ (e : complete g ≡ true). (g, h, e))
          (λ (e : complete g ≡ false). absurd (one_more g h e))
          (cases_Bool (complete g))
      go (Missing h) = absurd (some_full c frames n frames 0 0 rises made (omega arith) l (sym (whole_left n w)
          ∙ h.gone))

  -- what is to be said of a frame that is not whole: it is there and not complete, or it is not there
  not_complete : (n : ℕ) (g : NumberedView) → whole n ≡ false → There n g → complete g ≡ false
  not_complete n g w h = grind (arith, true≢false, found_whole, cases_Bool)

  comes : (n : ℕ) (g : NumberedView) → There n g → ComesBack c n g.view (frame_packets n ss)
  comes n g h =
      let w = all_found (IsWrittenFrame c) n frames g written h.found in
      subst (λ (k : ℕ). ComesBack c k g.view (frame_packets n ss)) h.number_is
      (back c g.number g.view (frame_packets n ss) plan w.0 h.carried)

  -- ---- behind what is left of the frames before

  room_at : (b : ℕ) → room_test c (frame_packets b ss) ≡ None
  room_at b = go (look c frames b 0 0 frames rises (omega arith))
    where
      go : Look c frames b 0 0 frames → room_test c (frame_packets b ss) ≡ None
      go (Found g h) = (comes b g h).room
      go (Missing h) = ap (room_test c) h.gone ∙ room_none c

  begun_at : (b plp told : ℕ) → plp < length c.plps
      → has_begun c plp (frame_packets b ss) told ≡ (blocks_at c plp frames b == told)
  begun_at b plp told inside = go (look c frames b 0 0 frames rises (omega arith))
    where
      go : Look c frames b 0 0 frames → has_begun c plp (frame_packets b ss) told ≡ (blocks_at c plp frames b == told)
      go (Found g h) =
          (comes b g h).blocks plp told inside
          ∙ sym (ap (λ (o : Option NumberedView). option_map_or (λ f. blocks_in c plp f.view) o 0 == told) h.found)
      go (Missing h) =
          ap (λ (l : List Packet). has_begun c plp l told) h.gone ∙ twice (0 == told)
          ∙ sym (ap (λ (o : Option NumberedView). option_map_or (λ f. blocks_in c plp f.view) o 0 == told) h.none)

  module _ (first n : ℕ) (past : List Numbered) (met : IsMet c.frames first n (items_where_true survival sent)
      past) where
    rooms : HaveRoom c past n
    rooms b below e =
        ap (room_test c) (begin_met laws c plan first n (items_where_true survival sent) past met b below e
        ∙ ap (frame_packets b) left)
        ∙ room_at b

    told_is : (g : NumberedView) → There n g → (plp : ℕ) → plp < length c.plps → is_first c plp n ≡ false
        → has_told c n g.view past plp ≡ (blocks_at c plp frames (begin_of c plp n) == plp_num_blocks c plp g.view)
    told_is g h plp inside e = grind (arith, begun_met, left, begun_at)

    -- a frame is complete, by the PLPs, if it is there
    abbrev place_complete : NumberedView → ℕ → ℕ → Bool
    place_complete g k plp = is_first c plp k || (blocks_at c plp frames (begin_of c plp k) == plp_num_blocks
        c plp g.view)

    passes : whole n ≡ true → n < end → packets_fault c past n (frame_packets n sent) ≡ None
    passes w l =
        let x = whole_found n l w in
        let g : NumberedView = x.0 in
        let h : There n g = x.1 in
        let each : list_all (place_complete g n) (places c) ≡ true =
        subst (λ (k : ℕ). list_all (place_complete g k) (places c) ≡ true) h.number_is x.2 in
        ap (packets_fault c past n) (all_left n g h x.2)
        ∙ (comes n g h).pass past rooms
        (λ plp inside e.
        told_is g h plp inside e
        ∙ or_right _ _ (at_place (place_complete g n) (length c.plps) plp each inside) e)

    lacks : whole n ≡ false → packets_fault c past n (frame_packets n (items_where_true survival sent)) ≡ Some
        PacketMissing
    lacks w = go (look c frames n 0 0 frames rises (omega arith))
      where
        found_lacks : (g : NumberedView) → There n g → packets_fault c past n (frame_packets n ss) ≡ Some PacketMissing
        found_lacks g h =
            let none : list_all (place_complete g n) (places c) ≡ false =
            subst (λ (k : ℕ). list_all (place_complete g k) (places c) ≡ false) h.number_is (not_complete n g w h) in
            let one = some_fails (place_complete g n) 0 (length c.plps) none in
            let l = one.1 in
            let inside : one.0 < length c.plps = omega (arith, l) in
            let parts = or_parts _ _ one.2 in
            (comes n g h).lacks past one.0 rooms inside parts.0 (told_is g h one.0 inside parts.0 ∙ parts.1)

        go : Look c frames n 0 0 frames
            → packets_fault c past n (frame_packets n (items_where_true survival sent)) ≡ Some PacketMissing
        go (Found g h) = ap (λ (l : List Sent). packets_fault c past n (frame_packets n l)) left ∙ found_lacks g h
        go (Missing h) = absurd (met.some (ap (frame_packets n) left ∙ h.gone))

  -- a frame that begins a superframe is complete
  begins_complete : (n : ℕ) (g : NumberedView) → There n g → n % c.frames ≡ 0 → complete g ≡ true
  begins_complete n g h b =
      subst (λ (k : ℕ).
      list_all (λ plp. is_first c plp k || (blocks_at c plp frames (begin_of c plp k) == plp_num_blocks c plp g.view))
      (places c)
      ≡ true)
      (sym h.number_is)
      (all_pass (λ plp. is_first c plp n || (blocks_at c plp frames (begin_of c plp n) == plp_num_blocks c plp g.view))
      0
      (length c.plps)
      (λ plp low high. or_left _ _ (laws.superframe c plp n plan.rules (omega (arith, high)) b)))

  gone_first : (n : ℕ) → n % c.frames ≡ 0 → whole n ≡ false → frame_packets n ss ≡ []
  gone_first n b w = go (look c frames n 0 0 frames rises (omega arith))
    where
      go : Look c frames n 0 0 frames → frame_packets n ss ≡ []
      go (Found g h) = absurd (true≢false (sym (found_whole n g h (begins_complete n g h b)) ∙ w))
      go (Missing h) = h.gone

  meet : RulesMeet (rules c) end sent survival
  meet = record {
    network = refl;
    key = λ g n e. ((named c g n plan.rules).0 e).key;
    names = λ n l b w.
        let x = whole_found n l w in
        let small = (all_found (IsWrittenFrame c) n frames x.0 written x.1.found).1 in
        let same = x.1.number_is in
        subst (λ (packets : List Packet). (rules c).named
        (record { key = (frame_group c.frames sent n).key; packets = packets })
        ≡ Some n)
        (sym (all_left n x.0 x.1 x.2)) ((comes n x.0 x.1).names b (omega (arith, small, same)));
    passes = λ first n past l met w. passes first n past met w l;
    lacks = λ first n past l met w. lacks first n past met w;
    fails = λ n m l b same w some. absurd (some (ap (frame_packets n) left ∙ gone_first n b w));
  }

  records : modulated (rules c) (packets_of ss) ≡ survivor_records c sent survival
  records = ap (λ (l : List Sent). modulated (rules c) (packets_of l)) (sym left)
      ∙ law (rules c) end sent survival survive meet

  end_is : end_of (items_where_true survival sent) ≡ end
  end_is = ap end_of left ∙ ends_at c frames 0 None 0 made refl

  abbrev joins : ℕ → Bool
  joins n = whole n && (n % c.frames == 0)

  first_there : There f.number f
  first_there = go (look c frames f.number 0 0 frames rises (omega arith))
    where
      at : frame_at f.number frames ≡ Some f
      at = rw (eq-eqb f.number f.number refl) refl

      go : Look c frames f.number 0 0 frames → There f.number f
      go (Found g h) = subst (There f.number) (same_Some g f (sym h.found ∙ at)) h
      go (Missing h) = none_some f (sym h.none ∙ at)

  first_whole : whole f.number ≡ true
  first_whole = found_whole f.number f first_there (begins_complete f.number f first_there begins)

  last_above : f.number < end
  last_above = let l = end_above (f.number + 1) fs rises.1 in omega (arith, l)

  earlier_lost : (n : ℕ) → n < f.number → whole n ≡ false
  earlier_lost n l = grind (arith, last_above, whole_found, none_some, at_before, cases_Bool)

  first : find joins (range_with_len 0 end) ≡ Some f.number
  first =
      let above = last_above in
      find_first joins f.number
      (and_from _ _ first_whole (eq-eqb _ _ begins))
      end 0 (omega arith) (omega (arith, above)) (λ n a l. and_left _ _ (earlier_lost n l))

  abbrev view : FrameRecord → RecordView
  view x = content_view c x.number x.content

  one_view : (n : ℕ) → n < end → content_view c n (sent_content c sent survival n) ≡ view_at c frames n
  one_view n l = go (whole n) refl
    where
      muted : Look c frames n 0 0 frames → whole n ≡ false → MutedRecord (emission c n) ≡ view_at c frames n
      muted (Found g h) w =
          sym (ap (complete_view c frames n) h.found
          ∙ cond-false _ _ _ (not_complete n g w h))
      muted (Missing h) w = sym (ap (complete_view c frames n) h.none)

      go : (t : Bool) → whole n ≡ t
          → content_view c n (if t then Whole (frame_group c.frames sent n)
          else Muted (loss_of (frame_packets n (items_where_true survival sent)))) ≡ view_at c frames n
      go true w =
          let x = whole_found n l w in
          ap (λ (packets : List Packet). content_view c n
          (Whole (record { key = (frame_group c.frames sent n).key; packets = packets })))
          (all_left n x.0 x.1 x.2)
          ∙ (comes n x.0 x.1).is
          ∙ sym (ap (complete_view c frames n) x.1.found
          ∙ cond-true _ _ _ x.2)
      go false w = muted (look c frames n 0 0 frames rises (omega arith)) w

  views : (k a : ℕ) → a + k ≤ end → map view (map (sent_record c sent survival) (range_with_len a k))
      ≡ map (view_at c frames) (range_with_len a k)
  views zero a l = refl
  views (suc k) a l = ap₂ (λ (v : RecordView) (l : List RecordView). v ∷ l) (one_view a (omega (arith, l)))
      (views k (a + 1) (omega (arith, l)))

  pub come_back : map (λ (x : FrameRecord). content_view c x.number x.content)
      (modulated (rules c) (packets_of (remade_sent c (f ∷ fs))))
      ≡ map (view_at c (f ∷ fs)) (range_with_len f.number (end_after 0 (f ∷ fs) - f.number))
  come_back =
      let above = last_above in
      ap (map view) records
      ∙ ap (λ (e : ℕ). map view (map (sent_record c sent survival) (numbers_from e (find joins (range_with_len 0 e)))))
      end_is
      ∙ ap (λ (o : Option ℕ). map view (map (sent_record c sent survival) (numbers_from end o))) first
      ∙ views (end - f.number) f.number (omega (arith, above))

pub remade_comes_back : BitCounts → ScramblesBack → PreBitsLength → Knows → ModulatedIsRecords → WholeIsAll
    → NotWholeMisses
    → FrameNamed → Interleaving → FrameComesBack → RemadeComesBack
remade_comes_back numbers scr pre knows law all misses named laws back c f fs plan written rise spaced begins =
    come_back law all misses named laws back c f fs plan written (all_made numbers scr pre knows c plan
    (f ∷ fs) written)
    (omega arith, rises_from f.number fs rise) spaced begins
