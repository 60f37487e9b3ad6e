-- What survives of a frame of which a packet is missing, and what the tests say of it.
use Rattle.std.proofs.Common.{◌≡◌, ℕ, zero, suc, ◌+◌, ◌-◌, ◌%◌, ◌<◌, ◌≤◌, ◌==◌, ◌&&◌, ◌||◌, not, Bool, true, false}
use Rattle.std.proofs.Common.{cond, List, [], ◌∷◌, map, length, Option, Some, None, refl, ap, sym, subst, ◌∙◌, ◌⊎◌}
use Rattle.std.proofs.Common.{⊎_elim, arith}
use Rattle.std.specs.Prelude.{slice_get, slice_index, nat_lt, is_some, count_by}
use Rattle.std.specs.List.{filter, filter_map, cons_option, flat_map, range_with_len, items_where_true, list_all}
use Rattle.std.specs.List.{AllByRecursion}
use Rattle.std.specs.Option.{option_or, option_and_then}
use Rattle.std.proofs.lemmas.Bool.{and_from, and_parts, cases_Bool, cond_both, cond-true, cond-false, eq-eqb, eqb-true}
use Rattle.std.proofs.lemmas.Bool.{eqb-false, ltb-true, true_from_ne_false, true≢false, false≢true, both_ways}
use Rattle.std.proofs.lemmas.List.Elements.{All-from_recursion, All-contains}
use Rattle.std.proofs.lemmas.List.Sums.{sum_by-cons, length-filter, count_by-le-length}
use Rattle.terms.proofs.AllLemmas.{all_append}
use Rattle.terms.proofs.OptionLemmas.{none_if}
use Rattle.stream_laws.proofs.MadeLemmas.{all_bodies}
use Rattle.plp_config.specs.Capacity.{IsPlan}
use Rattle.plp_config.specs.InterleavingFrames.{is_first, begin_of}
use Rattle.plp_config.specs.Plps.{plp_at}
use Rattle.plp_config.specs.declared.config.Config.{Config}
use Rattle.t2mi_packet.specs.declared.packet.Body.{Body}
use Rattle.t2mi_packet.specs.declared.packet.Body.TheVariants.{Block, Timestamp}
use Rattle.t2mi_packet.specs.declared.packet.Packet.{Packet}
use Rattle.t2mi_packet.specs.declared.packet.Stamp.{Stamp}
use Rattle.mode_adapt.specs.Blocks.{own_blocks, told_count, told_counts}
use Rattle.record_laws.specs.Frames.{frame_shape}
use Rattle.frame_groups.specs.Modulated.{Numbered}
use Rattle.frame_groups.specs.declared.cause.MuteCause.{MuteCause}
use Rattle.frame_groups.specs.declared.cause.MuteCause.TheVariants.{PacketMissing}
use Rattle.frame_groups.specs.Begun.{packets_at}
use Rattle.frame_groups.specs.Carried.{body_block, has_length, blocks_of, right_blocks, L1Parts, body_l1, l1s_of}
use Rattle.frame_groups.specs.Carried.{body_stamp, stamps_of}
use Rattle.frame_groups.specs.Tests.{unless, begins_superframe, pool_test, missing_test, l1_test, time_test, l1_shape}
use Rattle.frame_groups.specs.Tests.{first_shape, has_begun, has_count, has_counts, is_known, blocks_test, map_test}
use Rattle.frame_groups.specs.Tests.{packets_fault}
use Rattle.frame_writer.specs.FramePackets.{stamp_of}
use Rattle.gateway_core.specs.Packets.{block_bodies, frame_bodies}
use Rattle.stream_laws.specs.SentPackets.{Sent, packets_of, frame_packets, frame_group}
use Rattle.stream_laws.specs.Survivors.{is_begun, carries, is_whole}
use Rattle.stream_laws.specs.DamageLaws.{Misses, NotWholeMisses, WholeIsAll, IsMet}
use Rattle.stream_laws.proofs.CarryLemmas.{at_place, own_stamps, time_passes}
use Rattle.stream_laws.specs.FrameLaws.{FrameCarries, TestsMeet}
use Rattle.stream_laws.specs.SentFrames.{sent_frames}
use Rattle.stream_laws.specs.Types.{TypesFit}
use Rattle.stream_laws.proofs.BlockLemmas.{count_at}
use Rattle.stream_laws.proofs.FrameSignalLemmas.{frame_parts}
use Rattle.stream_laws.proofs.SentLemmas.{l1_of}
use Rattle.stream_laws.proofs.CarriedLemmas.{HasFrame, has_frame}
use Rattle.stream_laws.proofs.BegunLemmas.{place_of_any, begun_here, block_some, HaveBegun, begin_met, begun_met}
use Rattle.stream_laws.proofs.BegunLemmas.{begun_own, begun_before, have_begun}
use Rattle.stream_laws.proofs.PassLemmas.{Given, AreFew, HaveRoom, pool_passes, l1_passes, parts_tell, own_few, passes}
use Rattle.frame_groups.specs.declared.key.Key.{Key}
use Rattle.frame_groups.specs.TestLaws.{FrameNamed}

-- ---- what survives of a frame are some of its packets

pub record SomeOf (packets all : List Packet) : Type 0 where
  pub flags : List Bool
  pub are : packets ≡ items_where_true flags all

pub some_left : (n : ℕ) (sent : List Sent) (survival : List Bool)
    → SomeOf (frame_packets n (items_where_true survival sent))
    (frame_packets n sent)
some_left n sent [] = record { flags = []; are = refl }
some_left n [] (b ∷ survival) = record { flags = []; are = refl }
some_left n (s ∷ sent) (true ∷ survival) = go (s.frame == n) (some_left n sent survival)
  where
    go : (t : Bool) → SomeOf (frame_packets n (items_where_true survival sent)) (frame_packets n sent)
        → SomeOf
        (packets_of (cond t (s ∷ filter (λ (x : Sent). x.frame == n) (items_where_true survival sent))
        (filter (λ (x : Sent). x.frame == n) (items_where_true survival sent))))
        (packets_of (cond t (s ∷ filter (λ (x : Sent). x.frame == n) sent) (filter (λ (x : Sent). x.frame == n) sent)))
    go true more = record { flags = true ∷ more.flags; are = ap (λ (l : List Packet). s.packet ∷ l) more.are }
    go false more = more
some_left n (s ∷ sent) (false ∷ survival) = go (s.frame == n) (some_left n sent survival)
  where
    go : (t : Bool) → SomeOf (frame_packets n (items_where_true survival sent)) (frame_packets n sent)
        → SomeOf (frame_packets n (items_where_true survival sent))
        (packets_of (cond t (s ∷ filter (λ (x : Sent). x.frame == n) sent) (filter (λ (x : Sent). x.frame == n) sent)))
    go true more = record { flags = false ∷ more.flags; are = more.are }
    go false more = more

-- what holds of all that packets carry holds of what some of them carry
keep_all : {Y : Type 0} (P : Y → Type 0) (o : Option Y) (xs ys : List Y) → (AllByRecursion P ys → AllByRecursion P xs)
    → AllByRecursion P (cons_option o ys) → AllByRecursion P (cons_option o xs)
keep_all P None xs ys more h = more h
keep_all P (Some y) xs ys more h = (h.0, more h.1)

drop_first : {Y : Type 0} (P : Y → Type 0) (o : Option Y) (ys : List Y) → AllByRecursion P (cons_option o ys)
    → AllByRecursion P ys
drop_first P None ys h = h
drop_first P (Some y) ys h = h.1

all_flagged : {X Y : Type 0} (P : Y → Type 0) (f : X → Option Y) (flags : List Bool) (xs : List X)
    → AllByRecursion P (filter_map f xs) → AllByRecursion P (filter_map f (items_where_true flags xs))
all_flagged P f [] xs h = tt
all_flagged P f (b ∷ flags) [] h = tt
all_flagged P f (true ∷ flags) (x ∷ xs) h = keep_all P (f x) (filter_map f (items_where_true flags xs))
    (filter_map f xs)
    (all_flagged P f flags xs) h
all_flagged P f (false ∷ flags) (x ∷ xs) h = all_flagged P f flags xs (drop_first P (f x) (filter_map f xs) h)

all_of_some : {Y : Type 0} (P : Y → Type 0) (f : Packet → Option Y) (packets all : List Packet) → SomeOf packets all
    → AllByRecursion P (filter_map f all) → AllByRecursion P (filter_map f packets)
all_of_some P f packets all s h = rw s.are (all_flagged P f s.flags all h)

-- and they carry no more
pub keep_fewer : {Y : Type 0} (o : Option Y) (xs ys : List Y) → length xs ≤ length ys → length (cons_option o xs)
    ≤ length (cons_option o ys)
keep_fewer None xs ys l = l
keep_fewer (Some y) xs ys l = omega (arith, l)

pub more_first : {Y : Type 0} (o : Option Y) (ys : List Y) → length ys ≤ length (cons_option o ys)
more_first None ys = omega arith
more_first (Some y) ys = omega arith

pub fewer_flagged : {X Y : Type 0} (f : X → Option Y) (flags : List Bool) (xs : List X)
    → length (filter_map f (items_where_true flags xs)) ≤ length (filter_map f xs)
fewer_flagged f [] xs = omega arith
fewer_flagged f (b ∷ flags) [] = omega arith
fewer_flagged f (true ∷ flags) (x ∷ xs) = keep_fewer (f x) (filter_map f (items_where_true flags xs)) (filter_map f xs)
    (fewer_flagged f flags xs)
fewer_flagged f (false ∷ flags) (x ∷ xs) = let a = fewer_flagged f flags xs in let b = more_first (f x)
    (filter_map f xs) in
    omega (arith, a, b)

fewer_of_some : {Y : Type 0} (f : Packet → Option Y) (packets all : List Packet) → SomeOf packets all
    → length (filter_map f packets) ≤ length (filter_map f all)
fewer_of_some f packets all s = rw s.are (fewer_flagged f s.flags all)

-- ---- what is lacking

-- What survives of frame n, behind groups with numbers, lacks as frame k a timestamp, an L1-current, a block of a PLP
-- of which an interleaving frame begins in k, or one of an interleaving frame that began before.
pub data Lacks (c : Config) (inputs : ℕ → List (List ℕ)) (past : List Numbered) (n k : ℕ) (left : List Packet) :
    Type 0 where
  NoStamp : begins_superframe c k ≡ true → length (stamps_of left) ≡ 0 → Lacks c inputs past n k left
  NoL1 : length (l1s_of left) ≡ 0 → Lacks c inputs past n k left
  FewBlocks : (plp : ℕ) → plp < length c.plps → is_first c plp k ≡ true
      → length (blocks_of c plp left) < told_count c inputs n plp → Lacks c inputs past n k left
  FewBegun : (plp : ℕ) → plp < length c.plps → is_first c plp k ≡ false
      → length (blocks_of c plp (packets_at past (begin_of c plp k))) < told_count c inputs n plp
      → Lacks c inputs past n k left

-- Frame k begins what frame n does.
pub record BeginsAll (c : Config) (n k : ℕ) : Type 0 where
  pub superframe : begins_superframe c n ≡ true → begins_superframe c k ≡ true
  pub plps : (plp : ℕ) → plp < length c.plps → is_first c plp n ≡ true → is_first c plp k ≡ true

-- blocks that are sent in a frame are those of an interleaving frame that begins in it
own_begins : (c : Config) (inputs : ℕ → List (List ℕ)) (n plp : ℕ) → 0 < length (own_blocks c inputs n plp)
    → (is_first c plp n ≡ true) × (length (own_blocks c inputs n plp) ≡ told_count c inputs n plp)
own_begins c inputs n plp some = grind (arith, cond-true, cond-false, cases_Bool)

count_some : {X Y : Type 0} (f : X → Option Y) (xs : List X) → count_by (λ x. is_some (f x)) xs ≡ length
    (filter_map f xs)
count_some f [] = refl
count_some {Y = Y} f (x ∷ xs) = sum_by-cons (λ y. cond (is_some (f y)) 1 0) x xs ∙ go (f x) (count_some f xs)
  where
    go : (o : Option Y) → count_by (λ x. is_some (f x)) xs ≡ length (filter_map f xs)
        → cond (is_some o) 1 0 + count_by (λ x. is_some (f x)) xs ≡ length (cons_option o (filter_map f xs))
    go None e = omega (arith, e)
    go (Some y) e = omega (arith, e)

unmapped : {X Y : Type 0} (P : Y → Type 0) (f : X → Y) (xs : List X) → AllByRecursion P (map f xs)
    → AllByRecursion (λ x. P (f x)) xs
unmapped P f [] h = tt
unmapped P f (x ∷ xs) h = (h.0, unmapped P f xs h.1)

module _ (c : Config) (inputs : ℕ → List (List ℕ)) (past : List Numbered) (n k : ℕ) (like : BeginsAll c n k)
    (all left : List Packet) (has : HasFrame c inputs n all) where
  -- Of packets with this body, by whatever test of bodies, fewer are left.
  abbrev Fewer : Body → Type 0
  Fewer b = (test : Body → Bool) → test b ≡ true → count_by (λ (p : Packet). test p.body) left
      < count_by (λ (p : Packet). test p.body) all

  abbrev Tells : Body → Type 0
  Tells b = Fewer b → Lacks c inputs past n k left

  fewer_by : {Y : Type 0} (f : Body → Option Y) (b : Body) → is_some (f b) ≡ true → Fewer b
      → length (filter_map (λ (p : Packet). f p.body) left) < length (filter_map (λ (p : Packet). f p.body) all)
  fewer_by f b e fewer =
      let l = fewer (λ (b : Body). is_some (f b)) e in
      let x = count_some (λ (p : Packet). f p.body) left in
      let y = count_some (λ (p : Packet). f p.body) all in
      omega (arith, l, x, y)

  own_is : (id : ℕ) (b : List Bool) → is_some {T = List Bool} (cond (id == id) (Some b) None) ≡ true
  own_is id b = rw (eq-eqb id id refl) refl

  tell_blocks : (plp : ℕ) (first : Bool) (bs : List (List Bool)) → plp < length c.plps
      → AllByRecursion Tells (block_bodies (n % c.frames) (plp_at c.plps plp).id first bs)
  tell_blocks plp first [] inside = tt
  tell_blocks plp first (b ∷ bs) inside = (
    (λ fewer.
        let l = fewer_by (body_block (plp_at c.plps plp).id) (Block (n % c.frames) (plp_at c.plps plp).id first b)
        (own_is (plp_at c.plps plp).id b) fewer in
        let e = ap length (has.blocks plp inside) in
        let own = own_begins c inputs n plp (omega (arith, l, e)) in
        let told = own.1 in
        FewBlocks plp inside (like.plps plp inside own.0) (omega (arith, l, e, told))),
    tell_blocks plp false bs inside,
  )

  tell_plps : (a count : ℕ) → a + count ≤ length c.plps
      → AllByRecursion Tells
      (flat_map (λ plp. block_bodies (n % c.frames) (plp_at c.plps plp).id true (own_blocks c inputs n plp))
      (range_with_len a count))
  tell_plps a zero l = tt
  tell_plps a (suc count) l =
      all_append Tells (block_bodies (n % c.frames) (plp_at c.plps a).id true (own_blocks c inputs n a))
      (flat_map (λ plp. block_bodies (n % c.frames) (plp_at c.plps plp).id true (own_blocks c inputs n plp))
      (range_with_len (a + 1) count))
      (tell_blocks a true (own_blocks c inputs n a) (omega (arith, l))) (tell_plps (a + 1) count (omega (arith, l)))

  tell_l1 : Tells (l1_of c n (told_counts c inputs n))
  tell_l1 fewer =
      let l = fewer_by body_l1 (l1_of c n (told_counts c inputs n)) refl fewer in
      let e = ap length has.l1s in
      NoL1 (omega (arith, l, e))

  tell_stamp : begins_superframe c n ≡ true → Tells (Timestamp (stamp_of c n))
  tell_stamp begins fewer =
      let l = fewer_by body_stamp (Timestamp (stamp_of c n)) refl fewer in
      let e = ap length (has.stamps ∙ cond-true {A = List Stamp} (begins_superframe c n) (stamp_of c n ∷ [])
      [] begins) in
      NoStamp (like.superframe begins) (omega (arith, l, e))

  tell_all : AllByRecursion Tells (frame_bodies c n (told_counts c inputs n) (own_blocks c inputs n))
  tell_all =
      let rest = tell_plps 0 (length c.plps - 0) (omega arith) in
      cond_both {A = List Body} (n % c.frames == 0) _ _ (AllByRecursion Tells) (λ t. (tell_stamp t, (tell_l1, rest)))
      (λ t. (tell_l1, rest))

  pub tell_packet : all_bodies all ≡ frame_bodies c n (told_counts c inputs n) (own_blocks c inputs n)
      → AllByRecursion (λ (p : Packet). Tells p.body) all
  tell_packet is = unmapped Tells (λ (p : Packet). p.body) all (subst (AllByRecursion Tells) (sym is) tell_all)

-- ---- the tests of what survives

or_right_of : (t u : Bool) → (not t || u) ≡ true → t ≡ true → u ≡ true
or_right_of true u h e = h
or_right_of false u h e = absurd (false≢true e)

none_parts : (a rest : Option MuteCause) → is_some (option_or a rest) ≡ false → (a ≡ None) × (is_some rest ≡ false)
none_parts None rest h = (refl, h)
none_parts (Some cause) rest h = absurd (true≢false h)

-- the first test that fails is one of two, if these do not both hold and the others do
missing_first : (pool l1 time last : Option MuteCause) (b e : Bool) → pool ≡ None → l1 ≡ None → time ≡ None
    → (b ≡ true → e ≡ true → ⊥)
    → option_or pool
    (option_or (unless b PacketMissing) (option_or l1 (option_or time (option_or (unless e PacketMissing) last))))
    ≡ Some PacketMissing
missing_first pool l1 time last true true p q r h = absurd (h refl refl)
missing_first pool l1 time last true false p q r h = rw (p, q, r) refl
missing_first pool l1 time last false e p q r h = rw p refl

module _ (given : Given) (c : Config) (inputs : ℕ → List (List ℕ)) (past : List Numbered) (n k : ℕ) (plan : IsPlan c)
    (types : TypesFit c) (left : List Packet)
    (own : AllByRecursion (λ l1. l1 ≡ frame_parts c inputs n) (l1s_of left)) where
  -- test b and test e, as frame k
  abbrev currents : Bool
  currents = nat_lt 0 (length (l1s_of left))

  abbrev stamped : Bool
  stamped = not (begins_superframe c k) || nat_lt 0 (length (stamps_of left))

  abbrev counted : Bool
  counted = has_counts c past k left (first_shape c left)

  first_left : (l1s : List L1Parts) → 0 < length l1s → AllByRecursion (λ l1. l1 ≡ frame_parts c inputs n) l1s
      → option_and_then (l1_shape c) (slice_get l1s 0) ≡ Some (frame_shape c inputs n)
  first_left [] l h = absurd (omega (arith, l))
  first_left (l1 ∷ l1s) l h = ap (l1_shape c) h.0 ∙ parts_tell given c inputs n plan types

  -- what the L1-current tells of a PLP, if it has its blocks
  abbrev told : ℕ → ℕ
  told plp = slice_index (frame_shape c inputs n).counts plp

  told_is : (plp : ℕ) → plp < length c.plps → told plp ≡ told_count c inputs n plp
  told_is plp inside = ap (λ (l : List ℕ). slice_index l plp) (given.counts c (told_counts c inputs n))
      ∙ count_at c inputs n plp inside

  counts_of : (plp : ℕ) → plp < length c.plps → currents ≡ true → counted ≡ true
      → has_count c past k plp (length (blocks_of c plp left)) (told plp) ≡ true
  counts_of plp inside some all =
      let first = first_left (l1s_of left) (ltb-true _ _ some) own in
      let each : has_counts c past k left (Some (frame_shape c inputs n)) ≡ true =
      sym (ap (has_counts c past k left) first) ∙ all in
      at_place (λ plp. has_count c past k plp (length (blocks_of c plp left)) (told plp)) (length c.plps)
      plp each inside

  -- the L1-current tells too many blocks
  too_few : (plp : ℕ) → plp < length c.plps → is_first c plp k ≡ true
      → length (blocks_of c plp left) < told_count c inputs n plp → currents ≡ true → counted ≡ true → ⊥
  too_few plp inside e fewer some all =
      let count : ℕ = length (blocks_of c plp left) in
      let same : (count == told plp) ≡ true =
      sym (cond-true _ _ _ e)
      ∙ counts_of plp inside some all in
      omega (arith, eqb-true _ _ same, told_is plp inside, fewer)

  too_few_begun : (plp : ℕ) → plp < length c.plps → is_first c plp k ≡ false
      → length (blocks_of c plp (packets_at past (begin_of c plp k))) < told_count c inputs n plp → currents ≡ true
      → counted ≡ true → ⊥
  too_few_begun plp inside e fewer some all =
      let count : ℕ = length (blocks_of c plp left) in
      let before : List Packet = packets_at past (begin_of c plp k) in
      let both : ((count == 0) && has_begun c plp before (told plp)) ≡ true =
      sym (cond-false _ _ _ e)
      ∙ counts_of plp inside some all in
      let same : (length (blocks_of c plp before) == told plp) ≡ true = (and_parts _ _ (and_parts _ _ both).1).0 in
      omega (arith, eqb-true _ _ same, told_is plp inside, fewer)

  -- Not both hold if something is lacking.
  not_both : Lacks c inputs past n k left → (currents && stamped) ≡ true → counted ≡ true → ⊥
  not_both (NoStamp begins none) some all =
      let l : 0 < length (stamps_of left) = ltb-true _ _ (or_right_of _ _ (and_parts _ _ some).1 begins) in
      omega (arith, l, none)
  not_both (NoL1 none) some all =
      let l : 0 < length (l1s_of left) = ltb-true _ _ (and_parts _ _ some).0 in
      omega (arith, l, none)
  not_both (FewBlocks plp inside e fewer) some all = too_few plp inside e fewer (and_parts _ _ some).0 all
  not_both (FewBegun plp inside e fewer) some all = too_few_begun plp inside e fewer (and_parts _ _ some).0 all

  -- so it does not pass as frame k
  pub fails : Lacks c inputs past n k left → is_some (packets_fault c past k left) ≡ true
  unfolding packets_fault missing_test blocks_test
  fails lacks = true_from_ne_false _ (λ none.
      let first = none_parts (pool_test c past k left) _ none in
      let second = none_parts (missing_test c k left) _ first.1 in
      let third = none_parts (l1_test c k left) _ second.1 in
      let fourth = none_parts (time_test c k left) _ third.1 in
      let fifth = none_parts (blocks_test c past k left) _ fourth.1 in
      not_both lacks (none_if _ _ second.0) (and_parts _ _ (none_if _ _ fifth.0)).0)

-- and as itself it lacks a packet, if it carries nothing else
pub lacks_packet : (given : Given) (c : Config) (inputs : ℕ → List (List ℕ)) (past : List Numbered) (n : ℕ)
    (plan : IsPlan c)
    (types : TypesFit c) (left : List Packet) → AllByRecursion (λ l1. l1 ≡ frame_parts c inputs n) (l1s_of left)
    → HaveRoom c past n → AreFew c left → AllByRecursion (λ s. s ≡ stamp_of c n) (stamps_of left)
    → Lacks c inputs past n n left → packets_fault c past n left ≡ Some PacketMissing
unfolding packets_fault missing_test blocks_test
lacks_packet given c inputs past n plan types left own rooms few stamps lacks =
    missing_first (pool_test c past n left) (l1_test c n left) (time_test c n left) (map_test c left)
    (nat_lt 0 (length (l1s_of left)) && (not (begins_superframe c n) || nat_lt 0 (length (stamps_of left))))
    (has_counts c past n left (first_shape c left) && list_all (is_known c) left)
    (pool_passes given c inputs n plan types past n left rooms few) (l1_passes given c inputs n plan types left own)
    (time_passes c n left stamps)
    (λ b e. not_both given c inputs past n n plan types left own lacks b
    (and_parts _ _ e).0)

-- ---- what survives of a frame

-- what survives of frame n carries nothing that the frame has not, and no more
pub record IsLeft (c : Config) (inputs : ℕ → List (List ℕ)) (n : ℕ) (left : List Packet) : Type 0 where
  pub l1s : AllByRecursion (λ l1. l1 ≡ frame_parts c inputs n) (l1s_of left)
  pub stamps : AllByRecursion (λ s. s ≡ stamp_of c n) (stamps_of left)
  pub few : (plp : ℕ) → plp < length c.plps → length (right_blocks c plp left) ≤ length (own_blocks c inputs n plp)

pub is_left : (c : Config) (inputs : ℕ → List (List ℕ)) (n : ℕ) (all left : List Packet) → HasFrame c inputs n all
    → SomeOf left all → IsLeft c inputs n left
is_left c inputs n all left has some = record {
  l1s = all_of_some (λ l1. l1 ≡ frame_parts c inputs n) (λ (p : Packet). body_l1 p.body) left all some
      (subst (AllByRecursion (λ l1. l1 ≡ frame_parts c inputs n)) (sym has.l1s) (refl, tt));
  stamps = all_of_some (λ s. s ≡ stamp_of c n) (λ (p : Packet). body_stamp p.body) left all some
      (subst (AllByRecursion (λ s. s ≡ stamp_of c n)) (sym has.stamps) (own_stamps c n (begins_superframe c n)));
  few = λ plp inside.
      let a = fewer_of_some (λ (p : Packet). body_block (plp_at c.plps plp).id p.body) left all some in
      let e = ap length (has.blocks plp inside) in
      let b = length-filter (has_length c plp) (blocks_of c plp left) in
      let d = count_by-le-length (has_length c plp) (blocks_of c plp left) in
      omega (arith, a, b, d, e);
}

-- ---- what is missing of a frame that is not whole

-- of the packets of a frame those that pass a test
count_in : (b : ℕ) (test : Packet → Bool) (sent : List Sent)
    → count_by (λ (s : Sent). (s.frame == b) && test s.packet) sent ≡ count_by test (frame_packets b sent)
count_in b test [] = refl
count_in b test (s ∷ sent) =
    sum_by-cons (λ (s : Sent). cond {A = ℕ} ((s.frame == b) && test s.packet) 1 0) s sent
    ∙ ⊎_elim
    (λ (e : (s.frame == b) ≡ true). rw (e, count_in b test sent)
    (sym (sum_by-cons (λ (p : Packet). cond {A = ℕ} (test p) 1 0) s.packet (frame_packets b sent))))
    (λ (e : (s.frame == b) ≡ false). rw e (omega (arith, count_in b test sent)))
    (cases_Bool (s.frame == b))

-- what holds of the packets of a frame holds of each sent packet of it
of_sent : (P : Packet → Type 0) (n : ℕ) (sent : List Sent) → AllByRecursion P (frame_packets n sent)
    → AllByRecursion (λ (s : Sent). (s.frame == n) ≡ true → P s.packet) sent
of_sent P n [] h = tt
of_sent P n (s ∷ sent) h = ⊎_elim
    (λ (t : (s.frame == n) ≡ true). let all = rw t at h in (λ e. all.0, of_sent P n sent all.1))
    (λ (t : (s.frame == n) ≡ false).
    let all = rw t at h in (λ e. absurd (true≢false (sym e ∙ t)), of_sent P n sent all))
    (cases_Bool (s.frame == n))

module _ (c : Config) (sent : List Sent) (survival : List Bool) (n : ℕ) (miss : Misses (carries c n)
    sent survival) where
  -- fewer survive of the packets of the frame in which it was sent
  fewer_left : (b : ℕ) → (miss.packet.frame == b) ≡ true → (test : Packet → Bool) → test miss.packet.packet ≡ true
      → count_by test (frame_packets b (items_where_true survival sent)) < count_by test (frame_packets b sent)
  fewer_left b here test passes = grind (arith, and_from, count_in)

  -- and of the blocks of an interleaving frame that it carries, if it is one of them
  pub fewer_begun : (plp : ℕ) → is_begun c plp n miss.packet ≡ true
      → length (blocks_of c plp (frame_packets (begin_of c plp n) (items_where_true survival sent)))
      < length (blocks_of c plp (frame_packets (begin_of c plp n) sent))
  fewer_begun plp e = grind (arith, and_parts, fewer_left, block_some, count_some)

-- A packet that a frame carries is one of its own, or a block of an interleaving frame that began before.
carried_cases : (c : Config) (n : ℕ) (s : Sent) → carries c n s ≡ true
    → ((s.frame == n) ≡ true)
    ⊎ ((plp : ℕ) × (plp < length c.plps) × (is_first c plp n ≡ false) × (is_begun c plp n s ≡ true))
carried_cases c n s e = grind (arith, place_of_any, begun_here, and_parts, eqb-false, eqb-true, cases_Bool)

-- What survives of a frame that is not whole lacks something, as a frame that begins what it does: here, or, if this is
-- the frame itself, where an interleaving frame began.
pub not_whole_lacks : NotWholeMisses → FrameCarries → (c : Config) (inputs : ℕ → List (List ℕ)) (count m k : ℕ)
    (survival : List Bool) (past : List Numbered) → BeginsAll c m k → m < count
    → HasFrame c inputs m (frame_packets m (sent_frames c inputs count))
    → is_whole c (sent_frames c inputs count) survival m ≡ false
    → ((plp : ℕ) → plp < length c.plps → is_first c plp m ≡ false
    → length (blocks_of c plp
    (frame_packets (begin_of c plp m) (items_where_true survival (sent_frames c inputs count))))
    < length (blocks_of c plp (frame_packets (begin_of c plp m) (sent_frames c inputs count)))
    → Lacks c inputs past m k (frame_packets m (items_where_true survival (sent_frames c inputs count))))
    → Lacks c inputs past m k (frame_packets m (items_where_true survival (sent_frames c inputs count)))
not_whole_lacks misses carried c inputs count m k survival past like l has w before =
    let sent : List Sent = sent_frames c inputs count in
    let miss = misses c sent survival m w in
    let all : List Packet = frame_packets m sent in
    let left : List Packet = frame_packets m (items_where_true survival sent) in
    let tell = All-from_recursion (λ (s : Sent). (s.frame == m) ≡ true
    → Tells c inputs past m k like all left has s.packet.body) sent
    (of_sent (λ (p : Packet). Tells c inputs past m k like all left has p.body) m sent
    (tell_packet c inputs past m k like all left has (carried c inputs count m l))) in
    ⊎_elim
    (λ (here : (miss.packet.frame == m) ≡ true).
    All-contains (λ (s : Sent). (s.frame == m) ≡ true → Tells c inputs past m k like all left has s.packet.body)
    sent miss.packet
    tell miss.there here
    (λ test e. fewer_left c sent survival m miss m here (λ (p : Packet). test p.body) e))
    (λ (begun : (plp : ℕ) × (plp < length c.plps) × (is_first c plp m ≡ false) × (is_begun c plp m miss.packet ≡ true)).
    before begun.0 begun.1 begun.2 (fewer_begun c sent survival m miss begun.0 begun.3))
    (carried_cases c m miss.packet miss.passing)

-- ---- the six tests make of a run what they must, whatever survives

pub tests_meet : Given → FrameCarries → WholeIsAll → NotWholeMisses → FrameNamed → TestsMeet
tests_meet given carries all misses named c inputs n survival plan types l len =
    let sent : List Sent = sent_frames c inputs n in
    let survivors : List Sent = items_where_true survival sent in
    let own : ℕ → List Packet = λ m. frame_packets m sent in
    let left : ℕ → List Packet = λ m. frame_packets m survivors in
    let has : (m : ℕ) → m < n → HasFrame c inputs m (own m) = λ m k. has_frame given.numbers given.field
    c inputs m (own m) plan
    (carries c inputs n m k) in
    let is : (m : ℕ) → m < n → IsLeft c inputs m (left m) =
    λ m k. is_left c inputs m (own m) (left m) (has m k) (some_left m sent survival) in
    let few : (m : ℕ) → m < n → AreFew c (left m) =
    λ m k plp inside.
    let a = (is m k).few plp inside in
    let most = own_few given c inputs m plan types plp inside in
    omega (arith, a, most) in
    let rooms : (first m : ℕ) (past : List Numbered) → m < n → IsMet c.frames first m survivors past
    → HaveRoom c past m =
    λ first m past k met b below e. subst (AreFew c)
    (sym (begin_met given.laws c plan first m survivors past met b below e))
    (few b (omega (arith, below, k))) in
    let begun : (first m : ℕ) (past : List Numbered) → m < n → IsMet c.frames first m survivors past
    → is_whole c sent survival m ≡ true → HaveBegun c inputs past m =
    λ first m past k met w. have_begun given.numbers given.field all given.laws c inputs plan n first
    m survival past len met w
    (λ b below. has b (omega (arith, below, k))) in
    let itself : (m : ℕ) → BeginsAll c m m = λ m. record { superframe = λ e. e; plps = λ plp inside e. e } in
    record {
      network = refl;
      key = λ g m e. ((named c g m plan.rules).0 e).key;
      names = λ m k begins w. (named c (frame_group c.frames sent m) m plan.rules).1 (record {
        stamp = stamp_of c m;
        first = ap (λ (s : List Stamp). slice_get s 0) ((has m k).stamps
            ∙ cond-true {A = List Stamp} (begins_superframe c m)
            (stamp_of c m ∷ []) [] (eq-eqb _ _ begins));
        small = omega (arith, k, l);
        emission-is = refl;
        key = refl;
      });
      passes = λ first m past k met w. passes given c inputs m plan types past (rooms first m past k met)
          (begun first m past k met w) (own m) (has m k);
      lacks = λ first m past k met w. lacks_packet given c inputs past m plan types (left m) (is m k).l1s
          (rooms first m past k met) (few m k) (is m k).stamps
          (not_whole_lacks misses carries c inputs n m m survival past (itself m) k (has m k) w
          (λ plp inside e fewer.
          let met_is = ap (λ (packets : List Packet). length (blocks_of c plp packets))
          (begun_met given.laws c plan first m survivors past met plp inside e) in
          let sent_is = ap length ((has (begin_of c plp m) (omega (arith, begun_before c plp m e, k))).blocks
          plp inside)
          ∙ ap length (begun_own given.laws c inputs plp m plan.rules inside) in
          FewBegun plp inside e (omega (arith, met_is, sent_is, fewer))));
      fails = λ m j k begins same w some.
          let same_idx : j % c.frames ≡ m % c.frames = ap (λ (x : Key). x.frame) same in
          let like : BeginsAll c m j = record {
            superframe = λ e. eq-eqb _ _ (omega (arith, same_idx, begins));
            plps = λ plp inside e. given.laws.superframe c plp j plan.rules inside (omega (arith, same_idx, begins));
          } in
          fails given c inputs [] m j plan types (left m) (is m k).l1s
          (not_whole_lacks misses carries c inputs n m j survival [] like k (has m k) w
          (λ plp inside e fewer.
          absurd (both_ways (is_first c plp m) e (given.laws.superframe c plp m plan.rules inside begins))));
    }
