-- Packets that carry what a written frame's record says come back as that frame.
use Rattle.std.proofs.lemmas.List.FromFn.{length-range_with_len, get_or-range_with_len}
use Rattle.std.proofs.lemmas.List.Sums.{AllPass-from_list_all}
use Rattle.std.proofs.Common.{◌≡◌, ℕ, zero, suc, ◌+◌, ◌*◌, ◌<◌, ◌≤◌, ◌==◌, ◌&&◌, ◌||◌, not, Bool, true, false, List, []}
use Rattle.std.proofs.Common.{◌∷◌, length, Option, Some, None, refl, ap, sym, subst, ◌∙◌, ⊎_elim, arith}
use Rattle.std.specs.Prelude.{slice_get, slice_index, if◌then◌else◌, nat_le, nat_lt}
use Rattle.std.specs.List.{filter_map, find, range_with_len, list_all, AllByRecursion}
use Rattle.std.specs.Option.{option_and_then}
use Rattle.std.proofs.lemmas.Bool.{cond_both, cases_Bool, and_from, and_left, cond-true, cond-false, eq-eqb}
use Rattle.std.proofs.lemmas.Bool.{not_from_true}
use Rattle.terms.proofs.RangeLemmas.{flat_same, sums_same}
use Rattle.open_group.proofs.CountLemmas.{not_all_places}
use Rattle.bb_frame.specs.Laws.{BitCounts, ScramblesBack}
use Rattle.plp_config.specs.Capacity.{IsPlan, block_bytes}
use Rattle.plp_config.specs.InterleavingFrames.{is_first}
use Rattle.plp_config.specs.Plps.{plp_at}
use Rattle.plp_config.specs.declared.config.Config.{Config}
use Rattle.linked_pool.specs.Pool.{chunks_for}
use Rattle.scheduler.specs.Shape.{FrameShape}
use Rattle.l1_signal.specs.Laws.{PreBitsLength}
use Rattle.t2mi_packet.specs.declared.packet.Packet.{Packet}
use Rattle.t2mi_packet.specs.declared.packet.Stamp.{Stamp}
use Rattle.frame_groups.specs.Modulated.{Numbered}
use Rattle.frame_groups.specs.Numbers.{frame_key}
use Rattle.frame_groups.specs.declared.cause.MuteCause.{MuteCause}
use Rattle.frame_groups.specs.declared.cause.MuteCause.TheVariants.{PacketMissing, PoolFull}
use Rattle.site_frame.specs.declared.reading.RecordView.{RecordView}
use Rattle.frame_groups.specs.Begun.{is_begin, packets_at}
use Rattle.frame_groups.specs.Carried.{body_block, blocks_of, right_blocks, L1Parts, stamps_of}
use Rattle.frame_groups.specs.TestLaws.{FrameNamed}
use Rattle.frame_groups.specs.Readable.{told_dynamic}
use Rattle.frame_groups.specs.Tests.{unless, begins_superframe, pool_need, pool_chunks, capped, room_test, begun_test}
use Rattle.frame_groups.specs.Tests.{pool_test, missing_test, parts_agree, l1s_agree, l1_test, stamp_agrees}
use Rattle.frame_groups.specs.Tests.{time_test, l1_shape, first_shape, has_begun, has_count, has_counts, blocks_test}
use Rattle.frame_groups.specs.Tests.{has_map, map_test, packets_fault}
use Rattle.frame_groups.proofs.BegunLemmas.{none_fails}
use Rattle.open_group.specs.Front.{post_with}
use Rattle.open_group.specs.RecordBytes.{own_count}
use Rattle.open_group.specs.Written.{dynamic_in, packets_view}
use Rattle.frame_writer.specs.FramePackets.{stamp_of}
use Rattle.stream_laws.specs.Carrying.{blocks_in, plp_num_blocks, HaveRoom, has_told, ComesBack, FrameComesBack}
use Rattle.stream_laws.specs.Remade.{view_bodies}
use Rattle.stream_laws.proofs.BackLemmas.{view_carries, counted_view}
use Rattle.stream_laws.proofs.FormedLemmas.{told, shape_is, right_counts, dynamic_is, view_shape}
use Rattle.stream_laws.proofs.MadeLemmas.{Has, made_has, all_bodies, carried_by, made_parts}
use Rattle.stream_laws.proofs.PassedLemmas.{Passed, passed}
use Rattle.stream_laws.proofs.FormedSignalLemmas.{Knows, pre_spelled, conf_spelled, told_is, dynamic_read}
use Rattle.stream_laws.proofs.SizeLemmas.{right_long}

-- ---- sums and tests over PLPs

pub each_place : (test : ℕ → Bool) (count : ℕ) → ((plp : ℕ) → plp < count → test plp ≡ true) → (a k : ℕ) → a + k ≤ count
    → list_all test (range_with_len a k) ≡ true
each_place test count h a zero l = refl
each_place test count h a (suc k) l = and_from _ _ (h a (omega (arith, l)))
    (each_place test count h (a + 1) k (omega (arith, l)))

-- each PLP passes what all pass
pub at_place : (test : ℕ → Bool) (count plp : ℕ) → list_all test (range_with_len 0 count) ≡ true → plp < count
    → test plp ≡ true
at_place test count plp passes inside =
    let size = length-range_with_len 0 count in
    let at : slice_index (range_with_len 0 count) plp ≡ plp =
    get_or-range_with_len 0 count plp 0 inside ∙ omega arith in
    subst (λ (j : ℕ). test j ≡ true) at
    (AllPass-from_list_all test (range_with_len 0 count) passes plp 0 (omega (arith, inside, size)))

pub unless_true : (t : Bool) (cause : MuteCause) → t ≡ true → unless t cause ≡ None
unless_true t cause e = ap (λ (t : Bool). unless t cause) e

unless_false : (t : Bool) (cause : MuteCause) → t ≡ false → unless t cause ≡ Some cause
unless_false t cause e = ap (λ (t : Bool). unless t cause) e

pub twice : (t : Bool) → (t && t) ≡ t
twice true = refl
twice false = refl

-- ---- the timestamp of a superframe

pub own_stamps : (c : Config) (n : ℕ) (t : Bool) → AllByRecursion (λ (s : Stamp). s ≡ stamp_of c n)
    (if t then stamp_of c n ∷ [] else [])
own_stamps c n true = (refl, tt)
own_stamps c n false = tt

stamp_passes : (c : Config) (n : ℕ) → stamp_agrees c n (stamp_of c n) ≡ true
stamp_passes c n = grind (arith, eq-eqb, and_from)

none_late : (c : Config) (n : ℕ) (stamps : List Stamp) → AllByRecursion (λ s. s ≡ stamp_of c n) stamps
    → find (λ s. not (stamp_agrees c n s)) stamps ≡ None
none_late c n [] h = refl
none_late c n (s ∷ stamps) h =
    cond-false {A = Option Stamp} (not (stamp_agrees c n s)) (Some s) (find (λ s. not (stamp_agrees c n s)) stamps)
    (not_from_true _ (subst (λ (x : Stamp). stamp_agrees c n x ≡ true) (sym h.0) (stamp_passes c n)))
    ∙ none_late c n stamps h.1

pub time_passes : (c : Config) (n : ℕ) (packets : List Packet) → AllByRecursion (λ s. s ≡ stamp_of c n)
    (stamps_of packets)
    → time_test c n packets ≡ None
unfolding time_test
time_passes c n packets h = grind (arith, Option, none_late)

-- ---- the tests of packets of which the L1-current agrees, and tells a shape whose cells stand apart

-- a, if the blocks have room where an interleaving frame begins that frame n carries
pub pool_none : (c : Config) (past : List Numbered) (n : ℕ) (packets : List Packet)
    → ((b : ℕ) → b < n → is_begin c n b ≡ true → room_test c (packets_at past b) ≡ None)
    → room_test c packets ≡ None → pool_test c past n packets ≡ None
unfolding pool_test
pool_none c past n packets rooms room = rw (none_fails (begun_test c past n) 0 n
    (λ b low high. cond_both (is_begin c n b) _ _ (λ o. o ≡ None) (rooms b (omega (arith, high))) (λ e. refl))) room

module _ (c : Config) (n : ℕ) (l1 : L1Parts) (shape : FrameShape) (own : ℕ → List (List Bool)) (packets : List Packet)
    (has : Has c n l1 own packets) (agree : parts_agree c n l1 ≡ true) (tells : l1_shape c l1 ≡ Some shape)
    (apart : has_map c (Some shape) ≡ true) where
  pub first_is : first_shape c packets ≡ Some shape
  first_is = ap (λ (l : List L1Parts). option_and_then (l1_shape c) (slice_get l 0)) has.l1s ∙ tells

  stamp_there : (t : Bool) → (not t || nat_lt 0 (length (if t then stamp_of c n ∷ [] else []))) ≡ true
  stamp_there true = refl
  stamp_there false = refl

  missing_none : missing_test c n packets ≡ None
  unfolding missing_test
  missing_none = grind (arith, unless_true, and_from, stamp_there)

  l1_none : l1_test c n packets ≡ None
  unfolding l1_test
  l1_none = unless_true _ _ (ap (l1s_agree c n) has.l1s ∙ agree)

  time_none : time_test c n packets ≡ None
  time_none = grind (arith, time_passes, own_stamps)

  map_none : map_test c packets ≡ None
  unfolding map_test
  map_none = unless_true _ _ (ap (has_map c) first_is ∙ apart)

  -- a PLP has as many blocks as it tells
  abbrev counted : List Numbered → ℕ → Bool
  counted past plp = has_count c past n plp (length (blocks_of c plp packets)) (slice_index shape.counts plp)

  blocks_none : (past : List Numbered) → ((plp : ℕ) → plp < length c.plps → counted past plp ≡ true)
      → blocks_test c past n packets ≡ None
  unfolding blocks_test
  blocks_none past each = unless_true _ _ (and_from _ _ (ap (has_counts c past n packets) first_is
      ∙ each_place (counted past) (length c.plps) each 0 (length c.plps) (omega arith)) has.known)

  blocks_lack : (past : List Numbered) (plp : ℕ) → plp < length c.plps → counted past plp ≡ false
      → blocks_test c past n packets ≡ Some PacketMissing
  unfolding blocks_test
  blocks_lack past plp inside lacks = unless_false _ _ (and_left _ _ (ap (has_counts c past n packets) first_is
      ∙ not_all_places c (counted past) plp inside lacks))

  pub all_pass : (past : List Numbered) → pool_test c past n packets ≡ None
      → ((plp : ℕ) → plp < length c.plps → counted past plp ≡ true) → packets_fault c past n packets ≡ None
  unfolding packets_fault
  all_pass past pool each = rw (pool, missing_none, l1_none, time_none, blocks_none past each) map_none

  pub one_lacks : (past : List Numbered) → pool_test c past n packets ≡ None → (plp : ℕ) → plp < length c.plps
      → counted past plp ≡ false → packets_fault c past n packets ≡ Some PacketMissing
  unfolding packets_fault
  one_lacks past pool plp inside lacks =
      rw (pool, missing_none, l1_none, time_none, blocks_lack past plp inside lacks) refl

-- ---- all of it

module _ (numbers : BitCounts) (back : ScramblesBack) (law : PreBitsLength) (named : FrameNamed) (knows : Knows)
    (c : Config)
    (n : ℕ) (plan : IsPlan c) (first : List Packet) (before : List Numbered)
    (pass : packets_fault c before n first ≡ None)
    (packets : List Packet) (carry : all_bodies packets ≡ view_bodies c n (packets_view c n first)) where
  p : Passed c n first
  p = passed c before n first pass

  abbrev dyn : List Bool
  dyn = p.l1.first.dynamic

  abbrev own : FrameShape
  own = p.l1.shape

  abbrev right : ℕ → List (List Bool)
  right plp = right_blocks c plp first

  has : Has c n (made_parts c dyn) right packets
  has = made_has c n dyn right plan (λ plp. right_long c plp first) packets
      (carry ∙ view_carries numbers back law knows c n plan first p)

  agree : parts_agree c n (made_parts c dyn) ≡ true
  agree = grind (arith, told, p, made_parts, pre_spelled, conf_spelled)

  -- ---- the tests

  room : room_test c packets ≡ None
  unfolding room_test
  room =
      let same : pool_need c packets ≡ pool_need c first =
      sums_same (λ plp. length (right_blocks c plp packets) * chunks_for (block_bytes c plp))
      (λ plp. length (right_blocks c plp first) * chunks_for (block_bytes c plp)) 0 (length c.plps)
      (λ plp low high. ap (λ (l : List (List Bool)). length l * chunks_for (block_bytes c plp))
      (has.right plp (omega (arith, high)))) in
      ap (λ (k : ℕ). unless (nat_le k (pool_chunks c)) (PoolFull (capped k) (pool_chunks c))) same ∙ p.room

  -- what the record tells
  post_tells : told_dynamic c (post_with c (dynamic_in first)) ≡ Some (told knows c n first p).dynamic
  post_tells =
      let mine = told knows c n first p in
      ap (λ (bits : List Bool). told_dynamic c (post_with c bits)) (dynamic_is knows c n first p)
      ∙ told_is knows c n p.l1.first mine ∙ dynamic_read knows c n p.l1.first mine

  num_blocks : (plp : ℕ) → plp_num_blocks c plp (packets_view c n first) ≡ slice_index own.counts plp
  num_blocks plp = grind (arith, Option, post_tells, shape_is, p)

  -- test e, by the groups before
  own_counts : (plp : ℕ) → plp < length c.plps → length (blocks_of c plp packets) ≡ own_count c n own plp
  own_counts plp inside = ap length (has.blocks plp inside)
      ∙ sym (right_counts knows c n first p numbers before plan pass plp inside)

  abbrev count_holds : List Numbered → ℕ → Bool
  count_holds past plp = has_count c past n plp (length (blocks_of c plp packets)) (slice_index own.counts plp)

  first_counted : (past : List Numbered) (plp : ℕ) → plp < length c.plps → is_first c plp n ≡ true
      → count_holds past plp ≡ true
  first_counted past plp inside e =
      cond-true _ _ _ e ∙ eq-eqb _ _ (own_counts plp inside ∙ cond-true _ _ _ e)

  later_counted : (past : List Numbered) (plp : ℕ) → plp < length c.plps → is_first c plp n ≡ false
      → count_holds past plp ≡ has_told c n (packets_view c n first) past plp
  later_counted past plp inside e = grind (arith, cond-false, eq-eqb, own_counts, num_blocks)

  pool : (past : List Numbered) → HaveRoom c past n → pool_test c past n packets ≡ None
  pool past rooms = pool_none c past n packets rooms room

  passes : (past : List Numbered) → HaveRoom c past n
      → ((plp : ℕ) → plp < length c.plps → is_first c plp n ≡ false
      → has_told c n (packets_view c n first) past plp ≡ true)
      → packets_fault c past n packets ≡ None
  passes past rooms told = all_pass c n (made_parts c dyn) own right packets has agree p.l1.told p.l1.map past
      (pool past rooms)
      (λ plp inside. ⊎_elim
      (λ (e : is_first c plp n ≡ true). first_counted past plp inside e)
      (λ (e : is_first c plp n ≡ false). later_counted past plp inside e ∙ told plp inside e)
      (cases_Bool (is_first c plp n)))

  lacks_one : (past : List Numbered) (plp : ℕ) → HaveRoom c past n → plp < length c.plps → is_first c plp n ≡ false
      → has_told c n (packets_view c n first) past plp ≡ false → packets_fault c past n packets ≡ Some PacketMissing
  lacks_one past plp rooms inside e lacks = one_lacks c n (made_parts c dyn) own right packets has agree p.l1.told
      p.l1.map past (pool past rooms) plp inside (later_counted past plp inside e ∙ lacks)

  same_view : packets_view c n packets ≡ packets_view c n first
  same_view = grind (arith, has, dynamic_is, p, Option, first_is, made_parts, agree, view_shape, flat_same)

  block_counts : (plp told : ℕ) → plp < length c.plps → has_begun c plp packets told
      ≡ (blocks_in c plp (packets_view c n first) == told)
  block_counts plp told inside =
      let count : length (blocks_of c plp packets) ≡ blocks_in c plp (packets_view c n first) =
      ap length (carried_by (body_block (plp_at c.plps plp).id) packets
      ∙ ap (filter_map (body_block (plp_at c.plps plp).id)) carry)
      ∙ counted_view c n plp (packets_view c n first) in
      let same : length (right_blocks c plp packets) ≡ length (blocks_of c plp packets) =
      ap length (has.right plp inside ∙ sym (has.blocks plp inside)) in
      ap (λ (k : ℕ). (length (blocks_of c plp packets) == told) && (k == told)) same
      ∙ twice (length (blocks_of c plp packets) == told)
      ∙ ap (λ (k : ℕ). k == told) count

  pub comes_back : ComesBack c n (packets_view c n first) packets
  comes_back = record {
    pass = passes;
    lacks = lacks_one;
    is = same_view;
    names = λ begins small. (named c (record { key = frame_key c.frames n; packets = packets }) n plan.rules).1
        (record {
          stamp = stamp_of c n;
          first = ap (λ (s : List Stamp). slice_get s 0) (has.stamps
              ∙ cond-true {A = List Stamp} (begins_superframe c n) (stamp_of c n ∷ []) [] (eq-eqb _ _ begins));
          small = small;
          emission-is = refl;
          key = refl;
        });
    room = room;
    blocks = block_counts;
  }

pub frame_comes_back : BitCounts → ScramblesBack → PreBitsLength → FrameNamed → Knows → FrameComesBack
frame_comes_back numbers back law named knows c n view packets plan written carry =
    subst (λ (v : RecordView). ComesBack c n v packets) (sym written.is)
    (comes_back numbers back law named knows c n plan written.packets written.past written.pass packets
    (carry ∙ ap (view_bodies c n) written.is))
