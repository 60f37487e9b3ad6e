-- What came of a run's frame and passes the tests by itself is that frame.
use Rattle.std.proofs.Common.{◌≡◌, ℕ, suc, ◌%◌, ◌<◌, ◌≤◌, ◌&&◌, ◌||◌, not, Bool, true, false, List, [], ◌∷◌}
use Rattle.std.proofs.Common.{length, map, Option, Some, None, refl, ap, sym, ◌∙◌, arith, inl, inr}
use Rattle.std.specs.Prelude.{slice_get, slice_index, nat_lt, if◌then◌else◌}
use Rattle.std.specs.List.{filter, filter_map, cons_option, items_where_true, list_all}
use Rattle.std.specs.Option.{option_or}
use Rattle.std.proofs.lemmas.Bool.{and_parts, and_from, ltb-true, cases_Bool, cond_both}
use Rattle.std.proofs.lemmas.Option.{same_Some}
use Rattle.terms.proofs.OptionLemmas.{none_if}
use Rattle.terms.proofs.RangeLemmas.{flat_same}
use Rattle.plp_config.specs.Capacity.{IsPlan}
use Rattle.plp_config.specs.Emission.{emission}
use Rattle.plp_config.specs.InterleavingFrames.{interleaving_frame, is_first}
use Rattle.plp_config.specs.Plps.{plp_at}
use Rattle.plp_config.specs.declared.config.Config.{Config}
use Rattle.scheduler.specs.Shape.{FrameShape}
use Rattle.l1_signal.specs.L1Of.{post_bits}
use Rattle.t2mi_packet.specs.declared.packet.Packet.{Packet}
use Rattle.mode_adapt.specs.Blocks.{plp_blocks, own_blocks, told_counts}
use Rattle.frame_groups.specs.Modulated.{Numbered}
use Rattle.frame_groups.specs.declared.cause.MuteCause.{MuteCause}
use Rattle.frame_groups.specs.declared.cause.MuteCause.TheVariants.{PacketMissing}
use Rattle.frame_groups.specs.Carried.{body_block, body_l1, body_stamp, blocks_of, right_blocks, has_length, L1Parts}
use Rattle.frame_groups.specs.Carried.{l1s_of, stamps_of}
use Rattle.frame_groups.specs.Tests.{begins_superframe, pool_test, missing_test, l1_shape, is_known, packets_fault}
use Rattle.frame_groups.specs.Tests.{l1_test, time_test, blocks_test, map_test}
use Rattle.record_laws.specs.Frames.{frame_of, frame_shape, frame_view, sent_block, sent_blocks}
use Rattle.open_group.specs.RecordBytes.{own_count}
use Rattle.open_group.specs.Written.{shape_in, packets_view}
use Rattle.open_group.proofs.RoomLemmas.{none_first, none_behind}
use Rattle.site_frame.specs.Record.{Block}
use Rattle.frame_writer.specs.FramePackets.{stamp_of}
use Rattle.stream_laws.proofs.FormedLemmas.{right_counts}
use Rattle.stream_laws.proofs.MadeLemmas.{all_right}
use Rattle.stream_laws.proofs.PassedLemmas.{Passed, passed}
use Rattle.stream_laws.proofs.FormedSignalLemmas.{Knows}
use Rattle.stream_laws.specs.Types.{TypesFit}
use Rattle.stream_laws.proofs.BlockLemmas.{count_at, own_long}
use Rattle.stream_laws.proofs.CarriedLemmas.{HasFrame, has_frame}
use Rattle.stream_laws.proofs.LossLemmas.{IsLeft, is_left, fewer_flagged}
use Rattle.stream_laws.proofs.PassLemmas.{Given, parts_tell}
use Rattle.stream_laws.proofs.FrameSignalLemmas.{frame_parts}
use Rattle.stream_laws.proofs.WrittenLemmas.{post_is}
use Rattle.network_laws.specs.FeedsOfRun.{CameOf, run_packets}
use Rattle.stream_laws.specs.SentFrames.{run_length}
use Rattle.bb_frame.specs.Laws.{ScramblesBack}
use Rattle.l1_signal.specs.Laws.{PreBitsLength, PostLength, ConfPartLength}
use Rattle.stream_laws.specs.FormedLaws.{ShownIsSent}
use Rattle.frame_weave.specs.Laws.{StoodIsPlaced, PlacedIsOfFrame}
use Rattle.frame_groups.specs.TestLaws.{FrameNamed}
use Rattle.stream_laws.specs.FrameLaws.{FrameCarries, SentAreFrames}
use Rattle.stream_laws.specs.DamageLaws.{GroupsAreFrames}

-- ---- some packets that carry as much as all carry the same

none_of_no : {Y : Type 0} (ys : List Y) → length ys ≤ 0 → [] ≡ ys
none_of_no [] l = refl
none_of_no (y ∷ ys) l = absurd (omega arith)

pub as_many : {X Y : Type 0} (f : X → Option Y) (flags : List Bool) (xs : List X)
    → length (filter_map f xs) ≤ length (filter_map f (items_where_true flags xs))
    → filter_map f (items_where_true flags xs) ≡ filter_map f xs
as_many f [] xs l = none_of_no (filter_map f xs) l
as_many f (b ∷ flags) [] l = refl
as_many {Y = Y} f (true ∷ flags) (x ∷ xs) l = go (f x) l (as_many f flags xs)
  where
    few : List Y
    few = filter_map f (items_where_true flags xs)

    all : List Y
    all = filter_map f xs

    go : (o : Option Y) → length (cons_option o all) ≤ length (cons_option o few)
        → (length all ≤ length few → few ≡ all) → cons_option o few ≡ cons_option o all
    go None l more = more l
    go (Some y) l more = ap (λ (l : List Y). y ∷ l) (more (omega arith))
as_many {Y = Y} f (false ∷ flags) (x ∷ xs) l = go (f x) l (as_many f flags xs) (fewer_flagged f flags xs)
  where
    few : List Y
    few = filter_map f (items_where_true flags xs)

    all : List Y
    all = filter_map f xs

    go : (o : Option Y) → length (cons_option o all) ≤ length few → (length all ≤ length few → few ≡ all)
        → length few ≤ length all → few ≡ cons_option o all
    go None l more k = more l
    go (Some y) l more k = absurd (omega arith)

-- of what all pass all that came pass
came_pass : {X : Type 0} (test : X → Bool) (flags : List Bool) (xs : List X) → list_all test xs ≡ true
    → list_all test (items_where_true flags xs) ≡ true
came_pass test [] xs h = refl
came_pass test (b ∷ flags) [] h = refl
came_pass test (true ∷ flags) (x ∷ xs) h =
    let p = and_parts (test x) (list_all test xs) h in
    and_from (test x) (list_all test (items_where_true flags xs)) p.0 (came_pass test flags xs p.1)
came_pass test (false ∷ flags) (x ∷ xs) h = came_pass test flags xs (and_parts (test x) (list_all test xs) h).1

-- ---- a frame of the run

-- What the laws of the crates below say of the frames of a run, as they are sent and as they come.
pub record RunLaws : Type 0 where
  pub given : Given
  pub knows : Knows
  pub carries : FrameCarries
  pub scrambles : ScramblesBack
  pub bits : PreBitsLength
  pub post : PostLength
  pub size : ConfPartLength
  pub shown : ShownIsSent
  pub stood : StoodIsPlaced
  pub framed : PlacedIsOfFrame
  pub named : FrameNamed
  pub frames : SentAreFrames
  pub groups : GroupsAreFrames

module _ (laws : RunLaws) (c : Config) (inputs : ℕ → List (List ℕ)) (plan : IsPlan c) (types : TypesFit c)
    (n : ℕ) where
  pub run_has : n < run_length c inputs → HasFrame c inputs n (run_packets c inputs n)
  run_has l = has_frame laws.given.numbers laws.given.field c inputs n (run_packets c inputs n) plan
      (laws.carries c inputs (run_length c inputs) n l)

  abbrev carried : ℕ → List (List Bool)
  carried plp = plp_blocks c inputs (interleaving_frame c plp n) plp

  -- as many blocks come with it as its L1 signalling tells
  pub own_told : (plp : ℕ) → plp < length c.plps → own_count c n (frame_shape c inputs n) plp
      ≡ length (own_blocks c inputs n plp)
  own_told plp inside =
      let told : slice_index (frame_shape c inputs n).counts plp ≡ length (carried plp) =
      rw (laws.given.counts c (told_counts c inputs n), count_at c inputs n plp inside) in
      elim (cases_Bool (is_first c plp n)) [ inl e ↦ rw e told | inr e ↦ rw e refl ]

  -- what is written of packets that have it is it
  pub view_is : (packets : List Packet) → HasFrame c inputs n packets → packets_view c n packets ≡ frame_of c inputs n
  view_is packets has =
      ap (λ (bits : List Bool). frame_view c (emission c n) (n % c.frames) bits
      (sent_blocks c (λ plp. right_blocks c plp packets)) (shape_in c packets))
      (rw (has.l1s, post_is c n (told_counts c inputs n)))
      ∙ ap (λ (l : List Block). frame_view c (emission c n) (n % c.frames) post l (shape_in c packets))
      (flat_same (λ plp. map (sent_block c plp) (right_blocks c plp packets))
      (λ plp. map (sent_block c plp) (own_blocks c inputs n plp))
      0 (length c.plps) (λ plp le lt. ap (map (sent_block c plp)) (has.right plp (omega arith))))
      ∙ ap (frame_view c (emission c n) (n % c.frames) post (sent_blocks c (own_blocks c inputs n)))
      (rw (has.l1s, parts_tell laws.given c inputs n plan types))
    where
      post : List Bool
      post = post_bits c n (frame_shape c inputs n)

  module _ (packets : List Packet) (in_run : n < run_length c inputs) (came : CameOf (run_packets c inputs n) packets)
      (past : List Numbered) (pass : packets_fault c past n packets ≡ None) where
    abbrev all : List Packet
    all = run_packets c inputs n

    has : HasFrame c inputs n all
    has = run_has in_run

    p : Passed c n packets
    p = passed c past n packets pass

    left : IsLeft c inputs n packets
    left = is_left c inputs n all packets has (record { flags = came.flags; are = came.are })

    -- test b
    has_missing : missing_test c n packets ≡ None
    unfolding packets_fault
    has_missing =
        let d : Option MuteCause = option_or (blocks_test c past n packets) (map_test c packets) in
        let k : Option MuteCause = option_or (time_test c n packets) d in
        let b : Option MuteCause = option_or (l1_test c n packets) k in
        none_first (missing_test c n packets) b
        (none_behind (pool_test c past n packets) (option_or (missing_test c n packets) b) pass)

    both : (nat_lt 0 (length (l1s_of packets))
        && (not (begins_superframe c n) || nat_lt 0 (length (stamps_of packets)))) ≡ true
    unfolding missing_test
    both = none_if (nat_lt 0 (length (l1s_of packets))
        && (not (begins_superframe c n) || nat_lt 0 (length (stamps_of packets)))) PacketMissing has_missing

    parts : (nat_lt 0 (length (l1s_of packets)) ≡ true)
        × ((not (begins_superframe c n) || nat_lt 0 (length (stamps_of packets))) ≡ true)
    parts = and_parts (nat_lt 0 (length (l1s_of packets)))
        (not (begins_superframe c n) || nat_lt 0 (length (stamps_of packets))) both

    -- as much of it came as the whole frame has
    same : {Y : Type 0} (f : Packet → Option Y) → length (filter_map f all) ≤ length (filter_map f packets)
        → filter_map f packets ≡ filter_map f all
    same f l =
        rw (came.are, as_many f came.flags all (rw (← came.are) l))

    l1s : l1s_of packets ≡ frame_parts c inputs n ∷ []
    l1s =
        let e = ap length has.l1s in
        same (λ (q : Packet). body_l1 q.body) (omega (arith, ltb-true 0 (length (l1s_of packets)) parts.0)) ∙ has.l1s

    stamps : stamps_of packets ≡ (if begins_superframe c n then stamp_of c n ∷ [] else [])
    stamps = same (λ (q : Packet). body_stamp q.body) (go (begins_superframe c n) (ap length has.stamps) parts.1)
        ∙ has.stamps
      where
        go : (t : Bool) → length (stamps_of all) ≡ length (if t then stamp_of c n ∷ [] else [])
            → (not t || nat_lt 0 (length (stamps_of packets))) ≡ true
            → length (stamps_of all) ≤ length (stamps_of packets)
        go true e some = omega (arith, ltb-true 0 (length (stamps_of packets)) some)
        go false e some = omega arith

    shape_told : p.l1.shape ≡ frame_shape c inputs n
    shape_told =
        let first : frame_parts c inputs n ≡ p.l1.first =
        same_Some (frame_parts c inputs n) p.l1.first
        (sym (ap (λ (l : List L1Parts). slice_get l 0) l1s) ∙ p.l1.is) in
        same_Some p.l1.shape (frame_shape c inputs n)
        (sym p.l1.told ∙ sym (ap (l1_shape c) first) ∙ parts_tell laws.given c inputs n plan types)

    blocks : (plp : ℕ) → plp < length c.plps → blocks_of c plp packets ≡ own_blocks c inputs n plp
    blocks plp inside =
        let told = ap (λ (s : FrameShape). own_count c n s plp) shape_told ∙ own_told plp inside in
        let e = ap length (has.blocks plp inside) in
        same (λ (q : Packet). body_block (plp_at c.plps plp).id q.body) (omega (
          arith,
          right_counts laws.knows c n packets p laws.given.numbers past plan pass plp inside,
          filter_fewer (has_length c plp) (blocks_of c plp packets),
        ))
        ∙ has.blocks plp inside
      where
        filter_fewer : (test : List Bool → Bool) (xs : List (List Bool)) → length (filter test xs) ≤ length xs
        filter_fewer test [] = omega arith
        filter_fewer test (x ∷ xs) =
            let rest = filter_fewer test xs in
            cond_both {A = List (List Bool)} (test x) _ _ (λ l. length l ≤ suc (length xs)) (λ t. omega arith)
            (λ t. omega arith)

    pub whole_has : HasFrame c inputs n packets
    whole_has = record {
      l1s = l1s;
      stamps = stamps;
      blocks = blocks;
      right = λ plp inside.
          ap (filter (has_length c plp)) (blocks plp inside)
          ∙ all_right c plp (own_blocks c inputs n plp) (own_long laws.given.numbers laws.given.field c inputs n plp);
      known = rw came.are (came_pass (is_known c) came.flags all has.known);
    }
