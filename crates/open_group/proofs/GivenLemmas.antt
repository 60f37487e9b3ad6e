-- A group that passes gives its frame.
use Rattle.std.proofs.Common.{◌≡◌, ℕ, zero, suc, ◌+◌, ◌*◌, ◌%◌, ◌<◌, ◌≤◌, ◌==◌, ◌&&◌, Bool, true, false, cond, List, []}
use Rattle.std.proofs.Common.{◌∷◌, ◌++◌, map, length, get_or, Option, Some, None, refl, ap, ap₂, sym, subst, ◌∙◌}
use Rattle.std.proofs.Common.{⊎_elim, arith}
use Rattle.std.specs.Prelude.{slice_index, slice_index_or, is_some, sum_by}
use Rattle.std.specs.List.{concat, filter, flat_map, list_all, list_any, cons_option, range_with_len}
use Rattle.std.specs.Option.{option_or, unwrap_or}
use Rattle.std.proofs.lemmas.Bool.{and_parts, cases_eq, cases_lt, eqb-true, false≢true}
use Rattle.std.proofs.lemmas.List.{get_or-map, get_or_past, length-map}
use Rattle.std.proofs.lemmas.List.Elements.{filter_passes}
use Rattle.std.proofs.lemmas.List.Folds.{Any-from_list_any}
use Rattle.std.proofs.lemmas.List.FromFn.{fill_by_all, length-range_with_len, get_or-range_with_len}
use Rattle.std.proofs.lemmas.List.Sums.{AllPass-from_list_all}
use Rattle.terms.specs.Bits.{bytes_for}
use Rattle.terms.proofs.BitLemmas.{length-bytes_of, bits_of-bytes_of}
use Rattle.terms.proofs.OptionLemmas.{none_if}
use Rattle.bb_frame.specs.Laws.{BitCounts}
use Rattle.plp_config.specs.Capacity.{IsPlan, block_bytes}
use Rattle.plp_config.specs.Emission.{emission}
use Rattle.plp_config.specs.Places.{places}
use Rattle.plp_config.specs.Plps.{plp_at}
use Rattle.plp_config.specs.InterleavingFrames.{is_first, begin_of}
use Rattle.plp_config.specs.declared.config.Config.{Config}
use Rattle.scheduler.specs.Shape.{FrameShape, blank}
use Rattle.t2mi_packet.specs.declared.packet.Body.{Body}
use Rattle.t2mi_packet.specs.declared.packet.Body.TheVariants.{Block, L1Current, Timestamp, Other}
use Rattle.t2mi_packet.specs.declared.packet.Packet.{Packet}
use Rattle.frame_groups.specs.declared.cause.MuteCause.{MuteCause}
use Rattle.frame_groups.specs.declared.cause.MuteCause.TheVariants.{PacketMissing}
use Rattle.frame_groups.specs.Carried.{body_block, has_length, blocks_of, right_blocks}
use Rattle.frame_groups.specs.Modulated.{Numbered}
use Rattle.frame_groups.specs.Begun.{packets_at}
use Rattle.frame_groups.specs.Tests.{pool_test, missing_test, l1_test, time_test, first_shape, has_begun, has_count}
use Rattle.frame_groups.specs.Tests.{has_counts, body_known, is_known, blocks_test, map_test, packets_fault}
use Rattle.record_laws.specs.Frames.{sent_block, sent_blocks, frame_view}
use Rattle.record_laws.specs.Laws.{rest_size}
use Rattle.site_frame.specs.Whole.{written_rest, record_bytes}
use Rattle.open_group.specs.Front.{post_with, front_bytes}
use Rattle.open_group.specs.WriterLaws.{RecordWritten, BlockCount, RestLength, HasBlocks, post_size, written_frame}
use Rattle.open_group.specs.RecordBytes.{own_count, plp_block, list_blocks, list_at}
use Rattle.open_group.specs.Steps.{step_bytes}
use Rattle.open_group.specs.declared.step.Step.TheVariants.{Blocks}
use Rattle.open_group.specs.Sent.{held_bytes}
use Rattle.open_group.specs.Written.{dynamic_in, packets_view}
use Rattle.open_group.proofs.RoomLemmas.{none_first, none_behind}
use Rattle.plp_config.proofs.PlaceLemmas.{place_is}

-- what is there is not absent
not_some : {X : Type 0} {P : Type 0} (x : X) → Some x ≡ None → P
not_some x e = absurd (false≢true (ap is_some (sym e)))

-- the last two tests
both_none : (c : Config) (past : List Numbered) (n : ℕ) (packets : List Packet) → packets_fault c past n packets ≡ None
    → option_or (blocks_test c past n packets) (map_test c packets) ≡ None
unfolding packets_fault
both_none c past n packets e =
    let behind_d : Option MuteCause = option_or (blocks_test c past n packets) (map_test c packets) in
    let behind_c : Option MuteCause = option_or (time_test c n packets) behind_d in
    let behind_b : Option MuteCause = option_or (l1_test c n packets) behind_c in
    let behind_a : Option MuteCause = option_or (missing_test c n packets) behind_b in
    none_behind (time_test c n packets) behind_d
    (none_behind (l1_test c n packets) behind_c
    (none_behind (missing_test c n packets) behind_b (none_behind (pool_test c past n packets) behind_a e)))

blocks_none : (c : Config) (past : List Numbered) (n : ℕ) (packets : List Packet)
    → packets_fault c past n packets ≡ None
    → blocks_test c past n packets ≡ None
blocks_none c past n packets e = none_first (blocks_test c past n packets) (map_test c packets)
    (both_none c past n packets e)

pub map_none : (c : Config) (past : List Numbered) (n : ℕ) (packets : List Packet)
    → packets_fault c past n packets ≡ None
    → map_test c packets ≡ None
map_none c past n packets e = none_behind (blocks_test c past n packets) (map_test c packets)
    (both_none c past n packets e)

blocks_pass : (c : Config) (past : List Numbered) (n : ℕ) (packets : List Packet) → blocks_test c past n packets ≡ None
    → (has_counts c past n packets (first_shape c packets) ≡ true) × (list_all (is_known c) packets ≡ true)
unfolding blocks_test
blocks_pass c past n packets e =
    and_parts (has_counts c past n packets (first_shape c packets)) (list_all (is_known c) packets)
    (none_if (has_counts c past n packets (first_shape c packets) && list_all (is_known c) packets) PacketMissing e)

-- the blocks of a PLP in a group are those that are told where its interleaving frame begins, and none elsewhere
own_is : (c : Config) (past : List Numbered) (n plp own : ℕ) (shape : FrameShape)
    → has_count c past n plp own (slice_index shape.counts plp) ≡ true → own ≡ own_count c n shape plp
own_is c past n plp own shape e = go (is_first c plp n) e
  where
    go : (t : Bool)
        → cond t (own == slice_index shape.counts plp)
        ((own == 0) && has_begun c plp (packets_at past (begin_of c plp n)) (slice_index shape.counts plp)) ≡ true
        → own ≡ cond {A = ℕ} t (slice_index shape.counts plp) 0
    go true e = eqb-true own (slice_index shape.counts plp) e
    go false e = eqb-true own 0
        (and_parts (own == 0) (has_begun c plp (packets_at past (begin_of c plp n)) (slice_index shape.counts plp)) e).0

-- there are as many blocks as a shape tells
counts_are : (c : Config) (past : List Numbered) (n : ℕ) (packets : List Packet) (shape : FrameShape)
    → has_counts c past n packets (Some shape) ≡ true
    → (plp : ℕ) → plp < length c.plps → length (blocks_of c plp packets) ≡ own_count c n shape plp
counts_are c past n packets shape all plp inside =
    let there : get_or (places c) plp 0 ≡ plp = let e = get_or-range_with_len 0 (length c.plps) plp 0 inside in
    omega (arith, e) in
    let within : plp < length (places c) = let size = length-range_with_len 0 (length c.plps) in omega
    (arith, size, inside) in
    let passes = AllPass-from_list_all
    (λ plp. has_count c past n plp (length (blocks_of c plp packets)) (slice_index shape.counts plp))
    (places c) all plp 0 within in
    own_is c past n plp (length (blocks_of c plp packets)) shape
    (subst (λ (j : ℕ). has_count c past n j (length (blocks_of c j packets)) (slice_index shape.counts j) ≡ true)
    there passes)

-- if each block is known, all have the length of their PLP
module _ (c : Config) (plan : IsPlan c) (plp : ℕ) (inside : plp < length c.plps) where
  abbrev own_id : ℕ
  own_id = (plp_at c.plps plp).id

  -- what a block is known by
  abbrev is_of : ℕ → List Bool → ℕ → Bool
  is_of id bits k = (id == (plp_at c.plps k).id) && has_length c k bits

  known_length : (id : ℕ) (bits : List Bool) → list_any (is_of id bits) (places c) ≡ true → id ≡ own_id
      → has_length c plp bits
      ≡ true
  known_length id bits known own =
      let found = Any-from_list_any (is_of id bits) (places c) known in
      let k : ℕ = found.0 in
      let within : k < length c.plps = let size = length-range_with_len 0 (length c.plps) in let l = found.2 in
      omega (arith, size, l) in
      let there : found.1 ≡ k = let e = get_or-range_with_len 0 (length c.plps) k found.1 within in let f = found.3 in
      omega (arith, e, f) in
      let both = and_parts (id == (plp_at c.plps k).id) (has_length c k bits)
      (subst (λ (j : ℕ). is_of id bits j ≡ true) there found.4) in
      let of_k : id ≡ (plp_at c.plps k).id = eqb-true id (plp_at c.plps k).id both.0 in
      ⊎_elim (λ (e : k ≡ plp). subst (λ (j : ℕ). has_length c j bits ≡ true) e both.1)
      (λ (ne : k ≡ plp → ⊥). absurd ((place_is c plan.rules own_id plp inside refl).others k within ne (sym of_k
      ∙ own)))
      (cases_eq k plp)

  by_id : (id : ℕ) (bits own : List Bool) → list_any (is_of id bits) (places c) ≡ true → (t : Bool) → (id == own_id) ≡ t
      → cond t (Some bits) None ≡ Some own → has_length c plp own ≡ true
  by_id id bits own known true is e =
      subst (λ (b : List Bool). has_length c plp b ≡ true) (ap (λ (o : Option (List Bool)). unwrap_or o bits) e)
      (known_length id bits known (eqb-true id own_id is))
  by_id id bits own known false is e = not_some own (sym e)

  body_length : (body : Body) → body_known c body ≡ true → (bits : List Bool) → body_block own_id body ≡ Some bits
      → has_length c plp bits ≡ true
  body_length (Block frame_idx id first own) known bits e = by_id id own bits known (id == own_id) refl e
  body_length (L1Current frame_idx pre conf dynamic extension) known bits e = not_some bits (sym e)
  body_length (Timestamp stamp) known bits e = not_some bits (sym e)
  body_length (Other packet_type others) known bits e = not_some bits (sym e)

  kept : (o : Option (List Bool)) (more : List (List Bool)) → ((bits : List Bool) → o ≡ Some bits
      → has_length c plp bits ≡ true)
      → filter (has_length c plp) more ≡ more
      → filter (has_length c plp) (cons_option o more) ≡ cons_option o more
  kept None more right rest = rest
  kept (Some bits) more right rest =
      ap (λ (t : Bool). cond t (bits ∷ filter (has_length c plp) more) (filter (has_length c plp) more))
      (right bits refl)
      ∙ ap (λ (l : List (List Bool)). bits ∷ l) rest

  all_right : (packets : List Packet) → list_all (is_known c) packets ≡ true → right_blocks c plp packets
      ≡ blocks_of c plp packets
  all_right [] known = refl
  all_right (p ∷ packets) known =
      let both = and_parts (is_known c p) (list_all (is_known c) packets) known in
      kept (body_block own_id p.body) (blocks_of c plp packets) (body_length p.body both.0) (all_right packets both.1)

-- a block as it is sent, by the bytes that are held of it
one_laid : (c : Config) (plp count : ℕ) (bits : List Bool) → length bits ≡ 8 * count
    → plp_block c plp (held_bytes bits) ≡ sent_block c plp bits
one_laid c plp count bits size = ap (λ (l : List Bool). sent_block c plp l) (bits_of-bytes_of bits count size)

plp_laid : (c : Config) (plp count : ℕ) (blocks : List (List Bool))
    → ((place : ℕ) → place < length blocks → length (get_or blocks place []) ≡ 8 * count)
    → map (plp_block c plp) (map held_bytes blocks) ≡ map (sent_block c plp) blocks
plp_laid c plp count [] sizes = refl
plp_laid c plp count (b ∷ blocks) sizes =
    ap₂ (λ x y. x ∷ y) (one_laid c plp count b (sizes 0 (omega arith)))
    (plp_laid c plp count blocks (λ place lt. sizes (suc place) (omega (arith, lt))))

-- the blocks of lists, PLP by PLP
laid : (c : Config) (blocks : ℕ → List (List Bool)) (a n : ℕ)
    → ((plp place : ℕ) → place < length (blocks plp) → length (get_or (blocks plp) place []) ≡ 8 * block_bytes c plp)
    → list_blocks c a (map (λ plp. map held_bytes (blocks plp)) (range_with_len a n))
    ≡ flat_map (λ plp. map (sent_block c plp) (blocks plp)) (range_with_len a n)
laid c blocks a zero sizes = refl
laid c blocks a (suc n) sizes =
    ap₂ (λ x y. x ++ y) (plp_laid c a (block_bytes c a) (blocks a) (sizes a)) (laid c blocks (a + 1) n sizes)

-- the bytes of a block that has the length of its PLP
whole_bytes : (bits width : ℕ) → bits ≡ 8 * width → bytes_for bits ≡ width
whole_bytes bits width e = omega (arith, e)

sent_length : BitCounts → (bits : List Bool) (width : ℕ) → length bits ≡ 8 * width → length (held_bytes bits) ≡ width
sent_length sizes bits width e = length-bytes_of bits ∙ whole_bytes (length bits) width e

module _ (sizes : BitCounts) (c : Config) (past : List Numbered) (n : ℕ) (packets : List Packet) (shape : FrameShape)
    (lists : List (List (List ℕ)))
    (plan : IsPlan c) (passes : packets_fault c past n packets ≡ None)
    (first : first_shape c packets ≡ Some shape) (told : length shape.counts ≡ length c.plps)
    (long : length lists ≡ length c.plps)
    (held : (plp : ℕ) → plp < length c.plps → list_at lists plp ≡ map held_bytes (right_blocks c plp packets)) where
  lists_sent : list_blocks c 0 lists ≡ sent_blocks c (λ plp. right_blocks c plp packets)
  lists_sent =
      ap (list_blocks c 0) (fill_by_all (λ plp. map held_bytes (right_blocks c plp packets)) lists (length c.plps)
      [] long held)
      ∙ laid c (λ plp. right_blocks c plp packets) 0 (length c.plps)
      (λ plp place there. eqb-true (length (get_or (right_blocks c plp packets) place [])) (8 * block_bytes c plp)
      (filter_passes (has_length c plp) (blocks_of c plp packets) place [] there))

  held_count : (plp : ℕ) → plp < length c.plps → length (list_at lists plp) ≡ own_count c n shape plp
  held_count plp inside =
      let tests = blocks_pass c past n packets (blocks_none c past n packets passes) in
      let counts : has_counts c past n packets (Some shape) ≡ true =
      subst (λ (o : Option FrameShape). has_counts c past n packets o ≡ true) first tests.0 in
      ap length (held plp inside) ∙ length-map (right_blocks c plp packets) held_bytes
      ∙ ap length (all_right c plan plp inside packets tests.1)
      ∙ counts_are c past n packets shape counts plp inside

  held_length : (plp place : ℕ) → plp < length c.plps → place < length (map held_bytes (right_blocks c plp packets))
      → length (slice_index_or (map held_bytes (right_blocks c plp packets)) place []) ≡ block_bytes c plp
  held_length plp place inside within =
      let there : place < length (right_blocks c plp packets) = let size = length-map (right_blocks c plp packets)
      held_bytes in
      omega (arith, size, within) in
      let right = filter_passes (has_length c plp) (blocks_of c plp packets) place [] there in
      ap length (get_or-map held_bytes (right_blocks c plp packets) place [] [] there)
      ∙ sent_length sizes (get_or (right_blocks c plp packets) place []) (block_bytes c plp)
      (eqb-true (length (get_or (right_blocks c plp packets) place [])) (8 * block_bytes c plp) right)

  pub has_blocks : HasBlocks c (own_count c n shape) lists
  has_blocks = record {
    plps = long;
    counts = λ plp l. held_count plp (omega (arith, l, long));
    each = λ plp place within.
        ⊎_elim
        (λ (inside : plp < length c.plps).
        let is = held plp inside in
        let there : place < length (map held_bytes (right_blocks c plp packets)) = let e = ap length is in
        omega (arith, e, within) in
        ap (λ (l : List (List ℕ)). length (slice_index_or l place [])) is ∙ held_length plp place inside there)
        (λ (past : length c.plps ≤ plp).
        let none = ap length (get_or_past lists plp [] (omega (arith, past, long))) in
        absurd (omega (arith, none, within)))
        (cases_lt plp (length c.plps));
  }

  pub same_view : (dynamic : List Bool) → dynamic ≡ dynamic_in packets
      → written_frame c (emission c n) (n % c.frames) dynamic shape lists ≡ packets_view c n packets
  same_view dynamic is =
      ap (λ (d : List Bool). frame_view c (emission c n) (n % c.frames) (post_with c d) (list_blocks c 0 lists) shape)
      is
      ∙ ap (λ b. frame_view c (emission c n) (n % c.frames) (post_with c (dynamic_in packets)) b shape) lists_sent
      ∙ ap (λ (o : Option FrameShape). frame_view c (emission c n) (n % c.frames) (post_with c (dynamic_in packets))
      (sent_blocks c (λ plp. right_blocks c plp packets)) (unwrap_or o (blank (length c.plps)))) (sym first)

-- What a writer gives of the lists of a group that passes is the record of its frame.
pub given_frame : RecordWritten → BlockCount → RestLength → BitCounts
    → (c : Config) (past : List Numbered) (n : ℕ) (packets : List Packet) (dynamic : List Bool) (shape : FrameShape)
    (lists : List (List (List ℕ))) (blocks rest : ℕ)
    → IsPlan c → packets_fault c past n packets ≡ None → dynamic ≡ dynamic_in packets
    → first_shape c packets ≡ Some shape
    → length shape.counts ≡ length c.plps → length lists ≡ length c.plps
    → ((plp : ℕ) → plp < length c.plps → list_at lists plp ≡ map held_bytes (right_blocks c plp packets))
    → blocks ≡ sum_by (own_count c n shape) (places c)
    → rest ≡ rest_size c (post_size c (length dynamic)) (own_count c n shape)
    → front_bytes c (emission c n) dynamic blocks rest ++ step_bytes c shape (n % c.frames) lists (Blocks 0)
    ≡ record_bytes (packets_view c n packets)
given_frame written count size sizes c past n packets dynamic shape lists blocks rest plan passes is
    first told long held so_many
    so_long =
    let has = has_blocks sizes c past n packets shape lists plan passes first told long held in
    let all : blocks ≡ length (list_blocks c 0 lists) = so_many ∙ sym (count c (own_count c n shape) lists has) in
    let follow : rest ≡ length
    (concat (written_rest (written_frame c (emission c n) (n % c.frames) dynamic shape lists))) =
    so_long ∙ sym (size c (emission c n) (n % c.frames) dynamic shape (own_count c n shape) lists has) in
    ap₂ (λ (b r : ℕ). front_bytes c (emission c n) dynamic b r ++ step_bytes c shape (n % c.frames) lists (Blocks 0))
    all follow
    ∙ written c (emission c n) (n % c.frames) dynamic shape lists
    ∙ ap record_bytes (same_view sizes c past n packets shape lists plan passes first told long held dynamic is)
