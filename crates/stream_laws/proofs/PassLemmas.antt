-- The six tests of the packets of a frame, and what they say of fewer.
use Rattle.std.proofs.Common.{◌≡◌, ℕ, zero, suc, ◌+◌, ◌*◌, ◌<◌, ◌≤◌, ◌&&◌, Bool, true, false, List, [], ◌∷◌}
use Rattle.std.proofs.Common.{length, Some, None, refl, ap, sym, subst, ◌∙◌, ⊎_elim, arith, sum_by}
use Rattle.std.specs.Prelude.{slice_index}
use Rattle.std.specs.Bool.{beq}
use Rattle.std.specs.Cmp.{booleans_Decides}
use Rattle.std.specs.Cmp.Lexicographic.{pointwise, pointwise_decides}
use Rattle.std.specs.List.{list_all, range_with_len, AllByRecursion}
use Rattle.std.proofs.lemmas.Bool.{and_from, cases_Bool, cond-true, cond-false, eq-eqb, le-leb, cond_both}
use Rattle.std.proofs.lemmas.List.Folds.{fold-map}
use Rattle.std.proofs.lemmas.List.FromFn.{fill_by_all}
use Rattle.std.proofs.lemmas.List.Sums.{sum_by-cons}
use Rattle.std.proofs.lemmas.Nat.{mul-le}
use Rattle.bb_frame.specs.Laws.{BitCounts}
use Rattle.plp_config.specs.Capacity.{IsPlan, block_bytes, block_cells}
use Rattle.plp_config.specs.InterleavingFrames.{interleaving_frame, is_first}
use Rattle.plp_config.specs.Laws.{FieldRange, BlockChunks, CellsByFive, BlocksFit}
use Rattle.plp_config.specs.Plps.{plp_at, no_plp}
use Rattle.plp_config.specs.Tables.{cells_per_block}
use Rattle.plp_config.specs.declared.config.Config.{Config}
use Rattle.plp_config.specs.declared.plp.Plp.{Plp}
use Rattle.linked_pool.specs.Pool.{chunks_for}
use Rattle.scheduler.specs.Laws.{CountsFit, ShapeFitsL1, ShapeHasCounts}
use Rattle.cell_map.specs.Laws.{ShapePasses}
use Rattle.l1_signal.specs.Laws.{PreWritten, ConfWritten, DynReadBack, DynWritten}
use Rattle.t2mi_packet.specs.declared.packet.Packet.{Packet}
use Rattle.mode_adapt.specs.Blocks.{plp_blocks, own_blocks, told_counts}
use Rattle.record_laws.specs.Frames.{frame_shape}
use Rattle.record_laws.specs.Laws.{ToldCountsFit}
use Rattle.frame_groups.specs.Modulated.{Numbered}
use Rattle.frame_groups.specs.Begun.{is_begin, packets_at}
use Rattle.frame_groups.specs.Carried.{blocks_of, right_blocks, L1Parts, l1s_of}
use Rattle.frame_groups.specs.TestLaws.{MapPasses, PartsTold}
use Rattle.frame_groups.specs.Tests.{pool_chunks, pool_need, room_test, pool_test, same_parts, parts_agree, l1s_agree}
use Rattle.frame_groups.specs.Tests.{l1_test, l1_shape, has_count, packets_fault}
use Rattle.stream_laws.proofs.CarryLemmas.{unless_true, pool_none, all_pass}
use Rattle.stream_laws.specs.Types.{TypesFit}
use Rattle.stream_laws.proofs.BlockLemmas.{count_at}
use Rattle.stream_laws.proofs.FrameSignalLemmas.{frame_parts, parts_pass, frame_told}
use Rattle.stream_laws.proofs.CarriedLemmas.{HasFrame}
use Rattle.stream_laws.proofs.BegunLemmas.{Interleaving, HaveBegun}

-- What the laws of the crates below say.
pub record Given : Type 0 where
  pub told : PartsTold
  pub pre_written : PreWritten
  pub conf_written : ConfWritten
  pub dyn_back : DynReadBack
  pub dyn_written : DynWritten
  pub numbers : BitCounts
  pub counted : ToldCountsFit
  pub field : FieldRange
  pub chunks : BlockChunks
  pub cells : CellsByFive
  pub room : BlocksFit
  pub fits : ShapeFitsL1
  pub counts : ShapeHasCounts
  pub passes : ShapePasses
  pub map : MapPasses
  pub laws : Interleaving

pub given_by : PartsTold → PreWritten → ConfWritten → DynReadBack → DynWritten → BitCounts → ToldCountsFit → FieldRange
    → BlockChunks → CellsByFive → BlocksFit → ShapeFitsL1 → ShapeHasCounts → ShapePasses → MapPasses
    → Interleaving → Given
given_by a b d e f g h i j k l m n o p q = record {
  told = a;
  pre_written = b;
  conf_written = d;
  dyn_back = e;
  dyn_written = f;
  numbers = g;
  counted = h;
  field = i;
  chunks = j;
  cells = k;
  room = l;
  fits = m;
  counts = n;
  passes = o;
  map = p;
  laws = q;
}

-- ---- two L1-current packets with the same parts are the same

bits_self : (bits : List Bool) → pointwise beq bits bits ≡ true
bits_self bits = (pointwise_decides booleans_Decides bits bits).1 refl

parts_self : (l1 : L1Parts) → same_parts l1 l1 ≡ true
parts_self l1 = grind (arith, and_from, bits_self)

-- ---- the chunks of a frame

-- a block fills one chunk at least
chunks_most : BlockChunks → CellsByFive → (c : Config) (plp : ℕ) → 2025 * chunks_for (block_bytes c plp) ≤ 7
    * block_cells c plp
chunks_most law cells c plp = grind arith

sums_most : (f g : ℕ → ℕ) (count : ℕ) → ((plp : ℕ) → plp < count → 2025 * f plp ≤ 7 * g plp) → (a k : ℕ) → a + k ≤ count
    → 2025 * sum_by f (range_with_len a k) ≤ 7 * sum_by g (range_with_len a k)
sums_most f g count h a zero l = omega arith
sums_most f g count h a (suc k) l =
    let x = sum_by-cons f a (range_with_len (a + 1) k) in
    let y = sum_by-cons g a (range_with_len (a + 1) k) in
    let one = h a (omega (arith, l)) in
    let rest = sums_most f g count h (a + 1) k (omega (arith, l)) in
    omega (arith, x, y, one, rest)

-- a sum over the PLPs, by their places
sum_places : (h : Plp → ℕ) (plps : List Plp) → sum_by h plps ≡ sum_by (λ k. h (plp_at plps k))
    (range_with_len 0 (length plps))
sum_places h plps = ap (sum_by h) (fill_by_all (plp_at plps) plps (length plps) no_plp refl (λ k l. refl))
    ∙ fold-map (λ (sum : ℕ) (plp : Plp). sum + h plp) (plp_at plps) 0 (range_with_len 0 (length plps))

-- No PLP has more blocks than it may.
abbrev pub AreFew : Config → List Packet → Type 0
AreFew c packets = (plp : ℕ) → plp < length c.plps → length (right_blocks c plp packets) ≤ (plp_at c.plps plp).blocks

pool_holds : BlockChunks → CellsByFive → BlocksFit → (c : Config) (packets : List Packet) → IsPlan c → AreFew c packets
    → pool_need c packets ≤ pool_chunks c
unfolding block_cells
pool_holds law cells room c packets plan few =
    let n : ℕ = length c.plps in
    let all =
    sums_most (λ plp. length (right_blocks c plp packets) * chunks_for (block_bytes c plp))
    (λ plp. (plp_at c.plps plp).blocks * block_cells c plp) n
    (λ plp inside.
    let m = mul-le (length (right_blocks c plp packets)) (2025 * chunks_for (block_bytes c plp))
    (plp_at c.plps plp).blocks
    (7 * block_cells c plp) (few plp inside) (chunks_most law cells c plp) in omega (arith, m)) 0 n (omega arith) in
    let sum = sum_places (λ plp. plp.blocks * cells_per_block plp.fec plp.modulation) c.plps in
    let need = room c plan in
    omega (arith, all, sum, need)

-- In the groups where an interleaving frame begins that frame n carries no PLP has more blocks than it may.
abbrev pub HaveRoom : Config → List Numbered → ℕ → Type 0
HaveRoom c past n = (b : ℕ) → b < n → is_begin c n b ≡ true → AreFew c (packets_at past b)

-- ---- the tests of packets that carry nothing but what frame n has

module _ (given : Given) (c : Config) (inputs : ℕ → List (List ℕ)) (n : ℕ) (plan : IsPlan c) (types : TypesFit c) where
  abbrev counts : List ℕ
  counts = told_counts c inputs n

  fit : CountsFit c counts
  fit = given.counted c inputs n plan

  -- what is sent of a PLP is no more than it may have
  pub own_few : (plp : ℕ) → plp < length c.plps → length (own_blocks c inputs n plp) ≤ (plp_at c.plps plp).blocks
  own_few plp inside = grind (arith, cond_both, count_at, fit)

  -- a, if no PLP has more blocks, here or where an interleaving frame began that frame n carries
  room_passes : (packets : List Packet) → AreFew c packets → room_test c packets ≡ None
  unfolding room_test
  room_passes packets few =
      unless_true _ _ (le-leb _ _ (pool_holds given.chunks given.cells given.room c packets plan few))

  pub pool_passes : (past : List Numbered) (k : ℕ) (packets : List Packet) → HaveRoom c past k → AreFew c packets
      → pool_test c past k packets ≡ None
  pool_passes past k packets rooms few = pool_none c past k packets
      (λ b below e. room_passes (packets_at past b) (rooms b below e)) (room_passes packets few)

  -- c, if all L1-current packets are the frame's
  agree : parts_agree c n (frame_parts c inputs n) ≡ true
  agree = parts_pass c plan types n counts fit given.told given.pre_written given.conf_written given.dyn_written
      given.fits

  same_all : (l1s : List L1Parts) → AllByRecursion (λ l1. l1 ≡ frame_parts c inputs n) l1s
      → list_all (same_parts (frame_parts c inputs n)) l1s ≡ true
  same_all [] h = refl
  same_all (l1 ∷ l1s) h =
      and_from _ _ (subst (λ (x : L1Parts). same_parts (frame_parts c inputs n) x ≡ true) (sym h.0)
      (parts_self (frame_parts c inputs n)))
      (same_all l1s h.1)

  l1s_pass : (l1s : List L1Parts) → AllByRecursion (λ l1. l1 ≡ frame_parts c inputs n) l1s → l1s_agree c n l1s ≡ true
  l1s_pass [] h = refl
  l1s_pass (l1 ∷ l1s) h =
      subst (λ (x : L1Parts). (list_all (same_parts x) l1s && parts_agree c n x) ≡ true) (sym h.0)
      (and_from _ _ (same_all l1s h.1) agree)

  pub l1_passes : (packets : List Packet) → AllByRecursion (λ l1. l1 ≡ frame_parts c inputs n) (l1s_of packets)
      → l1_test c n packets ≡ None
  unfolding l1_test
  l1_passes packets h = unless_true _ _ (l1s_pass (l1s_of packets) h)

  -- the shape that the frame's L1-current tells
  pub parts_tell : l1_shape c (frame_parts c inputs n) ≡ Some (frame_shape c inputs n)
  parts_tell = frame_told given.counted given.dyn_back given.dyn_written given.fits c inputs n plan types

  -- ---- all packets of the frame

  module _ (past : List Numbered) (rooms : HaveRoom c past n) (begun : HaveBegun c inputs past n)
      (packets : List Packet) (has : HasFrame c inputs n packets) where
    abbrev told : ℕ → ℕ
    told plp = slice_index (frame_shape c inputs n).counts plp

    told_is : (plp : ℕ) → plp < length c.plps → told plp ≡ length (plp_blocks c inputs (interleaving_frame c plp n) plp)
    told_is plp inside = ap (λ (l : List ℕ). slice_index l plp) (given.counts c counts) ∙ count_at c inputs n plp inside

    has_one : (plp : ℕ) → plp < length c.plps → has_count c past n plp (length (blocks_of c plp packets)) (told plp)
        ≡ true
    has_one plp inside =
        let own = ap length (has.blocks plp inside) in
        ⊎_elim
        (λ (e : is_first c plp n ≡ true).
        cond-true _ _ _ e
        ∙ eq-eqb _ _ (own ∙ ap (λ (l : List (List Bool)). length l) (cond-true _ _ _ e) ∙ sym (told_is plp inside)))
        (λ (e : is_first c plp n ≡ false).
        cond-false _ _ _ e
        ∙ and_from _ _ (eq-eqb _ _ (own ∙ ap (λ (l : List (List Bool)). length l) (cond-false _ _ _ e)))
        (and_from _ _ (eq-eqb _ _ (ap length (begun plp inside e).0 ∙ sym (told_is plp inside)))
        (eq-eqb _ _ (ap length (begun plp inside e).1 ∙ sym (told_is plp inside)))))
        (cases_Bool (is_first c plp n))

    pub passes : packets_fault c past n packets ≡ None
    passes = all_pass c n (frame_parts c inputs n) (frame_shape c inputs n) (own_blocks c inputs n) packets
        (record { l1s = has.l1s; stamps = has.stamps; blocks = has.blocks; right = has.right; known = has.known })
        agree parts_tell ((given.map c (frame_shape c inputs n) plan).1 (given.passes c counts plan fit)) past
        (pool_passes past n packets rooms
        (λ plp inside. let e = ap length (has.right plp inside) in let most = own_few plp inside in omega
        (arith, e, most))) has_one
