-- The test of a shape says whether it passes.
use Rattle.std.proofs.Common.{◌≡◌, ℕ, zero, suc, ◌+◌, ◌/◌, ◌%◌, ◌<◌, ◌==◌, ◌&&◌, ◌||◌, not, Bool, true, false}
use Rattle.std.proofs.Common.{List, [], ◌∷◌, cond, length, refl, sym, ap, ◌∙◌, subst, arith}
use Rattle.std.specs.Prelude.{slice_index, nat_le, filter}
use Rattle.std.specs.List.{list_all, range_with_len}
use Rattle.std.proofs.Math.Nat.{mod-lt}
use Rattle.std.proofs.lemmas.Bool.{and_from, and_parts, both_ways, eqb-true, eq-eqb, ltb-true, lt-ltb, leb-true, le-leb}
use Rattle.plp_config.specs.Capacity.{IsPlan, block_cells}
use Rattle.plp_config.specs.Plps.{plp_at}
use Rattle.plp_config.specs.Rules.{SuperframeLength}
use Rattle.plp_config.specs.declared.config.Config.{Config}
use Rattle.scheduler.specs.Shape.{FrameShape, cells_of}
use Rattle.cell_map.specs.Address.{IsCarried, position_of, part_of, address_of}
use Rattle.cell_map.specs.CellMap.{Passes, is_carried, carried_cells}
use Rattle.cell_map.specs.Laws.{PartsRepeat}
use Rattle.frame_groups.specs.MapTest.{each_below, each_cell, is_within, are_apart, all_apart, counts_within}
use Rattle.frame_groups.specs.MapTest.{frame_passes, map_passes}
use Rattle.frame_groups.specs.TestLaws.{MapPasses}

-- each number from one on passes
range_at : (a n : ℕ) (test : ℕ → Bool) → list_all test (range_with_len a n) ≡ true → (k : ℕ) → k < n
    → test (a + k) ≡ true
range_at a zero test e k l = absurd (omega (arith, l))
range_at a (suc n) test e zero l = let x : a ≡ a + 0 = omega arith in
    subst (λ (j : ℕ). test j ≡ true) x (and_parts (test a) (list_all test (range_with_len (a + 1) n)) e).0
range_at a (suc n) test e (suc k) l =
    let x : a + 1 + k ≡ a + suc k = omega arith in
    subst (λ (j : ℕ). test j ≡ true) x
    (range_at (a + 1) n test (and_parts (test a) (list_all test (range_with_len (a + 1) n)) e).1 k (omega (arith, l)))

range_from : (a n : ℕ) (test : ℕ → Bool) → ((k : ℕ) → k < n → test (a + k) ≡ true)
    → list_all test (range_with_len a n) ≡ true
range_from a zero test h = refl
range_from a (suc n) test h =
    let x : a + 0 ≡ a = omega arith in
    and_from (test a) (list_all test (range_with_len (a + 1) n)) (subst (λ (j : ℕ). test j ≡ true) x
    (h 0 (omega arith)))
    (range_from (a + 1) n test (λ k l. let y : a + suc k ≡ a + 1 + k = omega arith in
    subst (λ (j : ℕ). test j ≡ true) y (h (suc k) (omega (arith, l)))))

each_at : (n : ℕ) (test : ℕ → Bool) → each_below n test ≡ true → (k : ℕ) → k < n → test k ≡ true
each_at n test e k l = let x : 0 + k ≡ k = omega arith in subst (λ (j : ℕ). test j ≡ true) x (range_at 0 n test e k l)

each_from : (n : ℕ) (test : ℕ → Bool) → ((k : ℕ) → k < n → test k ≡ true) → each_below n test ≡ true
each_from n test h = range_from 0 n test (λ k l. let x : k ≡ 0 + k = omega arith in subst (λ (j : ℕ). test j ≡ true)
    x (h k l))

-- those of a list that are kept pass, exactly if each one does or is not kept
filtered : (keep test : ℕ → Bool) (xs : List ℕ) → list_all test (filter keep xs) ≡ list_all
    (λ k. not (keep k) || test k) xs
filtered keep test [] = refl
filtered keep test (x ∷ xs) = go (keep x) (filtered keep test xs)
  where
    go : (b : Bool) → list_all test (filter keep xs) ≡ list_all (λ k. not (keep k) || test k) xs
        → list_all test (cond b (x ∷ filter keep xs) (filter keep xs))
        ≡ ((not b || test x) && list_all (λ k. not (keep k) || test k) xs)
    go true rest = ap (λ (t : Bool). test x && t) rest
    go false rest = rest

kept : (k t : Bool) → k ≡ true → (not k || t) ≡ true → t ≡ true
kept true t y h = h
kept false t y h = absurd (both_ways false refl y)

keeps : (k t : Bool) → (k ≡ true → t ≡ true) → (not k || t) ≡ true
keeps true t h = h refl
keeps false t h = refl

-- each cell of a block that a frame carries passes
carried_at : (c : Config) (shape : FrameShape) (frame_idx i b : ℕ) (test : ℕ → Bool)
    → list_all test (carried_cells c shape frame_idx i b) ≡ true → (q : ℕ) → q < block_cells c i
    → is_carried c shape frame_idx i b q ≡ true → test q ≡ true
carried_at c shape frame_idx i b test e q l carried =
    kept (is_carried c shape frame_idx i b q) (test q) carried
    (each_at (block_cells c i) (λ k. not (is_carried c shape frame_idx i b k) || test k)
    (sym (filtered (is_carried c shape frame_idx i b) test (range_with_len 0 (block_cells c i))) ∙ e) q l)

carried_from : (c : Config) (shape : FrameShape) (frame_idx i b : ℕ) (test : ℕ → Bool)
    → ((q : ℕ) → q < block_cells c i → is_carried c shape frame_idx i b q ≡ true → test q ≡ true)
    → list_all test (carried_cells c shape frame_idx i b) ≡ true
carried_from c shape frame_idx i b test h = grind (arith, filtered, each_from, keeps)

-- each cell that a frame carries passes
cell_at : (c : Config) (shape : FrameShape) (frame_idx : ℕ) (test : ℕ → ℕ → ℕ → Bool)
    → each_cell c shape frame_idx test ≡ true
    → (i b q : ℕ) → IsCarried c shape frame_idx i b q → test i b q ≡ true
cell_at c shape frame_idx test e i b q is =
    carried_at c shape frame_idx i b (test i b)
    (each_at (slice_index shape.counts i) (λ block. list_all (test i block) (carried_cells c shape frame_idx i block))
    (each_at (length c.plps)
    (λ plp. each_below (slice_index shape.counts plp)
    (λ block. list_all (test plp block) (carried_cells c shape frame_idx plp block))) e i
    is.there.configured) b is.there.sent) q is.there.within
    (eq-eqb (position_of c shape i b q / cells_of c shape.counts i) (part_of c frame_idx i) is.carried)

cell_from : (c : Config) (shape : FrameShape) (frame_idx : ℕ) (test : ℕ → ℕ → ℕ → Bool)
    → ((i b q : ℕ) → IsCarried c shape frame_idx i b q → test i b q ≡ true) → each_cell c shape frame_idx test ≡ true
cell_from c shape frame_idx test h =
    each_from (length c.plps)
    (λ plp. each_below (slice_index shape.counts plp)
    (λ block. list_all (test plp block) (carried_cells c shape frame_idx plp block)))
    (λ i x. each_from (slice_index shape.counts i) (λ block. list_all (test i block)
    (carried_cells c shape frame_idx i block))
    (λ b y. carried_from c shape frame_idx i b (test i b)
    (λ q z w. h i b q (record {
      there = record { configured = x; sent = y; within = z };
      carried = eqb-true (position_of c shape i b q / cells_of c shape.counts i) (part_of c frame_idx i) w;
    }))))

-- two cells with one address are one
apart_at : (a b i j d e q r : ℕ) → (not (a == b) || ((i == j) && (d == e) && (q == r))) ≡ true → a ≡ b
    → (i ≡ j) × (d ≡ e)
    × (q ≡ r)
apart_at a b i j d e q r t same = grind (arith, eq-eqb, and_parts, eqb-true, both_ways)

apart_from : (a b i j d e q r : ℕ) → (a ≡ b → (i ≡ j) × (d ≡ e) × (q ≡ r))
    → (not (a == b) || ((i == j) && (d == e) && (q == r)))
    ≡ true
apart_from a b i j d e q r h = grind (arith, eqb-true, and_from, eq-eqb)

-- a frame and the one with its number in the first superframe carry the same cells at the same addresses
carried_again : (c : Config) (shape : FrameShape) (frame_idx other plp block cell : ℕ)
    → part_of c other plp ≡ part_of c frame_idx plp → IsCarried c shape frame_idx plp block cell
    → IsCarried c shape other plp block cell
carried_again c shape frame_idx other plp block cell same is =
    record { there = is.there; carried = is.carried ∙ sym same }

address_again : (c : Config) (shape : FrameShape) (frame_idx other plp block cell : ℕ)
    → part_of c other plp ≡ part_of c frame_idx plp
    → address_of c shape other plp block cell ≡ address_of c shape frame_idx plp block cell
address_again c shape frame_idx other plp block cell same = grind arith

module _ (repeat : PartsRepeat) (c : Config) (shape : FrameShape) (plan : IsPlan c) where
  -- the same of a frame of a run, by its number in its superframe
  again : (frame_idx plp block cell : ℕ) → IsCarried c shape frame_idx plp block cell
      → IsCarried c shape (frame_idx % c.frames) plp block cell
  again frame_idx plp block cell is = grind (arith, carried_again)

  there_again : (frame_idx plp block cell : ℕ) → IsCarried c shape frame_idx plp block cell
      → address_of c shape (frame_idx % c.frames) plp block cell ≡ address_of c shape frame_idx plp block cell
  there_again frame_idx plp block cell is = grind (arith, address_again)

  -- each frame of a run is like one of a superframe
  frame_at : each_below c.frames (frame_passes c shape) ≡ true → (frame_idx : ℕ)
      → frame_passes c shape (frame_idx % c.frames) ≡ true
  frame_at e frame_idx =
      each_at c.frames (frame_passes c shape) e (frame_idx % c.frames)
      (mod-lt frame_idx {m = c.frames} (omega (arith, (plan.rules SuperframeLength).0)))

  below_at : each_below c.frames (frame_passes c shape) ≡ true → (frame_idx plp block cell : ℕ)
      → IsCarried c shape frame_idx plp block cell → address_of c shape frame_idx plp block cell < c.cells
  below_at e frame_idx plp block cell is =
      let other : ℕ = frame_idx % c.frames in
      let both = and_parts (each_cell c shape other (is_within c shape other)) (all_apart c shape other)
      (frame_at e frame_idx) in
      let low = ltb-true (address_of c shape other plp block cell) c.cells
      (cell_at c shape other (is_within c shape other) both.0 plp block cell (again frame_idx plp block cell is)) in
      subst (λ (k : ℕ). k < c.cells) (there_again frame_idx plp block cell is) low

  all_apart_at : each_below c.frames (frame_passes c shape) ≡ true → (frame_idx i b q j d r : ℕ)
      → IsCarried c shape frame_idx i b q → IsCarried c shape frame_idx j d r
      → address_of c shape frame_idx i b q ≡ address_of c shape frame_idx j d r → (i ≡ j) × (b ≡ d) × (q ≡ r)
  all_apart_at e frame_idx i b q j d r one other same =
      let at : ℕ = frame_idx % c.frames in
      let both = and_parts (each_cell c shape at (is_within c shape at)) (all_apart c shape at)
      (frame_at e frame_idx) in
      let first = there_again frame_idx i b q one in
      let second = there_again frame_idx j d r other in
      apart_at (address_of c shape at i b q) (address_of c shape at j d r) i j b d q r
      (cell_at c shape at (are_apart c shape at i b q)
      (cell_at c shape at (λ i b q. each_cell c shape at (are_apart c shape at i b q)) both.1 i b q
      (again frame_idx i b q one))
      j d r (again frame_idx j d r other))
      (first ∙ same ∙ sym second)

  passes_at : map_passes c shape ≡ true → Passes c shape
  unfolding map_passes
  passes_at e =
      let both = and_parts (counts_within c shape) (each_below c.frames (frame_passes c shape)) e in
      record {
        counts = λ plp l. leb-true (slice_index shape.counts plp) (plp_at c.plps plp).blocks
            (each_at (length c.plps) (λ plp. nat_le (slice_index shape.counts plp) (plp_at c.plps plp).blocks)
            both.0 plp l);
        below = below_at both.1;
        apart = all_apart_at both.1;
      }

-- and a shape that passes in every frame passes in those of a superframe
frame_from : (c : Config) (shape : FrameShape) (frame_idx : ℕ) → Passes c shape → frame_passes c shape frame_idx ≡ true
frame_from c shape frame_idx p =
    and_from (each_cell c shape frame_idx (is_within c shape frame_idx)) (all_apart c shape frame_idx)
    (cell_from c shape frame_idx (is_within c shape frame_idx)
    (λ i b q is. lt-ltb (address_of c shape frame_idx i b q) c.cells (p.below frame_idx i b q is)))
    (cell_from c shape frame_idx (λ i b q. each_cell c shape frame_idx (are_apart c shape frame_idx i b q))
    (λ i b q one. cell_from c shape frame_idx (are_apart c shape frame_idx i b q)
    (λ j d r other. apart_from (address_of c shape frame_idx i b q) (address_of c shape frame_idx j d r) i j b d q r
    (p.apart frame_idx i b q j d r one other))))

passes_from : (c : Config) (shape : FrameShape) → Passes c shape → map_passes c shape ≡ true
unfolding map_passes
passes_from c shape p = grind (arith, and_from, each_from, le-leb, frame_from)

pub map_is : PartsRepeat → MapPasses
map_is repeat c shape plan = (passes_at repeat c shape plan, passes_from c shape)
