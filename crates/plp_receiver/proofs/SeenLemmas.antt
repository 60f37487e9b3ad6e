-- The cells of a block all stand exactly if none is missed when the record is gone over beside the map.
use Rattle.std.proofs.Common.{◌≡◌, ℕ, zero, suc, ◌+◌, ◌%◌, ◌<◌, ◌&&◌, ◌==◌, Bool, true, List, [], ◌∷◌, length}
use Rattle.std.proofs.Common.{get_or, Option, Some, None, refl, ap, ap₂, sym, subst, ◌∙◌, arith}
use Rattle.std.specs.Prelude.{slice_get, not, ◌||◌}
use Rattle.std.specs.FinMap.{get}
use Rattle.std.specs.List.{list_all, range_with_len}
use Rattle.std.proofs.Math.Bool.{and-true, and_assoc}
use Rattle.std.proofs.lemmas.Bool.{and_from, and_parts, eqb-true, eq-eqb, or_right}
use Rattle.std.proofs.lemmas.List.Folds.{list_all-append}
use Rattle.terms.proofs.CaseLemmas.{bool_cases, same_test}
use Rattle.terms.proofs.RangeLemmas.{range_more}
use Rattle.plp_config.specs.Capacity.{block_cells}
use Rattle.plp_config.specs.declared.config.Config.{Config}
use Rattle.scheduler.specs.Shape.{FrameShape}
use Rattle.cell_map.specs.Address.{IsCell, IsCarried, address_of}
use Rattle.cell_map.specs.CellMap.{Passes, ordinal_of, is_carried, cell_map}
use Rattle.cell_map.specs.Laws.{MapHasEachCell, MapHasOnlyCells}
use Rattle.cell_map.specs.declared.places.Cell.{Cell}
use Rattle.frame_groups.specs.MapTest.{each_below}
use Rattle.plp_receiver.specs.Parts.{Part, part_with, is_cell, stands, all_stand}
use Rattle.site_frame.specs.Record.{Block}
use Rattle.plp_receiver.specs.Seeing.{is_right, is_seen, right_at, seen_from, all_seen}
use Rattle.plp_receiver.proofs.CountLemmas.{ordinals_apart}

-- ---- tests of the numbers below one
range_true : (t : ℕ → Bool) (a n : ℕ) → list_all t (range_with_len a n) ≡ true → (k : ℕ) → k < n → t (a + k) ≡ true
range_true t a zero e k l = absurd (omega (arith, l))
range_true t a (suc n) e zero l =
    let same : a + 0 ≡ a = omega arith in
    ap t same ∙ (and_parts (t a) (list_all t (range_with_len (a + 1) n)) e).0
range_true t a (suc n) e (suc k) l =
    let same : a + suc k ≡ a + 1 + k = omega arith in
    ap t same ∙ range_true t (a + 1) n (and_parts (t a) (list_all t (range_with_len (a + 1) n)) e).1
    k (omega (arith, l))

true_range : (t : ℕ → Bool) (a n : ℕ) → ((k : ℕ) → k < n → t (a + k) ≡ true) → list_all t (range_with_len a n) ≡ true
true_range t a zero f = refl
true_range t a (suc n) f =
    let here : a ≡ a + 0 = omega arith in
    and_from (t a) (list_all t (range_with_len (a + 1) n)) (ap t here ∙ f 0 (omega arith))
    (true_range t (a + 1) n (λ k l. let same : a + 1 + k ≡ a + suc k = omega arith in ap t same
    ∙ f (suc k) (omega (arith, l))))

each_true : (t : ℕ → Bool) (n : ℕ) → each_below n t ≡ true → (k : ℕ) → k < n → t k ≡ true
each_true t n e k l = let same : k ≡ 0 + k = omega arith in ap t same ∙ range_true t 0 n e k l

true_each : (t : ℕ → Bool) (n : ℕ) → ((k : ℕ) → k < n → t k ≡ true) → each_below n t ≡ true
true_each t n f = true_range t 0 n (λ k l. let same : 0 + k ≡ k = omega arith in ap t same ∙ f k l)

from_more : (t : ℕ → Bool) (a n : ℕ) → list_all t (range_with_len a (n + 1)) ≡ (list_all t (range_with_len a n)
    && t (a + n))
from_more t a n = ap (list_all t) (range_more a n) ∙ list_all-append t (range_with_len a n) ((a + n) ∷ [])
    ∙ ap (λ (b : Bool). list_all t (range_with_len a n) && b) (and-true (t (a + n)))

-- ---- one address more
from_split : (t : ℕ → Bool) (a n m : ℕ) → list_all t (range_with_len a (n + m))
    ≡ (list_all t (range_with_len a n) && list_all t (range_with_len (a + n) m))
from_split t a zero m =
    let e : 0 + m ≡ m = omega arith in
    let f : a ≡ a + 0 = omega arith in
    ap₂ (λ (x y : ℕ). list_all t (range_with_len x y)) f e
from_split t a (suc n) m =
    let e : suc n + m ≡ suc (n + m) = omega arith in
    let f : a + 1 + n ≡ a + suc n = omega arith in
    ap (λ (k : ℕ). list_all t (range_with_len a k)) e
    ∙ ap (λ (b : Bool). t a && b) (from_split t (a + 1) n m)
    ∙ sym (and_assoc (t a) (list_all t (range_with_len (a + 1) n)) (list_all t (range_with_len (a + 1 + n) m)))
    ∙ ap (λ (k : ℕ). (t a && list_all t (range_with_len (a + 1) n)) && list_all t (range_with_len k m)) f

pub seen_more : (c : Config) (shape : FrameShape) (frame_idx : ℕ) (cells : List (Option Cell)) (ordinal address n : ℕ)
    (was before now : Bool)
    (expected found : Option Cell)
    → before ≡ (was && seen_from c shape frame_idx cells ordinal address n)
    → now ≡ (before && is_seen ordinal expected found)
    → expected ≡ get (cell_map c shape frame_idx) (address + n) → slice_get cells (address + n) ≡ Some found
    → now ≡ (was && seen_from c shape frame_idx cells ordinal address (n + 1))
seen_more c shape frame_idx cells ordinal address n was before now expected found b e x f =
    grind (arith, and_assoc, Option, from_more)

-- ---- one piece more
pub pieces_seen : (c : Config) (shape : FrameShape) (frame_idx : ℕ) (cells : List (Option Cell)) (ordinal address n : ℕ)
    (was before now : Bool)
    → before ≡ (was && seen_from c shape frame_idx cells ordinal 0 address)
    → now ≡ (before && seen_from c shape frame_idx cells ordinal address n)
    → now ≡ (was && seen_from c shape frame_idx cells ordinal 0 (address + n))
pieces_seen c shape frame_idx cells ordinal address n was before now b e = grind (arith, and_assoc, from_split)

-- what stands there is right
right_own : (ordinal : ℕ) (o : Option Cell) → is_right ordinal o (Some o) ≡ true
right_own ordinal None = refl
right_own ordinal (Some x) =
    let one : (x.ordinal == x.ordinal) ≡ true = eq-eqb x.ordinal x.ordinal refl in
    let other : (x.cell == x.cell) ≡ true = eq-eqb x.cell x.cell refl in
    or_right (not (x.ordinal == ordinal)) (is_cell x.ordinal x.cell (Some (Some x)))
    (and_from (x.ordinal == x.ordinal) (x.cell == x.cell) one other)

pub all_own : (c : Config) (shape : FrameShape) (frame_idx : ℕ) (cells : List (Option Cell)) (ordinal address n : ℕ)
    → ((i : ℕ) → i < n → slice_get cells (address + i) ≡ Some (get (cell_map c shape frame_idx) (address + i)))
    → seen_from c shape frame_idx cells ordinal address n ≡ true
all_own c shape frame_idx cells ordinal address n h = grind (arith, true_range, Option, right_own)

-- ---- all of them
right_one : (ordinal cell : ℕ) (found : Option (Option Cell))
    → is_right ordinal (Some (record { ordinal = ordinal; cell = cell })) found ≡ true
    → is_cell ordinal cell found ≡ true
right_one ordinal cell found e = grind (arith, eq-eqb)

module _ (has : MapHasEachCell) (only : MapHasOnlyCells) (c : Config) (shape : FrameShape) (cells : List (Option Cell))
    (number : ℕ) (blocks : List Block) (plp block : ℕ) (passes : Passes c shape)
    (configured : plp < length c.plps) (sent : block < get_or shape.counts plp 0) where
  abbrev own : ℕ
  own = ordinal_of shape plp block

  abbrev part : Part
  part = part_with number blocks shape cells

  there : (cell : ℕ) → cell < block_cells c plp → IsCell c shape plp block cell
  there cell l = record { configured = configured; sent = sent; within = l }

  -- the place of the frame in its superframe
  abbrev frame_idx : ℕ
  frame_idx = number % c.frames

  stands_by : all_seen c shape frame_idx cells own ≡ true → all_stand c plp part block ≡ true
  unfolding all_stand
  stands_by e = true_each (stands c part plp block) (block_cells c plp) (λ cell l.
      let at : ℕ = address_of c shape frame_idx plp block cell in
      bool_cases (is_carried c shape frame_idx plp block cell)
      (λ yes.
      let here : IsCarried c shape frame_idx plp block cell = record {
        there = there cell l;
        carried =
            eqb-true _ _ yes;
      } in
      let right = each_true (right_at c shape frame_idx cells own) c.cells e at
      (passes.below frame_idx plp block cell here) in
      or_right (not (is_carried c shape frame_idx plp block cell)) (is_cell own cell (slice_get cells at))
      (right_one own cell (slice_get cells at)
      (ap (λ (o : Option Cell). is_right own o (slice_get cells at))
      (sym (has c shape frame_idx plp block cell passes here))
      ∙ right)))
      (λ none. ap (λ (t : Bool). not t || is_cell own cell (slice_get cells at)) none))

  right_here : each_below (block_cells c plp) (stands c part plp block) ≡ true → (at : ℕ) (o : Option Cell)
      → get (cell_map c shape frame_idx) at ≡ o → is_right own o (slice_get cells at) ≡ true
  right_here e at None g = refl
  right_here e at (Some x) g = bool_cases (x.ordinal == own)
      (λ same.
      let s = only c shape frame_idx at x g in
      let is : x.ordinal ≡ own = eqb-true x.ordinal own same in
      let one = ordinals_apart shape.counts s.plp s.block plp block s.there.there.sent sent (sym s.ordinal ∙ is) in
      let here : IsCarried c shape frame_idx plp block x.cell =
      subst (λ (b : ℕ). IsCarried c shape frame_idx plp b x.cell) one.1
      (subst (λ (p : ℕ). IsCarried c shape frame_idx p s.block x.cell) one.0 s.there) in
      let standing : is_cell own x.cell (slice_get cells (address_of c shape frame_idx plp block x.cell)) ≡ true =
      sym (ap (λ (t : Bool). not t || is_cell own x.cell
      (slice_get cells (address_of c shape frame_idx plp block x.cell)))
      (eq-eqb _ _ here.carried))
      ∙ each_true (stands c part plp block) (block_cells c plp) e x.cell here.there.within in
      let place : address_of c shape frame_idx plp block x.cell ≡ at =
      ap (λ (b : ℕ). address_of c shape frame_idx plp b x.cell) (sym one.1)
      ∙ ap (λ (p : ℕ). address_of c shape frame_idx p s.block x.cell) (sym one.0) ∙ s.value in
      let found : is_cell x.ordinal x.cell (slice_get cells at) ≡ true =
      ap (λ (o : ℕ). is_cell o x.cell (slice_get cells at)) is ∙ ap (λ (a : ℕ). is_cell own x.cell (slice_get cells a))
      (sym place) ∙ standing in
      or_right (not (x.ordinal == own)) (is_cell x.ordinal x.cell (slice_get cells at)) found)
      (λ other. ap (λ (t : Bool). not t || is_cell x.ordinal x.cell (slice_get cells at)) other)

  pub seen_stand : all_seen c shape frame_idx cells own ≡ all_stand c plp part block
  unfolding all_stand
  seen_stand = grind (arith, same_test, stands_by, true_each, right_here)
