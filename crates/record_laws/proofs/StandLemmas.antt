-- Blocks stand at their ordinals, and cells at their addresses.
use Rattle.std.proofs.Common.{◌≡◌, ℕ, zero, suc, ◌+◌, ◌%◌, ◌<◌, ◌≤◌, Option, Some, List, [], ◌∷◌, ◌++◌, length, get_or}
use Rattle.std.proofs.Common.{take}
use Rattle.std.proofs.Common.{refl}
use Rattle.std.proofs.Common.{sym, ap, ap₂, subst, ◌∙◌, arith}
use Rattle.std.specs.Prelude.{map, sum, sum_by, slice_get}
use Rattle.std.specs.List.{flat_map, range_with_len}
use Rattle.std.specs.FinMap.{get}
use Rattle.std.proofs.lemmas.List.{length-map, take-map}
use Rattle.std.proofs.lemmas.List.FromFn.{get_or-range_with_len, length-range_with_len}
use Rattle.std.proofs.lemmas.List.Sums.{sum-map, sum_by-cons}
use Rattle.std.proofs.lemmas.Option.{slice_get-map}
use Rattle.plp_config.specs.Places.{places}
use Rattle.cell_map.specs.Address.{address_of}
use Rattle.cell_map.specs.CellMap.{cell_map}
use Rattle.cell_map.specs.Laws.{ShapePasses, MapHasEachCell}
use Rattle.cell_map.specs.declared.places.Cell.{Cell}
use Rattle.mode_adapt.specs.Laws.{CountLaw}
use Rattle.plp_config.specs.Laws.{FieldRange, SlotLength}
use Rattle.plp_config.specs.declared.config.Config.{Config}
use Rattle.scheduler.specs.Laws.{ShapeHasCounts}
use Rattle.site_frame.specs.Record.{Block}
use Rattle.record_laws.specs.Frames.{sent_block, sent_blocks, frame_shape}
use Rattle.record_laws.specs.Laws.{BlockStands, OrdinalCounts, CellStands, blocks_before}
use Rattle.record_laws.proofs.FitLemmas.{counts_fit}
use Rattle.mode_adapt.specs.Blocks.{told_count, told_counts}

get_front : {X : Type 0} (xs ys : List X) (k : ℕ) → k < length xs → slice_get (xs ++ ys) k ≡ slice_get xs k
get_front [] ys k lt = absurd (omega arith)
get_front (x ∷ xs) ys zero lt = refl
get_front (x ∷ xs) ys (suc k) lt = get_front xs ys k (omega (arith, lt))

get_behind : {X : Type 0} (xs ys : List X) (n k : ℕ) → length xs ≡ n → slice_get (xs ++ ys) (n + k) ≡ slice_get ys k
get_behind [] ys n k e = let none : n + k ≡ k = omega (arith, e) in ap (slice_get ys) none
get_behind (x ∷ xs) ys zero k e = absurd (omega (arith, e))
get_behind (x ∷ xs) ys (suc n) k e = let next : suc n + k ≡ suc (n + k) = omega arith in ap (slice_get (x ∷ (xs ++ ys)))
    next
    ∙ get_behind xs ys n k (omega (arith, e))

-- an element of the piece at a place stands behind the pieces before it
get_piece : {X : Type 0} (pieces : ℕ → List X) (plps : List ℕ) (i j : ℕ) → i < length plps
    → j < length (pieces (get_or plps i 0))
    → slice_get (flat_map pieces plps) (sum_by (λ plp. length (pieces plp)) (take i plps) + j)
    ≡ slice_get (pieces (get_or plps i 0)) j
get_piece pieces [] i j lt in_piece = absurd (omega arith)
get_piece pieces (plp ∷ plps) zero j lt in_piece =
    let none : 0 + j ≡ j = omega arith in
    ap (slice_get (pieces plp ++ flat_map pieces plps)) none ∙ get_front (pieces plp) (flat_map pieces plps) j in_piece
get_piece pieces (plp ∷ plps) (suc i) j lt in_piece =
    let count : ℕ → ℕ = λ plp. length (pieces plp) in
    let more : sum_by count (plp ∷ take i plps) + j ≡ length (pieces plp) + (sum_by count (take i plps) + j) =
    omega (arith, sum_by-cons count plp (take i plps)) in
    ap (slice_get (pieces plp ++ flat_map pieces plps)) more
    ∙ get_behind (pieces plp) (flat_map pieces plps) (length (pieces plp)) (sum_by count (take i plps) + j) refl
    ∙ get_piece pieces plps i j (omega (arith, lt)) in_piece

same_sums : (f g : ℕ → ℕ) (xs : List ℕ) → ((x : ℕ) → f x ≡ g x) → sum_by f xs ≡ sum_by g xs
same_sums f g [] same = refl
same_sums f g (x ∷ xs) same = sum_by-cons f x xs ∙ ap₂ (λ (a b : ℕ). a + b) (same x) (same_sums f g xs same)
    ∙ sym (sum_by-cons g x xs)

-- the places before one
take_range : (from count n : ℕ) → n ≤ count → take n (range_with_len from count) ≡ range_with_len from n
take_range from count zero le = refl
take_range from zero (suc n) le = absurd (omega (arith, le))
take_range from (suc count) (suc n) le = ap (λ (l : List ℕ). from ∷ l) (take_range (from + 1) count n
    (omega (arith, le)))

take_places : (c : Config) (plp : ℕ) → plp < length c.plps → take plp (places c) ≡ range_with_len 0 plp
take_places c plp lt = take_range 0 (length c.plps) plp (omega (arith, lt))

-- the ordinal of a block: behind those of the PLPs before its own
pub ordinal_counts : ShapeHasCounts → OrdinalCounts
ordinal_counts has c inputs n plp block lt =
    ap (λ (l : List ℕ). sum (take plp l) + block) (has c (told_counts c inputs n))
    ∙ ap (λ (l : List ℕ). sum l + block) (take-map (told_count c inputs n) plp (places c))
    ∙ ap (λ (l : List ℕ). sum (map (told_count c inputs n) l) + block) (take_places c plp lt)
    ∙ ap (λ (s : ℕ). s + block) (sum-map (told_count c inputs n) (range_with_len 0 plp))

pub block_stands : BlockStands
block_stands c blocks plp block lt sent =
    let piece : ℕ → List Block = λ plp. map (sent_block c plp) (blocks plp) in
    let place : get_or (places c) plp 0 ≡ plp = get_or-range_with_len 0 (length c.plps) plp 0 lt ∙ omega arith in
    let len : (plp : ℕ) → length (piece plp) ≡ length (blocks plp) = λ plp. length-map (blocks plp)
    (sent_block c plp) in
    let at : blocks_before blocks plp + block ≡ sum_by (λ plp. length (piece plp)) (take plp (places c)) + block =
    ap (λ (l : List ℕ). sum_by (λ plp. length (blocks plp)) l + block) (sym (take_places c plp lt))
    ∙ ap (λ (s : ℕ). s + block)
    (sym (same_sums (λ plp. length (piece plp)) (λ plp. length (blocks plp)) (take plp (places c)) len)) in
    let inside : block < length (piece (get_or (places c) plp 0)) =
    subst (λ (k : ℕ). block < length (piece k)) (sym place) (omega (arith, len plp, sent)) in
    ap (slice_get (sent_blocks c blocks)) at
    ∙ get_piece piece (places c) plp block (omega (arith, lt, length-range_with_len 0 (length c.plps))) inside
    ∙ ap (λ (k : ℕ). slice_get (piece k) block) place ∙ slice_get-map (sent_block c plp) (blocks plp) block

-- what stands at an address of the map
get_in_range : {X : Type 0} (f : ℕ → X) (from count k : ℕ) → k < count → slice_get (map f (range_with_len from count)) k
    ≡ Some (f (from + k))
get_in_range f from zero k lt = absurd (omega arith)
get_in_range f from (suc count) zero lt = let same : from ≡ from + 0 = omega arith in ap (λ (i : ℕ). Some (f i)) same
get_in_range f from (suc count) (suc k) lt = let same : from + 1 + k ≡ from + suc k = omega arith in
    get_in_range f (from + 1) count k (omega (arith, lt)) ∙ ap (λ (i : ℕ). Some (f i)) same

abbrev some_there : Option Cell → Option (Option Cell)
some_there cell = Some cell

pub cell_stands : SlotLength → FieldRange → CountLaw → ShapePasses → MapHasEachCell → CellStands
cell_stands slot field law passes each c inputs n plp block cell is there =
    let ok = passes c (told_counts c inputs n) is (counts_fit slot field law c inputs n is) in
    let frame_idx : ℕ = n % c.frames in
    let at : ℕ = address_of c (frame_shape c inputs n) frame_idx plp block cell in
    let below = ok.below frame_idx plp block cell there in
    let same : 0 + at ≡ at = omega arith in
    get_in_range (get (cell_map c (frame_shape c inputs n) frame_idx)) 0 c.cells at below
    ∙ ap (λ (a : ℕ). some_there (get (cell_map c (frame_shape c inputs n) frame_idx) a)) same
    ∙ ap some_there (each c (frame_shape c inputs n) frame_idx plp block cell ok there)
