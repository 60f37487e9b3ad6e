-- Sums over the PLPs before a place stay within the cells of a frame.
use Rattle.std.proofs.Common.{◌≡◌, ℕ, zero, suc, ◌+◌, ◌-◌, ◌*◌, ◌<◌, ◌≤◌, Bool, true, false, cond, not, List, [], ◌∷◌}
use Rattle.std.proofs.Common.{length}
use Rattle.std.proofs.Common.{take, filter, sum_by, refl, ap, sym, ◌∙◌, subst, arith}
use Rattle.std.specs.Prelude.{slice_index}
use Rattle.std.specs.List.{range_with_len}
use Rattle.std.proofs.lemmas.List.Elements.{filter-append}
use Rattle.std.proofs.lemmas.List.Filters.{sum_by-filter_both}
use Rattle.std.proofs.lemmas.List.Sums.{sum_by-append, sum_by_push, sum_by_more, sum_by-take-le, sum_by-le-sum_by}
use Rattle.std.proofs.lemmas.Nat.{mul-le}
use Rattle.std.proofs.Math.Nat.{div-le_self}
use Rattle.terms.proofs.NatLemmas.{part-le}
use Rattle.plp_config.proofs.SpreadLemmas.{rooms_fit}
use Rattle.plp_config.specs.Capacity.{IsPlan, block_cells, frame_room}
use Rattle.plp_config.specs.Plps.{plp_at, no_plp, spread}
use Rattle.plp_config.specs.Rules.{SpreadDivides}
use Rattle.plp_config.specs.Tables.{cells_per_block}
use Rattle.plp_config.specs.declared.config.Config.{Config}
use Rattle.scheduler.specs.Laws.{CountsFit}
use Rattle.scheduler.specs.Shape.{cells_of, slice_of, in_type2, type1_before, type2_before}
use Rattle.terms.proofs.RangeLemmas.{places_more}

last : (f : ℕ → ℕ) (n : ℕ) (passes : Bool) → sum_by f (cond passes (n ∷ []) []) ≡ cond passes (f n) 0
last f n true = omega arith
last f n false = refl

-- a sum over the places that pass a test
pub sum-more : (f : ℕ → ℕ) (test : ℕ → Bool) (n : ℕ)
    → sum_by f (filter test (range_with_len 0 (n + 1))) ≡ sum_by f (filter test (range_with_len 0 n)) + cond
    (test n) (f n) 0
sum-more f test n =
    ap (λ (xs : List ℕ). sum_by f (filter test xs)) (places_more n)
    ∙ ap (sum_by f) (filter-append test (range_with_len 0 n) (n ∷ []))
    ∙ sum_by-append f (filter test (range_with_len 0 n)) (filter test (n ∷ []))
    ∙ ap (λ (k : ℕ). sum_by f (filter test (range_with_len 0 n)) + k) (last f n (test n))

-- what a PLP adds to the sums over both types
pub record Adds (c : Config) (f : ℕ → ℕ) (plp type1 type2 : ℕ) : Type 0 where
  pub type1_sum : sum_by f (type1_before c (plp + 1)) ≡ sum_by f (type1_before c plp) + type1
  pub type2_sum : sum_by f (type2_before c (plp + 1)) ≡ sum_by f (type2_before c plp) + type2

pub adds_type2 : (c : Config) (f : ℕ → ℕ) (plp : ℕ) → in_type2 c plp ≡ true → Adds c f plp 0 (f plp)
adds_type2 c f plp is = record {
  type1_sum = rw is at (sum-more f (λ plp. not (in_type2 c plp)) plp);
  type2_sum = rw is at (sum-more f (in_type2 c) plp);
}

pub adds_type1 : (c : Config) (f : ℕ → ℕ) (plp : ℕ) → in_type2 c plp ≡ false → Adds c f plp (f plp) 0
adds_type1 c f plp is = record {
  type1_sum = rw is at (sum-more f (λ plp. not (in_type2 c plp)) plp);
  type2_sum = rw is at (sum-more f (in_type2 c) plp);
}

-- the cells of a PLP are at most those that it may fill
cells-le : (c : Config) (counts : List ℕ) (plp : ℕ) → IsPlan c → CountsFit c counts → plp < length c.plps
    → cells_of c counts plp ≤ frame_room (plp_at c.plps plp)
unfolding block_cells
cells-le c counts plp is fit inside =
    let nc : ℕ = cells_per_block (plp_at c.plps plp).fec (plp_at c.plps plp).modulation in
    part-le (slice_index counts plp * nc) ((plp_at c.plps plp).blocks * nc) (spread c.plps plp)
    ((is.rules SpreadDivides plp inside).0)
    (mul-le (slice_index counts plp) nc (plp_at c.plps plp).blocks nc (fit.within plp inside) (omega arith))

-- the same of the PLPs before a place
cells_before-le : (c : Config) (counts : List ℕ) (place : ℕ) → IsPlan c → CountsFit c counts → place ≤ length c.plps
    → sum_by (cells_of c counts) (range_with_len 0 place) ≤ sum_by frame_room (take place c.plps)
cells_before-le c counts zero is fit inside = omega arith
cells_before-le c counts (suc place) is fit inside =
    let here : place < length c.plps = omega arith in
    let e : suc place ≡ place + 1 = omega arith in
    let a : sum_by (cells_of c counts) (range_with_len 0 (place + 1)) ≡ sum_by (cells_of c counts)
    (range_with_len 0 place)
    + cells_of c counts place =
    ap (sum_by (cells_of c counts)) (places_more place) ∙ sum_by_push (cells_of c counts) (range_with_len 0 place)
    place in
    let b : sum_by frame_room (take (place + 1) c.plps)
    ≡ sum_by frame_room (take place c.plps) + frame_room (plp_at c.plps place) =
    sum_by_more frame_room c.plps place no_plp here in
    let one : cells_of c counts place ≤ frame_room (plp_at c.plps place) = cells-le c counts place is fit here in
    let rest : sum_by (cells_of c counts) (range_with_len 0 place) ≤ sum_by frame_room (take place c.plps) =
    cells_before-le c counts place is fit (omega arith) in
    let next : sum_by (cells_of c counts) (range_with_len 0 (place + 1)) ≤ sum_by frame_room (take (place + 1) c.plps) =
    omega (arith, a, b, one, rest) in
    subst (λ (k : ℕ). sum_by (cells_of c counts) (range_with_len 0 k) ≤ sum_by frame_room (take k c.plps)) (sym e) next

-- the PLPs before a place fill no more cells than a frame has
pub cells_fit : (c : Config) (counts : List ℕ) (place : ℕ) → IsPlan c → CountsFit c counts → place ≤ length c.plps
    → sum_by (cells_of c counts) (type1_before c place) + sum_by (cells_of c counts) (type2_before c place) ≤ c.cells
cells_fit c counts place is fit inside =
    let parts : sum_by (cells_of c counts) (type2_before c place) + sum_by (cells_of c counts) (type1_before c place)
    ≡ sum_by (cells_of c counts) (range_with_len 0 place) =
    sum_by-filter_both (in_type2 c) (λ plp. not (in_type2 c plp)) (λ _. refl) (cells_of c counts)
    (range_with_len 0 place) in
    let most : sum_by frame_room (take place c.plps) ≤ sum_by frame_room c.plps = sum_by-take-le frame_room
    c.plps place in
    omega (arith, parts, cells_before-le c counts place is fit inside, most, rooms_fit c is)

-- a sum over more places is larger
pub sum-rises : (f : ℕ → ℕ) (test : ℕ → Bool) (n more : ℕ)
    → sum_by f (filter test (range_with_len 0 n)) ≤ sum_by f (filter test (range_with_len 0 (n + more)))
sum-rises f test n zero = let e : n + 0 ≡ n = omega arith in rw e (omega arith)
sum-rises f test n (suc more) =
    let e : n + suc more ≡ n + more + 1 = omega arith in
    rw e (omega (arith, sum-rises f test n more, sum-more f test (n + more)))

-- what stands before a place of type 2, with all of type 1, is no more than a frame has
pub slices_fit : (c : Config) (counts : List ℕ) (place : ℕ) → IsPlan c → CountsFit c counts → place ≤ length c.plps
    → sum_by (cells_of c counts) (type1_before c (length c.plps)) + sum_by (slice_of c counts)
    (type2_before c place) ≤ c.cells
slices_fit c counts place is fit inside =
    let n : ℕ = length c.plps in
    let e : place + (n - place) ≡ n = omega arith in
    let thin : sum_by (slice_of c counts) (type2_before c place) ≤ sum_by (cells_of c counts) (type2_before c place) =
    sum_by-le-sum_by (slice_of c counts) (cells_of c counts) (type2_before c place)
    (λ plp. div-le_self (cells_of c counts plp) c.sub_slices) in
    let rises : sum_by (cells_of c counts) (type2_before c place)
    ≤ sum_by (cells_of c counts) (type2_before c (place + (n - place))) =
    sum-rises (cells_of c counts) (in_type2 c) place (n - place) in
    let all : sum_by (cells_of c counts) (type2_before c place) ≤ sum_by (cells_of c counts) (type2_before c n) =
    rw e at rises in
    omega (arith, thin, all, cells_fit c counts n is fit (omega arith))
