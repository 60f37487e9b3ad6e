-- The PLPs of a shape stand one behind the other.
use Rattle.std.proofs.Common.{◌≡◌, ℕ, zero, suc, ◌+◌, ◌-◌, ◌*◌, ◌%◌, ◌<◌, ◌≤◌, ◌==◌, Bool, true, false, not, List}
use Rattle.std.proofs.Common.{length, map}
use Rattle.std.proofs.Common.{filter}
use Rattle.std.proofs.Common.{sum_by, refl, ap, sym, ◌∙◌, subst, arith}
use Rattle.std.specs.Prelude.{slice_index}
use Rattle.std.specs.List.{range_with_len}
use Rattle.std.proofs.lemmas.List.FromFn.{get_or-map-range_with_len}
use Rattle.std.proofs.lemmas.Bool.{eqb-true}
use Rattle.std.proofs.lemmas.List.Folds.{list_any_at}
use Rattle.std.proofs.lemmas.Nat.{le-div}
use Rattle.std.proofs.Math.Nat.{div-mul-le_self}
use Rattle.terms.proofs.NatLemmas.{cut_parts}
use Rattle.plp_config.specs.Capacity.{IsPlan, block_cells, EvenParts}
use Rattle.plp_config.specs.Plps.{is_type2, has_type2, no_plp, spread}
use Rattle.plp_config.specs.Rules.{SubSlices, SpreadDivides}
use Rattle.plp_config.specs.declared.config.Config.{Config}
use Rattle.scheduler.specs.Laws.{ShapeStandsInOrder}
use Rattle.scheduler.specs.Shape.{cells_of, slice_of, in_type2, type1_before, type2_before, type2_start_of, interval_of}
use Rattle.scheduler.specs.Shape.{start_of}
use Rattle.scheduler.specs.Shape.{shape_of}
use Rattle.scheduler.proofs.SumLemmas.{sum-more, sum-rises, cells_fit}
use Rattle.terms.proofs.CaseLemmas.{bool_cases}

-- what stands before a later place has what stands at an earlier one
rise : (f : ℕ → ℕ) (test : ℕ → Bool) (i j : ℕ) → i < j → test i ≡ true
    → sum_by f (filter test (range_with_len 0 i)) + f i ≤ sum_by f (filter test (range_with_len 0 j))
rise f test i j less passes =
    let here = rw passes at (sum-more f test i) in
    let e : i + 1 + (j - (i + 1)) ≡ j = omega arith in
    let more : sum_by f (filter test (range_with_len 0 (i + 1))) ≤ sum_by f (filter test (range_with_len 0 j)) =
    subst (λ (n : ℕ). sum_by f (filter test (range_with_len 0 (i + 1))) ≤ sum_by f (filter test (range_with_len 0 n))) e
    (sum-rises f test (i + 1) (j - (i + 1))) in
    omega (arith, here, more)

-- where a PLP with blocks starts
some_count : (n : ℕ) → 0 < n → (n == 0) ≡ false
some_count n h = bool_cases (n == 0) (λ e. let none : n ≡ 0 = eqb-true n 0 e in absurd (omega (arith, none))) (λ e. e)

start_type1 : (c : Config) (counts : List ℕ) (plp : ℕ) → 0 < slice_index counts plp → in_type2 c plp ≡ false
    → start_of c counts plp ≡ sum_by (cells_of c counts) (type1_before c plp)
unfolding start_of
start_type1 c counts plp some plp_type = let e = some_count (slice_index counts plp) some in rw (e, plp_type) refl

start_type2 : (c : Config) (counts : List ℕ) (plp : ℕ) → 0 < slice_index counts plp → in_type2 c plp ≡ true
    → start_of c counts plp ≡ type2_start_of c counts + sum_by (slice_of c counts) (type2_before c plp)
unfolding start_of
start_type2 c counts plp some plp_type = let e = some_count (slice_index counts plp) some in rw (e, plp_type) refl

type2_start_is : (c : Config) (counts : List ℕ) (plp : ℕ) → plp < length c.plps → in_type2 c plp ≡ true
    → type2_start_of c counts ≡ sum_by (cells_of c counts) (type1_before c (length c.plps))
unfolding type2_start_of
type2_start_is c counts plp inside plp_type =
    let has : has_type2 c.plps ≡ true = list_any_at (λ plp. is_type2 plp.plp_type) c.plps plp no_plp inside plp_type in
    rw has refl

sub_slices-some : (c : Config) → IsPlan c → 0 < c.sub_slices
sub_slices-some c is = bool_cases (has_type2 c.plps)
    (λ e. let range : (2 ≤ c.sub_slices) × (c.sub_slices ≤ 6480) = rw e at (is.rules SubSlices) in omega (arith, range))
    (λ e. let one : c.sub_slices ≡ 1 = rw e at (is.rules SubSlices) in omega (arith, one))

-- one sub-slice each, so many times, are all cells of type 2
slices_of_cells : (c : Config) (counts : List ℕ) (place : ℕ) → IsPlan c → place ≤ length c.plps
    → c.sub_slices * sum_by (slice_of c counts) (type2_before c place) ≡ sum_by (cells_of c counts)
    (type2_before c place)
slices_of_cells c counts zero is inside = omega arith
slices_of_cells c counts (suc place) is inside =
    let here : place < length c.plps = omega arith in
    let e : suc place ≡ place + 1 = omega arith in
    let rest = slices_of_cells c counts place is (omega arith) in
    let a = sum-more (slice_of c counts) (in_type2 c) place in
    let b = sum-more (cells_of c counts) (in_type2 c) place in
    let next : c.sub_slices * sum_by (slice_of c counts) (type2_before c (place + 1))
    ≡ sum_by (cells_of c counts) (type2_before c (place + 1)) =
    bool_cases (in_type2 c place)
    (λ t. let even : block_cells c place % (c.sub_slices * spread c.plps place) ≡ 0 =
    rw t at (is.tests EvenParts place here) in
    let some : 0 < spread c.plps place = (is.rules SpreadDivides place here).0 in
    let one : c.sub_slices * slice_of c counts place ≡ cells_of c counts place =
    cut_parts (slice_index counts place) (block_cells c place) c.sub_slices (spread c.plps place) (sub_slices-some c is)
    some
    even in
    let a' = rw t at a in
    let b' = rw t at b in
    rw (a', b') (omega (arith, rest, one)))
    (λ t. let a' = rw t at a in
    let b' = rw t at b in
    rw (a', b') (omega (arith, rest))) in
    subst (λ (k : ℕ). c.sub_slices * sum_by (slice_of c counts) (type2_before c k)
    ≡ sum_by (cells_of c counts) (type2_before c k)) (sym e) next

-- the sub-slices are within an interval, and the intervals within the frame
slices_within : (c : Config) (counts : List ℕ) → IsPlan c → sum_by (slice_of c counts) (type2_before c (length c.plps))
    ≤ interval_of c counts
unfolding interval_of
slices_within c counts is =
    let n : ℕ = length c.plps in
    let all = slices_of_cells c counts n is (omega arith) in
    le-div (sum_by (slice_of c counts) (type2_before c n)) (sum_by (cells_of c counts) (type2_before c n)) c.sub_slices
    (sub_slices-some c is) (omega (arith, all))

intervals_within : (c : Config) (counts : List ℕ) → interval_of c counts * c.sub_slices
    ≤ sum_by (cells_of c counts) (type2_before c (length c.plps))
unfolding interval_of
intervals_within c counts = div-mul-le_self (sum_by (cells_of c counts) (type2_before c (length c.plps))) c.sub_slices

-- a start is read
started : (c : Config) (counts : List ℕ) (plp : ℕ) → plp < length c.plps
    → slice_index (map (start_of c counts) (range_with_len 0 (length c.plps))) plp ≡ start_of c counts plp
started c counts plp inside = get_or-map-range_with_len (start_of c counts) 0 (length c.plps) plp plp
    0 inside (omega arith)

-- where the PLPs of either type stand
pub record Stands1 (c : Config) (counts : List ℕ) (plp start : ℕ) : Type 0 where
  pub is : start ≡ sum_by (cells_of c counts) (type1_before c plp)
  pub upto : (j : ℕ) → plp < j → start + cells_of c counts plp ≤ sum_by (cells_of c counts) (type1_before c j)

stands1 : (c : Config) (counts : List ℕ) (plp : ℕ) → plp < length c.plps → 0 < slice_index counts plp
    → in_type2 c plp ≡ false
    → Stands1 c counts plp (slice_index (map (start_of c counts) (range_with_len 0 (length c.plps))) plp)
stands1 c counts plp inside some plp_type =
    let is = started c counts plp inside ∙ start_type1 c counts plp some plp_type in
    record {
      is = is;
      upto = λ j less.
          omega (arith, is, rise (cells_of c counts) (λ plp. not (in_type2 c plp)) plp j less (ap not plp_type));
    }

pub record Stands2 (c : Config) (counts : List ℕ) (plp start : ℕ) : Type 0 where
  pub is : start ≡ sum_by (cells_of c counts) (type1_before c (length c.plps)) + sum_by (slice_of c counts)
      (type2_before c plp)
  pub upto : (j : ℕ) → plp < j → start + slice_of c counts plp ≤ sum_by (cells_of c counts)
      (type1_before c (length c.plps))
      + sum_by (slice_of c counts) (type2_before c j)

stands2 : (c : Config) (counts : List ℕ) (plp : ℕ) → plp < length c.plps → 0 < slice_index counts plp
    → in_type2 c plp ≡ true
    → Stands2 c counts plp (slice_index (map (start_of c counts) (range_with_len 0 (length c.plps))) plp)
stands2 c counts plp inside some plp_type =
    let first = type2_start_is c counts plp inside plp_type in
    let is = started c counts plp inside ∙ start_type2 c counts plp some plp_type
    ∙ ap (λ (n : ℕ). n + sum_by (slice_of c counts) (type2_before c plp)) first in
    record { is = is; upto = λ j less. omega (arith, is, rise (slice_of c counts) (in_type2 c) plp j less plp_type) }

pub stands_in_order : ShapeStandsInOrder
unfolding shape_of
stands_in_order c counts is fit =
    let n : ℕ = length c.plps in
    let within = slices_within c counts is in
    let whole = intervals_within c counts in
    let all = cells_fit c counts n is fit (omega arith) in
    let some = sub_slices-some c is in
    record {
      type1 = λ i j less a b. omega (
        arith,
        (stands1 c counts i a.0 a.1 a.2).upto j less,
        (stands1 c counts j b.0 b.1 b.2).is,
      );
      types = λ i j a b. omega (
        arith,
        (stands1 c counts i a.0 a.1 a.2).upto n a.0,
        (stands2 c counts j b.0 b.1 b.2).is,
      );
      type2 = λ i j less a b. omega (
        arith,
        (stands2 c counts i a.0 a.1 a.2).upto j less,
        (stands2 c counts j b.0 b.1 b.2).is,
      );
      interval = λ i j a b. omega (
        arith,
        (stands2 c counts i a.0 a.1 a.2).is,
        (stands2 c counts j b.0 b.1 b.2).upto n b.0,
        within,
      );
      end1 = λ i a. omega (arith, (stands1 c counts i a.0 a.1 a.2).upto n a.0, all);
      end2 = λ i a.
          let last : (c.sub_slices - 1) * interval_of c counts + interval_of c counts ≡ interval_of c
          counts * c.sub_slices =
          (let e : c.sub_slices - 1 + 1 ≡ c.sub_slices = omega arith in
          omega (arith, ap (λ (k : ℕ). k * interval_of c counts) e)) in
          omega (arith, (stands2 c counts i a.0 a.1 a.2).upto n a.0, within, last, whole, all);
    }
