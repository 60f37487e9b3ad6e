-- The shape, PLP by PLP.
use Rattle.std.proofs.Common.{◌≡◌, ◌≢◌, ℕ, ◌+◌, ◌<◌, ◌≤◌, ◌==◌, Bool, true, false, cond, List, [], ◌∷◌, ◌++◌, length}
use Rattle.std.proofs.Common.{take, drop}
use Rattle.std.proofs.Common.{map, set, get_or, sum_by, refl, ap, sym, ◌∙◌, inl, inr, arith}
use Rattle.std.specs.Prelude.{slice_index}
use Rattle.std.specs.List.{range_with_len}
use Rattle.std.proofs.lemmas.Bool.{cases_lt}
use Rattle.std.proofs.lemmas.List.{append_assoc, drop_more, set_at, get_or_past, length-take-le, take_more, take_all}
use Rattle.std.proofs.lemmas.List.{drop_all}
use Rattle.std.proofs.lemmas.List.{append-nil}
use Rattle.std.proofs.lemmas.List.FromFn.{get_or-map-range_with_len, length-map-range_with_len, map-range_with_len_more}
use Rattle.std.proofs.Math.Nat.{div-le_self}
use Rattle.plp_config.specs.Capacity.{IsPlan, CellAddresses}
use Rattle.plp_config.specs.Plps.{has_type2}
use Rattle.plp_config.specs.Rules.{BlockLimit, SubSlices}
use Rattle.plp_config.specs.declared.config.Config.{Config}
use Rattle.scheduler.specs.Steps.{AreBefore, AreNext, shape_until}
use Rattle.scheduler.specs.declared.frame.Cells.{Cells}
use Rattle.scheduler.specs.Laws.{CountsFit, ShapeFitsL1}
use Rattle.scheduler.specs.Shape.{FrameShape, with_plp, cells_of, slice_of, in_type2, type1_before, type2_before}
use Rattle.scheduler.specs.Shape.{type2_start_of}
use Rattle.scheduler.specs.Shape.{interval_of, start_of, shape_of}
use Rattle.scheduler.proofs.SumLemmas.{cells_fit, slices_fit, adds_type1, adds_type2}
use Rattle.terms.proofs.CaseLemmas.{bool_cases}

-- one place of a list is replaced behind those that were
pub set-next : {A : Type 0} (front rest : List A) (n : ℕ) (x : A) → length front ≡ n → n < length rest
    → set (front ++ drop n rest) n x ≡ (front ++ x ∷ []) ++ drop (n + 1) rest
set-next front rest n x here inside =
    ap (λ xs. set (front ++ xs) n x) (drop_more rest n x inside)
    ∙ set_at front (get_or rest n x) (drop (n + 1) rest) x n here
    ∙ sym (append_assoc front (x ∷ []) (drop (n + 1) rest))

if-le : (test : Bool) (a b m : ℕ) → a ≤ m → b ≤ m → (cond test a b) ≤ m
if-le true a b m x y = x
if-le false a b m x y = y

type2_start-le : (c : Config) (counts : List ℕ) → type2_start_of c counts
    ≤ sum_by (cells_of c counts) (type1_before c (length c.plps))
unfolding type2_start_of
type2_start-le c counts = if-le (has_type2 c.plps) (sum_by (cells_of c counts) (type1_before c (length c.plps))) 0
    (sum_by (cells_of c counts) (type1_before c (length c.plps))) (omega arith) (omega arith)

-- where type 2 goes on is within a frame
pub next_type2-le : (c : Config) (counts : List ℕ) (place : ℕ) → IsPlan c → CountsFit c counts → place ≤ length c.plps
    → type2_start_of c counts + sum_by (slice_of c counts) (type2_before c place) ≤ c.cells
next_type2-le c counts place is fit inside = omega (
  arith,
  type2_start-le c counts,
  slices_fit c counts
      place is fit inside,
)

start-le : (c : Config) (counts : List ℕ) (plp : ℕ) → IsPlan c → CountsFit c counts → plp < length c.plps
    → start_of c counts plp
    ≤ c.cells
unfolding start_of
start-le c counts plp is fit inside =
    let upto : plp ≤ length c.plps = omega arith in
    if-le (slice_index counts plp == 0) 0
    (cond (in_type2 c plp) (type2_start_of c counts + sum_by (slice_of c counts) (type2_before c plp))
    (sum_by (cells_of c counts) (type1_before c plp))) c.cells (omega arith)
    (if-le (in_type2 c plp) (type2_start_of c counts + sum_by (slice_of c counts) (type2_before c plp))
    (sum_by (cells_of c counts) (type1_before c plp)) c.cells
    (next_type2-le c counts plp is fit upto)
    (omega (arith, cells_fit c counts plp is fit upto)))

pub shape_fits : ShapeFitsL1
unfolding shape_of interval_of
shape_fits c counts is fit =
    let few : c.cells ≤ 4194303 = is.tests CellAddresses in
    let all = cells_fit c counts (length c.plps) is fit (omega arith) in
    let starts : List ℕ = map (start_of c counts) (range_with_len 0 (length c.plps)) in
    let part = div-le_self (sum_by (cells_of c counts) (type2_before c (length c.plps))) c.sub_slices in
    record {
      counts = λ plp. elim (cases_lt plp (length c.plps)) [
        | inl inside ↦ omega (arith, fit.within plp inside, is.rules BlockLimit plp inside)
        | inr past ↦ omega (arith, get_or_past counts plp 0 (omega (arith, fit.whole)))
      ];
      starts = λ plp. elim (cases_lt plp (length c.plps)) [
        | inl inside ↦
            omega (
              arith,
              start-le c counts plp is fit inside,
              few,
              get_or-map-range_with_len (start_of c counts) 0
                  (length c.plps) plp plp 0 inside (omega arith),
            )
        | inr past ↦
            omega (
              arith,
              get_or_past starts plp 0 (omega (arith, length-map-range_with_len (start_of c counts) 0 (length c.plps))),
            )
      ];
      interval = omega (arith, part, all, few);
      type2_start = omega (arith, type2_start-le c counts, all, few);
    }

-- one PLP more, of either type
pub record More (c : Config) (counts : List ℕ) (plp : ℕ) (before after : Cells) : Type 0 where
  pub fits : (after.type1 ≤ 4194303) × (after.type2 ≤ 4194303)
  pub are : AreBefore c counts (plp + 1) after

pub more_type2 : (c : Config) (counts : List ℕ) (plp cells : ℕ) (before : Cells) → IsPlan c → CountsFit c counts
    → plp < length c.plps
    → AreBefore c counts plp before → cells ≡ cells_of c counts plp → in_type2 c plp ≡ true
    → More c counts plp before (record { type1 = before.type1; type2 = before.type2 + cells })
more_type2 c counts plp cells before is fit inside are e plp_type =
    let few : c.cells ≤ 4194303 = is.tests CellAddresses in
    let adds = adds_type2 c (cells_of c counts) plp plp_type in
    let all = cells_fit c counts (plp + 1) is fit (omega arith) in
    let first : before.type1 ≡ sum_by (cells_of c counts) (type1_before c (plp + 1)) = omega
    (arith, are.type1, adds.type1_sum) in
    let second : before.type2 + cells ≡ sum_by (cells_of c counts) (type2_before c (plp + 1)) =
    omega (arith, are.type2, adds.type2_sum, e) in
    record {
      fits = (omega (arith, first, all, few), omega (arith, second, all, few));
      are = record { type1 = first; type2 = second };
    }

pub more_type1 : (c : Config) (counts : List ℕ) (plp cells : ℕ) (before : Cells) → IsPlan c → CountsFit c counts
    → plp < length c.plps
    → AreBefore c counts plp before → cells ≡ cells_of c counts plp → in_type2 c plp ≡ false
    → More c counts plp before (record { type1 = before.type1 + cells; type2 = before.type2 })
more_type1 c counts plp cells before is fit inside are e plp_type =
    let few : c.cells ≤ 4194303 = is.tests CellAddresses in
    let adds = adds_type1 c (cells_of c counts) plp plp_type in
    let all = cells_fit c counts (plp + 1) is fit (omega arith) in
    let first : before.type1 + cells ≡ sum_by (cells_of c counts) (type1_before c (plp + 1)) =
    omega (arith, are.type1, adds.type1_sum, e) in
    let second : before.type2 ≡ sum_by (cells_of c counts) (type2_before c (plp + 1)) =
    omega (arith, are.type2, adds.type2_sum) in
    record {
      fits = (omega (arith, first, all, few), omega (arith, second, all, few));
      are = record { type1 = first; type2 = second };
    }

-- where the PLP after it starts
pub record Next (c : Config) (counts : List ℕ) (plp : ℕ) (after : Cells) : Type 0 where
  pub fits : (after.type1 ≤ 4194303) × (after.type2 ≤ 4194303)
  pub are : AreNext c counts (plp + 1) after

pub next_type2 : (c : Config) (counts : List ℕ) (plp slice : ℕ) (next : Cells) → IsPlan c → CountsFit c counts
    → plp < length c.plps
    → AreNext c counts plp next → slice ≡ slice_of c counts plp → in_type2 c plp ≡ true
    → Next c counts plp (record { type1 = next.type1; type2 = next.type2 + slice })
next_type2 c counts plp slice next is fit inside are e plp_type =
    let few : c.cells ≤ 4194303 = is.tests CellAddresses in
    let cells = adds_type2 c (cells_of c counts) plp plp_type in
    let slices = adds_type2 c (slice_of c counts) plp plp_type in
    let all = cells_fit c counts (plp + 1) is fit (omega arith) in
    let all2 = next_type2-le c counts (plp + 1) is fit (omega arith) in
    let first : next.type1 ≡ sum_by (cells_of c counts) (type1_before c (plp + 1)) = omega
    (arith, are.type1, cells.type1_sum) in
    let second : next.type2 + slice ≡ type2_start_of c counts + sum_by (slice_of c counts) (type2_before c (plp + 1)) =
    omega (arith, are.type2, slices.type2_sum, e) in
    record {
      fits = (omega (arith, first, all, few), omega (arith, second, all2, few));
      are = record { type1 = first; type2 = second };
    }

pub next_type1 : (c : Config) (counts : List ℕ) (plp cells : ℕ) (next : Cells) → IsPlan c → CountsFit c counts
    → plp < length c.plps
    → AreNext c counts plp next → cells ≡ cells_of c counts plp → in_type2 c plp ≡ false
    → Next c counts plp (record { type1 = next.type1 + cells; type2 = next.type2 })
next_type1 c counts plp cells next is fit inside are e plp_type =
    let few : c.cells ≤ 4194303 = is.tests CellAddresses in
    let more = adds_type1 c (cells_of c counts) plp plp_type in
    let slices = adds_type1 c (slice_of c counts) plp plp_type in
    let all = cells_fit c counts (plp + 1) is fit (omega arith) in
    let all2 = next_type2-le c counts (plp + 1) is fit (omega arith) in
    let first : next.type1 + cells ≡ sum_by (cells_of c counts) (type1_before c (plp + 1)) =
    omega (arith, are.type1, more.type1_sum, e) in
    let second : next.type2 ≡ type2_start_of c counts + sum_by (slice_of c counts) (type2_before c (plp + 1)) =
    omega (arith, are.type2, slices.type2_sum) in
    record {
      fits = (omega (arith, first, all, few), omega (arith, second, all2, few));
      are = record { type1 = first; type2 = second };
    }

-- with type 2 there are two sub-slices or more
pub several : (c : Config) → IsPlan c → has_type2 c.plps ≡ true → c.sub_slices ≢ 1
several c is h = let range : (2 ≤ c.sub_slices) × (c.sub_slices ≤ 6480) = rw h at (is.rules SubSlices) in
    omega (arith, range)

pub single : (c : Config) → IsPlan c → has_type2 c.plps ≡ false → c.sub_slices ≡ 1
single c is h = rw h at (is.rules SubSlices)

-- TYPE_2_START by the number of sub-slices
pub type2_start-single : (c : Config) (counts : List ℕ) → IsPlan c → c.sub_slices ≡ 1 → 0 ≡ type2_start_of c counts
unfolding type2_start_of
type2_start-single c counts is one = bool_cases (has_type2 c.plps) (λ e. absurd (several c is e one)) (λ e. rw e refl)

pub type2_start-several : (c : Config) (counts : List ℕ) → IsPlan c → c.sub_slices ≢ 1
    → sum_by (cells_of c counts) (type1_before c (length c.plps)) ≡ type2_start_of c counts
unfolding type2_start_of
type2_start-several c counts is many = bool_cases (has_type2 c.plps) (λ e. rw e refl)
    (λ e. absurd (many (single c is e)))

-- one PLP more has its numbers
pub until-more : (c : Config) (counts : List ℕ) (old : FrameShape) (place count start : ℕ)
    → place < length counts → length counts ≡ length old.counts → length old.starts ≡ length old.counts
    → count ≡ slice_index counts place → start ≡ start_of c counts place
    → with_plp (shape_until c counts old place) place count start ≡ shape_until c counts old (place + 1)
until-more c counts old place count start inside same whole e f =
    let starts : List ℕ = map (start_of c counts) (range_with_len 0 place) in
    let a : set (take place counts ++ drop place old.counts) place count ≡ take (place + 1) counts
    ++ drop (place + 1) old.counts =
    set-next (take place counts) old.counts place count (length-take-le place counts (omega arith)) (omega arith)
    ∙ ap (λ (x : ℕ). (take place counts ++ x ∷ []) ++ drop (place + 1) old.counts) e
    ∙ ap (λ (xs : List ℕ). xs ++ drop (place + 1) old.counts) (sym (take_more counts place 0 inside)) in
    let b : set (starts ++ drop place old.starts) place start ≡ map (start_of c counts) (range_with_len 0 (place + 1))
    ++ drop (place + 1) old.starts =
    set-next starts old.starts place start (length-map-range_with_len (start_of c counts) 0 place) (omega arith)
    ∙ ap (λ (x : ℕ). (starts ++ x ∷ []) ++ drop (place + 1) old.starts) f
    ∙ ap (λ (xs : List ℕ). xs ++ drop (place + 1) old.starts)
    (sym (map-range_with_len_more (start_of c counts) 0 place place (omega arith))) in
    ap (λ (xs : List ℕ). record {
      counts = xs;
      starts = set (starts ++ drop place old.starts) place start;
      interval =
          interval_of c counts;
      type2_start = type2_start_of c counts;
    }) a
    ∙ ap (λ (xs : List ℕ). record {
      counts = take (place + 1) counts ++ drop (place + 1) old.counts;
      starts = xs;
      interval =
          interval_of c counts;
      type2_start = type2_start_of c counts;
    }) b

-- and then all have
pub until-all : (c : Config) (counts : List ℕ) (old : FrameShape) (place : ℕ)
    → length counts ≡ length c.plps → length counts ≡ length old.counts → length old.starts ≡ length old.counts
    → place ≡ length counts
    → shape_until c counts old place ≡ shape_of c counts
unfolding shape_of
until-all c counts old place fit same whole e =
    let a : take place counts ++ drop place old.counts ≡ counts =
    ap (λ (xs : List ℕ). take place counts ++ xs) (drop_all place old.counts (omega arith))
    ∙ append-nil (take place counts)
    ∙ take_all place counts (omega arith) in
    let b : map (start_of c counts) (range_with_len 0 place) ++ drop place old.starts
    ≡ map (start_of c counts) (range_with_len 0 (length c.plps)) =
    ap (λ (xs : List ℕ). map (start_of c counts) (range_with_len 0 place) ++ xs)
    (drop_all place old.starts (omega arith))
    ∙ append-nil (map (start_of c counts) (range_with_len 0 place))
    ∙ ap (λ (n : ℕ). map (start_of c counts) (range_with_len 0 n)) (e ∙ fit) in
    ap (λ (xs : List ℕ). record {
      counts = xs;
      starts = map (start_of c counts) (range_with_len 0 place) ++ drop place old.starts;
      interval = interval_of c counts;
      type2_start = type2_start_of c counts;
    }) a
    ∙ ap (λ (xs : List ℕ). record {
      counts = counts;
      starts = xs;
      interval = interval_of c counts;
      type2_start =
          type2_start_of c counts;
    }) b
