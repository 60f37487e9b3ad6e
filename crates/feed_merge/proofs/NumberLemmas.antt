-- Numbers of records that come one after another.
use Rattle.std.proofs.Common.{◌≡◌, ℕ, suc, ◌+◌, ◌≤◌, max, List, [], ◌∷◌, ◌++◌, length, refl, subst, arith}
use Rattle.std.specs.List.{AllByRecursion}
use Rattle.modulator.proofs.WaitLemmas.{number_at}
use Rattle.frame_groups.specs.Laws.{AreFrom}
use Rattle.frame_groups.specs.Modulated.{FrameRecord}
use Rattle.feed_merge.specs.Laws.{AllBelow}
use Rattle.feed_merge.specs.Picks.{above_all}

-- Each record is of a number that is no lower.
abbrev pub AllFrom : ℕ → List FrameRecord → Type 0
AllFrom n records = AllByRecursion (λ x. n ≤ x.number) records

pub above_append : (xs ys : List FrameRecord) → above_all (xs ++ ys) ≡ max (above_all xs) (above_all ys)
above_append [] ys = omega arith
above_append (x ∷ xs) ys = omega (arith, above_append xs ys)

pub below_of : (n : ℕ) (records : List FrameRecord) → above_all records ≤ n → AllBelow n records
below_of n [] l = tt
below_of n (x ∷ records) l = (omega (arith, l), below_of n records (omega (arith, l)))

pub below_append : (n : ℕ) (xs ys : List FrameRecord) → AllBelow n xs → AllBelow n ys → AllBelow n (xs ++ ys)
below_append n [] ys a b = b
below_append n (x ∷ xs) ys a b = (a.0, below_append n xs ys a.1 b)

-- none is above all of no records
pub nothing_above : (records : List FrameRecord) → above_all records ≡ 0 → records ≡ []
nothing_above [] e = refl
nothing_above (x ∷ records) e = absurd (omega (arith, e))

pub above_before : (m : ℕ) (given : List FrameRecord) (y : FrameRecord) (later : List FrameRecord)
    → AreFrom m (given ++ y ∷ later) → above_all given ≤ y.number
above_before m [] y later are = omega arith
above_before m (x ∷ given) y later are =
    let first = are.0 in
    let rest = above_before (m + 1) given y later are.1 in
    let here = number_at (m + 1) given y later are.1 in
    omega (arith, first, rest, here)

pub from_rest : (m : ℕ) (given rest : List FrameRecord) → AreFrom m (given ++ rest) → AreFrom (m + length given) rest
from_rest m [] rest are = let e : m ≡ m + 0 = omega arith in subst (λ (k : ℕ). AreFrom k rest) e are
from_rest m (x ∷ given) rest are =
    let e : m + 1 + length given ≡ m + suc (length given) = omega arith in
    subst (λ (k : ℕ). AreFrom k rest) e (from_rest (m + 1) given rest are.1)

pub from_more : (n m : ℕ) (records : List FrameRecord) → n ≤ m → AreFrom m records → AllFrom n records
from_more n m [] le are = tt
from_more n m (x ∷ records) le are = let e = are.0 in (
  omega (arith, le, e),
  from_more n (m + 1) records
      (omega (arith, le)) are.1,
)
