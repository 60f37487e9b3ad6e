-- Where slices meet.
use Rattle.std.proofs.Common.{◌≡◌, ℕ, ◌+◌, ◌-◌, ◌*◌, ◌/◌, ◌%◌, ◌<◌, ◌≤◌, ◌↔◌, ◌≢◌, ◌⊎◌, ⊎_elim, inl, inr, min, Bool}
use Rattle.std.proofs.Common.{true, false}
use Rattle.std.proofs.Common.{ltb, IsTrue, ap, sym, ◌∙◌, arith}
use Rattle.std.proofs.lemmas.Bool.{lt-ltb, ltb-true, ltb-false}
use Rattle.std.proofs.lemmas.Nat.{div-add-mod', mod_below, mul-le, le-div, div-mul-add, mod-mul-add}
use Rattle.cell_map.specs.declared.slices.Slices.{Slices}
use Rattle.cell_map.specs.Slices.{SliceMeets, SlicesMeet}
use Rattle.terms.proofs.CaseLemmas.{bool_cases}

pub last_below : (x interval last : ℕ) → last ≤ x / interval → last * interval ≤ x
last_below x interval last h = grind (arith, div-add-mod', mul-le)

-- the last slice that begins before the interval's end decides
pub meets_law : (start len : ℕ) (s : Slices) (interval last : ℕ) → 0 < interval → 0 < s.count → s.start < start + len →
    last ≡ min (s.count - 1) ((start + len - s.start - 1) / interval) →
    IsTrue (ltb start (s.start + last * interval + s.len)) ↔ SliceMeets start len s interval
meets_law start len s interval last some has far e = grind (arith, last_below, ltb-true, le-div, mul-le, lt-ltb)

-- two slices meet where the first of the one meets one of the other's: shift both back by the smaller number
pub meet_shifted : (a b : Slices) (interval : ℕ) → SlicesMeet a b interval → SliceMeets a.start a.len b interval
    ⊎ SliceMeets b.start b.len a interval
meet_shifted a b interval (j, (k, hj, hk, meets)) =
    bool_cases (ltb j k)
    (λ e. let lt = ltb-true j k e in
    let d : j + (k - j) ≡ k = omega arith in
    let product : j * interval + (k - j) * interval ≡ k * interval = omega (arith, ap (λ (n : ℕ). n * interval) d) in
    inl (k - j, omega arith, (omega (arith, meets.0, product), omega (arith, meets.1, product))))
    (λ e. let le = ltb-false j k e in
    let d : k + (j - k) ≡ j = omega arith in
    let product : k * interval + (j - k) * interval ≡ j * interval = omega (arith, ap (λ (n : ℕ). n * interval) d) in
    inr (j - k, omega arith, (omega (arith, meets.1, product), omega (arith, meets.0, product))))

pub meet_second : (a b : Slices) (interval : ℕ) → 0 < b.count → SliceMeets b.start b.len a interval
    → SlicesMeet a b interval
meet_second a b interval some (k, below, meets) =
    (k, (0, below, some, (omega (arith, meets.1), omega (arith, meets.0))))

pub meet_law : (a b : Slices) (interval : ℕ) (first second : Bool) → 0 < a.count → 0 < b.count →
    IsTrue first ↔ SliceMeets a.start a.len b interval → first ≡ false → IsTrue second
    ↔ SliceMeets b.start b.len a interval →
    IsTrue second ↔ SlicesMeet a b interval
meet_law a b interval first second ha hb f none g = (
  λ e. meet_second a b interval hb (g.0 e),
  λ w. ⊎_elim (λ x. absurd (let never : true ≡ false = sym (f.1 x) ∙ none in cc)) (λ y. g.1 y)
      (meet_shifted a b interval w),
)

pub parts_of : (interval k t rest : ℕ) → t < interval → k * interval + t ≡ rest → (rest / interval ≡ k)
    × (rest % interval ≡ t)
parts_of interval k t rest h e = grind (arith, div-mul-add, mod-mul-add)

pub no_place : (start len count interval address : ℕ) → (count ≡ 1) ⊎ (len ≤ interval) → count ≢ 1 → start ≤ address →
    (count ≤ (address - start) / interval) ⊎ (len ≤ (address - start) % interval) →
    (k t : ℕ) → k < count → t < len → start + k * interval + t ≡ address → ⊥
no_place start len count interval address apart many low out k t hk ht e =
    let long : len ≤ interval = ⊎_elim (λ (x : count ≡ 1). absurd (many x)) (λ (x : len ≤ interval). x) apart in
    let rest : k * interval + t ≡ address - start = omega (arith, e) in
    let inner : t < interval = omega (arith, long) in
    let p = parts_of interval k t (address - start) inner rest in
    ⊎_elim (λ (x : count ≤ (address - start) / interval). (let never : ⊥ = omega (arith, x, p.0) in never))
    (λ (x : len ≤ (address - start) % interval). (let never : ⊥ = omega (arith, x, p.1) in never)) out

-- a place at or behind an address that is in no slice is in a later slice
pub later : (len count interval rest k t : ℕ) → len ≤ interval → (count ≤ rest / interval) ⊎ (len ≤ rest % interval)
    → k < count → t < len → rest ≤ k * interval + t → rest / interval < k
later len count interval rest k t long out hk ht far =
    grind (arith, div-add-mod', bool_cases, ltb, ltb-true, ltb-false, mul-le)

-- and that is not before the next slice
pub next_slice : (start len count interval address k t : ℕ) → (count ≡ 1) ⊎ (len ≤ interval) → count ≢ 1
    → start ≤ address
    → (count ≤ (address - start) / interval) ⊎ (len ≤ (address - start) % interval)
    → k < count → t < len → address ≤ start + k * interval + t
    → ((address - start) / interval < k) × (address + (interval - (address - start) % interval) ≤ start + k
    * interval + t)
next_slice start len count interval address k t apart many low out hk ht far =
    let rest : ℕ = address - start in
    let long : len ≤ interval = ⊎_elim (λ (x : count ≡ 1). absurd (many x)) (λ (x : len ≤ interval). x) apart in
    let lt : rest / interval < k = later len count interval rest k t long out hk ht (omega (arith, far, low)) in
    let all : rest / interval * interval + rest % interval ≡ rest = div-add-mod' rest interval in
    let inner : rest % interval < interval = mod_below rest interval (omega (arith, ht, long)) in
    let m : (rest / interval + 1) * interval ≤ k * interval = mul-le (rest / interval + 1) interval k
    interval (omega (arith, lt))
    (omega arith) in
    (lt, omega (arith, all, inner, m, low))

pub never_law : {P : Type 0} → ¬ P → IsTrue false ↔ P
never_law n = (λ e. absurd (let never : false ≡ true = e in cc), λ p. absurd (n p))

pub more_below : (P : ℕ → Type 0) (first k : ℕ) → ((j : ℕ) → first ≤ j → j < k → P j) → P k → (j : ℕ)
    → first ≤ j → j < k + 1
    → P j
more_below P first k below here j a b = grind (arith, bool_cases, ltb, ltb-true, ltb-false)
