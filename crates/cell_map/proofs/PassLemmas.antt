-- A shape whose PLPs stand in order has a cell map.
use Rattle.std.proofs.Common.{◌≡◌, ℕ, zero, suc, ◌+◌, ◌-◌, ◌*◌, ◌/◌, ◌<◌, ◌≤◌, inl, inr, true, false, length, refl, ap}
use Rattle.std.proofs.Common.{sym}
use Rattle.std.proofs.Common.{subst, arith}
use Rattle.std.specs.Prelude.{slice_index}
use Rattle.std.proofs.lemmas.Bool.{cases_lt, cases_eq}
use Rattle.std.proofs.lemmas.Nat.{mul-le}
use Rattle.std.proofs.Math.Nat.{div-le_self}
use Rattle.plp_config.specs.Capacity.{IsPlan, block_cells}
use Rattle.plp_config.specs.Plps.{plp_at, spread}
use Rattle.plp_config.specs.declared.config.Config.{Config}
use Rattle.scheduler.specs.Laws.{StandsInOrder}
use Rattle.scheduler.specs.Shape.{FrameShape, in_type2, cells_of, slice_of}
use Rattle.cell_map.specs.CellMap.{Shares, Passes}
use Rattle.cell_map.specs.Slices.{slices_of}
use Rattle.cell_map.proofs.ShareLemmas.{not_beyond, some_of_shares, meet_of_shares, self_apart, passes_from}
use Rattle.terms.proofs.CaseLemmas.{bool_cases}

-- a PLP with cells has blocks
count_some : (n cells spread slices : ℕ) → 0 < n * cells / spread / slices → 0 < n
count_some zero cells spread slices h =
    let m : 0 * cells / spread / slices ≤ 0 * cells / spread = div-le_self (0 * cells / spread) slices in
    let l : 0 * cells / spread ≤ 0 * cells = div-le_self (0 * cells) spread in
    absurd (omega (arith, h, m, l))
count_some (suc n) cells spread slices h = omega arith

-- the slices of either type
pub record Kind (c : Config) (shape : FrameShape) (plp len count : ℕ) : Type 0 where
  pub len_is : (slices_of c shape plp).len ≡ len
  pub count_is : (slices_of c shape plp).count ≡ count

kind1 : (c : Config) (shape : FrameShape) (plp : ℕ) → in_type2 c plp ≡ false
    → Kind c shape plp (cells_of c shape.counts plp) 1
kind1 c shape plp e = record { len_is = rw e (omega arith); count_is = rw e refl }

kind2 : (c : Config) (shape : FrameShape) (plp : ℕ) → in_type2 c plp ≡ true
    → Kind c shape plp (slice_of c shape.counts plp) c.sub_slices
kind2 c shape plp e = record { len_is = rw e refl; count_is = rw e refl }

-- what ends within the frame is not beyond it
ends : (c : Config) (shape : FrameShape) (plp : ℕ) → StandsInOrder c shape → plp < length c.plps
    → 0 < (slices_of c shape plp).len
    → (slices_of c shape plp).start + ((slices_of c shape plp).count - 1) * shape.interval + (slices_of c shape plp).len
    ≤ c.cells
ends c shape plp stands inside some = grind (arith, count_some, bool_cases, kind2, kind1)

-- two sub-slices that stand in order within an interval do not meet
in_order : (a la b lb interval j k : ℕ) → a + la ≤ b → b + lb ≤ a + interval
    → ¬ ((a + j * interval < b + k * interval + lb) × (b + k * interval < a + j * interval + la))
in_order a la b lb interval j k before within meets =
    elim (cases_lt k j) [
      | inl less ↦
          (let product : (k + 1) * interval ≤ j * interval = mul-le (k + 1) interval j interval (omega arith)
          (omega arith) in
          let never : ⊥ = omega (arith, product, meets.0, within) in never)
      | inr upto ↦ (let product : j * interval ≤ k * interval = mul-le j interval k interval upto (omega arith) in
          let never : ⊥ = omega (arith, product, meets.1, before) in never)
    ]

-- PLPs in order share no address
apart : (c : Config) (shape : FrameShape) (i j : ℕ) → IsPlan c → StandsInOrder c shape → i < j → i < length c.plps
    → j < length c.plps → ¬ (Shares c shape i j)
apart c shape i j is stands less hi hj s =
    let some = some_of_shares c shape i j is s in
    let one : 0 < slice_index shape.counts i =
    count_some (slice_index shape.counts i) (block_cells c i) (spread c.plps i) (slices_of c shape i).count some.0 in
    let other : 0 < slice_index shape.counts j =
    count_some (slice_index shape.counts j) (block_cells c j) (spread c.plps j) (slices_of c shape j).count some.1 in
    let (k, (m, hk, hm, meets)) = meet_of_shares c shape i j is s in
    bool_cases (in_type2 c i)
    (λ e. let a = kind2 c shape i e in
    bool_cases (in_type2 c j)
    (λ f. let b = kind2 c shape j f in
    let before = stands.type2 i j less (hi, one, e) (hj, other, f) in
    let within = stands.interval i j (hi, one, e) (hj, other, f) in
    in_order (slice_index shape.starts i) (slice_of c shape.counts i) (slice_index shape.starts j)
    (slice_of c shape.counts j) shape.interval k m before within (rw (a.len_is, b.len_is) at meets))
    (λ f. let b = kind1 c shape j f in
    let first : m ≡ 0 = omega (arith, b.count_is, hm) in
    let product : 0 * shape.interval ≡ m * shape.interval = ap (λ (n : ℕ). n * shape.interval) (sym first) in
    let before = stands.types j i (hj, other, f) (hi, one, e) in
    let never : ⊥ = omega (arith, before, meets.0, b.len_is, product) in never))
    (λ e. let a = kind1 c shape i e in
    let first : k ≡ 0 = omega (arith, a.count_is, hk) in
    let product : 0 * shape.interval ≡ k * shape.interval = ap (λ (n : ℕ). n * shape.interval) (sym first) in
    bool_cases (in_type2 c j)
    (λ f. let before = stands.types i j (hi, one, e) (hj, other, f) in
    let never : ⊥ = omega (arith, before, meets.1, a.len_is, product) in never)
    (λ f. let before = stands.type1 i j less (hi, one, e) (hj, other, f) in
    let never : ⊥ = omega (arith, before, meets.1, a.len_is, product) in never))

-- a PLP alone shares none
alone : (c : Config) (shape : FrameShape) (j : ℕ) → IsPlan c → StandsInOrder c shape → j < length c.plps
    → ¬ (Shares c shape j j)
alone c shape j is stands inside s =
    let some = some_of_shares c shape j j is s in
    let blocks : 0 < slice_index shape.counts j =
    count_some (slice_index shape.counts j) (block_cells c j) (spread c.plps j) (slices_of c shape j).count some.0 in
    bool_cases (in_type2 c j)
    (λ e. let k = kind2 c shape j e in
    self_apart c shape j is (inr (omega (arith, k.len_is, stands.interval j j (inside, blocks, e) (inside, blocks, e))))
    s)
    (λ e. let k = kind1 c shape j e in self_apart c shape j is (inl (omega (arith, k.count_is))) s)

pub shape_passes : (c : Config) (shape : FrameShape) → IsPlan c
    → ((plp : ℕ) → plp < length c.plps → slice_index shape.counts plp ≤ (plp_at c.plps plp).blocks)
    → StandsInOrder c shape → Passes c shape
shape_passes c shape is fit stands =
    passes_from c shape
    (λ k h. not_beyond c shape k is (fit k h) (λ some. ends c shape k stands h some))
    (λ h k hh le hk. elim (cases_eq h k) [
      | inl same ↦ subst (λ (x : ℕ). ¬ (Shares c shape h x)) same (alone c shape h is stands hh)
      | inr differ ↦ apart c shape h k is stands (omega arith) hh hk
    ])
