-- What it means for slices that cells share an address, or stand beyond the end.
use Rattle.std.proofs.Common.{◌≡◌, ℕ, ◌+◌, ◌-◌, ◌*◌, ◌<◌, ◌≤◌, ◌↔◌, ◌≢◌, ◌⊎◌, ⊎_elim, inl, inr, Bool, true, false, cond}
use Rattle.std.proofs.Common.{ltb, eqb}
use Rattle.std.proofs.Common.{◌&&◌, rules, IsTrue, length, refl, ap, sym, ◌∙◌, subst, arith}
use Rattle.std.specs.Prelude.{slice_index}
use Rattle.std.proofs.lemmas.Bool.{ltb-true, ltb-false}
use Rattle.std.proofs.lemmas.Nat.{mul-le, same_from_place, mul-add-lt}
use Rattle.plp_config.specs.Capacity.{IsPlan, block_cells}
use Rattle.plp_config.specs.Plps.{plp_at}
use Rattle.plp_config.specs.declared.config.Config.{Config}
use Rattle.scheduler.specs.Shape.{FrameShape, in_type2, cells_of}
use Rattle.cell_map.specs.declared.slices.Slices.{Slices}
use Rattle.cell_map.specs.Interleaver.{position}
use Rattle.cell_map.specs.Address.{IsCell, IsCarried, position_of, first_position, address_of}
use Rattle.cell_map.specs.CellMap.{IsBeyond, Shares, Passes}
use Rattle.cell_map.specs.Slices.{SlicesMeet, slices_of, PlaceOf, IsIn}
use Rattle.cell_map.specs.Runs.{LeavesFree, HasCell}
use Rattle.cell_map.specs.declared.interleaving.Place.{Place}
use Rattle.cell_map.proofs.PlanLemmas.{sub_slices-some}
use Rattle.cell_map.proofs.AtLemmas.{At, at_of_cell, cell_of_at, one_cell, at_place, cut_of, is_carried_at}
use Rattle.cell_map.proofs.MeetingLemmas.{more_below}
use Rattle.terms.proofs.CaseLemmas.{bool_cases}

-- two PLPs
pub meet_of_shares : (c : Config) (shape : FrameShape) (i j : ℕ) → IsPlan c → Shares c shape i j
    → SlicesMeet (slices_of c shape i) (slices_of c shape j) shape.interval
meet_of_shares c shape i j is s =
    let (k, (t, x)) = at_of_cell c shape s.frame_idx i s.block s.cell is s.one in
    let (m, (u, y)) = at_of_cell c shape s.frame_idx j s.other_block s.other_cell is s.other in
    let e = s.same in (
      k,
      (
        m,
        x.slice,
        y.slice,
        (
          omega (arith, e, x.address, y.address, x.inner, y.inner),
          omega (
            arith,
            e,
            x.address,
            y.address,
            x.inner,
            y.inner,
          ),
        ),
      ),
    )

pub shares_at : (c : Config) (shape : FrameShape) (i j k t m u : ℕ) → IsPlan c → i < length c.plps → j < length c.plps
    → i ≢ j →
    k < (slices_of c shape i).count → t < (slices_of c shape i).len → m < (slices_of c shape j).count
    → u < (slices_of c shape j).len →
    (slices_of c shape i).start + k * shape.interval + t ≡ (slices_of c shape j).start + m * shape.interval + u
    → Shares c shape i j
shares_at c shape i j k t m u is hi hj ne hk ht hm hu e =
    let (b, (q, one, x)) = cell_of_at c shape 0 i k t is hi hk ht in
    let (d, (r, other, y)) = cell_of_at c shape 0 j m u is hj hm hu in
    record {
      frame_idx = 0;
      block = b;
      cell = q;
      other_block = d;
      other_cell = r;
      one = one;
      other = other;
      same = x.address ∙ e ∙ sym y.address;
      apart = λ z. ne z.0;
    }

pub shares_of_meet : (c : Config) (shape : FrameShape) (i j : ℕ) → IsPlan c → i < length c.plps → j < length c.plps
    → i ≢ j →
    0 < (slices_of c shape i).len → 0 < (slices_of c shape j).len →
    SlicesMeet (slices_of c shape i) (slices_of c shape j) shape.interval → Shares c shape i j
shares_of_meet c shape i j is hi hj ne a b (k, (m, hk, hm, meets)) =
    let x : ℕ = (slices_of c shape i).start + k * shape.interval in
    let y : ℕ = (slices_of c shape j).start + m * shape.interval in
    let one = meets.0 in
    let two = meets.1 in
    bool_cases (ltb x y)
    (λ e. let lt : x < y = ltb-true x y e in
    shares_at c shape i j k (y - x) m 0 is hi hj ne hk (omega (arith, lt, two)) hm b (omega (arith, lt)))
    (λ e. let le : y ≤ x = ltb-false x y e in
    shares_at c shape i j k 0 m (x - y) is hi hj ne hk a hm (omega (arith, le, one)) (omega (arith, le)))

pub some_of_shares : (c : Config) (shape : FrameShape) (i j : ℕ) → IsPlan c → Shares c shape i j
    → (0 < (slices_of c shape i).len)
    × (0 < (slices_of c shape j).len)
some_of_shares c shape i j is s = grind (arith, at_of_cell)

-- one PLP with itself
pub self_shares : (c : Config) (shape : FrameShape) (j : ℕ) → IsPlan c → j < length c.plps
    → 1 < (slices_of c shape j).count
    → shape.interval < (slices_of c shape j).len → Shares c shape j j
self_shares c shape j is h two long =
    let len : ℕ = (slices_of c shape j).len in
    let zero_in : 0 < (slices_of c shape j).count = omega arith in
    let some : 0 < len = omega arith in
    let (b, (q, one, x)) = cell_of_at c shape 0 j 0 shape.interval is h zero_in long in
    let (d, (r, other, y)) = cell_of_at c shape 0 j 1 0 is h two some in
    let position_at : ℕ → ℕ → ℕ = position_of c shape j in
    record {
      frame_idx = 0;
      block = b;
      cell = q;
      other_block = d;
      other_cell = r;
      one = one;
      other = other;
      same = omega (arith, x.address, y.address);
      apart = λ z.
          let p : position_at b q ≡ position_at d r = ap (λ (n : ℕ). position_at n q) z.1 ∙ ap (position_at d) z.2 in
          let e : first_position c shape 0 j + (0 * len + shape.interval) ≡ first_position c shape 0 j + (1 * len + 0) =
          sym x.place ∙ p ∙ y.place in
          omega (arith, e, long);
    }

pub self_apart : (c : Config) (shape : FrameShape) (j : ℕ) → IsPlan c → ((slices_of c shape j).count ≤ 1)
    ⊎ ((slices_of c shape j).len ≤ shape.interval) → ¬ (Shares c shape j j)
self_apart c shape j is few s =
    let (k, (t, x)) = at_of_cell c shape s.frame_idx j s.block s.cell is s.one in
    let (m, (u, y)) = at_of_cell c shape s.frame_idx j s.other_block s.other_cell is s.other in
    let same : k * shape.interval + t ≡ m * shape.interval + u =
    (let e = s.same in omega (arith, e, x.address, y.address)) in
    let equal : (k ≡ m) × (t ≡ u) = ⊎_elim
    (λ one. let a : k ≡ 0 = omega (arith, x.slice) in
    let b : m ≡ 0 = omega (arith, y.slice) in
    let both : 0 * shape.interval + t ≡ 0 * shape.interval + u = sym (ap (λ (n : ℕ). n * shape.interval + t) a) ∙ same
    ∙ ap (λ (n : ℕ). n * shape.interval + u) b in
    (a ∙ sym b, omega (arith, both)))
    (λ long. let a : t < shape.interval = omega (arith, x.inner) in
    let b : u < shape.interval = omega (arith, y.inner) in
    same_from_place k t m u shape.interval a b same)
    few in
    let z : At c shape s.frame_idx j s.other_block s.other_cell k t = rw (equal.0, equal.1) y in
    let one = one_cell c shape s.frame_idx j s.block s.cell s.other_block s.other_cell k t is s.one.there
    s.other.there x z in
    s.apart (refl, one.0, one.1)

-- beyond the end
pub beyond_last : (c : Config) (shape : FrameShape) (j : ℕ) → IsPlan c → j < length c.plps
    → 0 < (slices_of c shape j).len
    → 0 < (slices_of c shape j).count →
    c.cells < (slices_of c shape j).start + ((slices_of c shape j).count - 1) * shape.interval
    + (slices_of c shape j).len
    → IsBeyond c shape j
beyond_last c shape j is h some any far =
    let k : ℕ = (slices_of c shape j).count - 1 in
    let t : ℕ = (slices_of c shape j).len - 1 in
    let hk : k < (slices_of c shape j).count = omega arith in
    let ht : t < (slices_of c shape j).len = omega arith in
    let (b, (q, cell, x)) = cell_of_at c shape 0 j k t is h hk ht in
    inr (0, b, q, cell, omega (arith, x.address, far, some))

pub not_beyond : (c : Config) (shape : FrameShape) (j : ℕ) → IsPlan c
    → slice_index shape.counts j ≤ (plp_at c.plps j).blocks →
    (0 < (slices_of c shape j).len → (slices_of c shape j).start + ((slices_of c shape j).count - 1) * shape.interval
    + (slices_of c shape j).len ≤ c.cells) → ¬ (IsBeyond c shape j)
not_beyond c shape j is few last w =
    ⊎_elim
    (λ many. let never : ⊥ = omega (arith, few, many) in never)
    (λ w'. let (frame, b, q, cell, far) = w' in
    let (k, (t, x)) = at_of_cell c shape frame j b q is cell in
    let some : 0 < (slices_of c shape j).len = omega (arith, x.inner) in
    let upto : k ≤ (slices_of c shape j).count - 1 = omega (arith, x.slice) in
    let product : k * shape.interval ≤ ((slices_of c shape j).count - 1) * shape.interval =
    mul-le k shape.interval ((slices_of c shape j).count - 1) shape.interval upto (omega arith) in
    let end = last some in
    let never : ⊥ = omega (arith, far, x.address, x.inner, product, end) in never)
    w

-- the same, for what the code computed
pub shares_law : (c : Config) (shape : FrameShape) (i j : ℕ) (a b : Slices) (test : Bool) → IsPlan c → i < length c.plps
    → j < length c.plps → i ≢ j →
    a ≡ slices_of c shape i → b ≡ slices_of c shape j → 0 < a.len → 0 < b.len → IsTrue test
    ↔ SlicesMeet a b shape.interval
    → IsTrue test ↔ Shares c shape i j
shares_law c shape i j a b test is hi hj ne ea eb sa sb f =
    let ta : 0 < (slices_of c shape i).len = rw ea at sa in
    let tb : 0 < (slices_of c shape j).len = rw eb at sb in
    let g : IsTrue test ↔ SlicesMeet (slices_of c shape i) (slices_of c shape j) shape.interval = rw (ea, eb) at f in
    (λ t. shares_of_meet c shape i j is hi hj ne ta tb (g.0 t), λ s. g.1 (meet_of_shares c shape i j is s))

pub empty_first : (c : Config) (shape : FrameShape) (i j : ℕ) (a : Slices) → IsPlan c → a ≡ slices_of c shape i
    → a.len ≡ 0
    → ¬ (Shares c shape i j)
empty_first c shape i j a is e none s = let z : (slices_of c shape i).len ≡ 0 = rw e at none in let x =
    some_of_shares c shape i j is s in let never : ⊥ = omega (arith, x.0, z) in never

pub empty_second : (c : Config) (shape : FrameShape) (i j : ℕ) (a : Slices) → IsPlan c → a ≡ slices_of c shape j
    → a.len ≡ 0
    → ¬ (Shares c shape i j)
empty_second c shape i j a is e none s = let z : (slices_of c shape j).len ≡ 0 = rw e at none in let x =
    some_of_shares c shape i j is s in let never : ⊥ = omega (arith, x.1, z) in never

pub self_law : (c : Config) (shape : FrameShape) (j : ℕ) (a : Slices) → IsPlan c → j < length c.plps
    → a ≡ slices_of c shape j
    → 0 < a.count → a.count ≢ 1 →
    IsTrue (ltb shape.interval a.len) ↔ Shares c shape j j
self_law c shape j a is h e some many = grind (arith, self_shares, ltb-true, bool_cases, ltb, self_apart, ltb-false)

pub self_one : (c : Config) (shape : FrameShape) (j : ℕ) (a : Slices) → IsPlan c → a ≡ slices_of c shape j → a.count ≡ 1
    → ¬ (Shares c shape j j)
self_one c shape j a is e one = let few : (slices_of c shape j).count ≡ 1 = rw e at one in
    self_apart c shape j is (inl (omega arith))

pub beyond_law : (c : Config) (shape : FrameShape) (j : ℕ) (a : Slices) → IsPlan c → j < length c.plps
    → slice_index shape.counts j ≤ (plp_at c.plps j).blocks →
    a ≡ slices_of c shape j → 0 < a.count → a.len ≢ 0
    → IsTrue (ltb c.cells (a.start + (a.count - 1) * shape.interval + a.len))
    ↔ IsBeyond c shape j
beyond_law c shape j a is h few e any some =
    grind (arith, beyond_last, ltb-true, bool_cases, ltb, not_beyond, ltb-false)

pub beyond_empty : (c : Config) (shape : FrameShape) (j : ℕ) (a : Slices) → IsPlan c → slice_index shape.counts j
    ≤ (plp_at c.plps j).blocks →
    a ≡ slices_of c shape j → a.len ≡ 0 → ¬ (IsBeyond c shape j)
beyond_empty c shape j a is few e none = grind (arith, not_beyond)

pub alone : (c : Config) (shape : FrameShape) (j : ℕ) → IsPlan c → Passes c shape → j < length c.plps →
    ((slices_of c shape j).count ≡ 1) ⊎ ((slices_of c shape j).len ≤ shape.interval)
alone c shape j is passes h =
    let s = slices_of c shape j in
    let some : 0 < s.count = elim (in_type2 c j) as (λ (b : Bool). 0 < cond b c.sub_slices 1)
    [ true ↦ (sub_slices-some c is) | false ↦ omega arith ] in
    bool_cases (ltb 1 s.count)
    (λ e. bool_cases (ltb shape.interval s.len)
    (λ f. let x = self_shares c shape j is h (ltb-true 1 s.count e) (ltb-true shape.interval s.len f) in
    absurd (x.apart (passes.apart x.frame_idx j x.block x.cell j x.other_block x.other_cell x.one x.other x.same)))
    (λ f. inr (ltb-false shape.interval s.len f)))
    (λ e. let le = ltb-false 1 s.count e in inl (omega (arith, le, some)))

all_equal : (i j b d q r : ℕ) → (eqb i j && (eqb b d && eqb q r)) ≡ true → (i ≡ j) × (b ≡ d) × (q ≡ r)
all_equal i j b d q r e = search rules

not_all_equal : (i j b d q r : ℕ) → (eqb i j && (eqb b d && eqb q r)) ≡ false → ¬ ((i ≡ j) × (b ≡ d) × (q ≡ r))
not_all_equal i j b d q r e z = search rules

pub passes_from : (c : Config) (shape : FrameShape) → ((k : ℕ) → k < length c.plps → ¬ (IsBeyond c shape k)) →
    ((h k : ℕ) → h < length c.plps → h ≤ k → k < length c.plps → ¬ (Shares c shape h k)) → Passes c shape
passes_from c shape near single =
    let ordered : (frame i b q j d r : ℕ) → i ≤ j → IsCarried c shape frame i b q → IsCarried c shape frame j d r
    → address_of c shape frame i b q ≡ address_of c shape frame j d r → (i ≡ j) × (b ≡ d) × (q ≡ r) =
    λ frame i b q j d r le one other same.
    bool_cases (eqb i j && (eqb b d && eqb q r))
    (λ e. all_equal i j b d q r e)
    (λ e. absurd (single i j one.there.configured le other.there.configured
    (record {
      frame_idx = frame;
      block = b;
      cell = q;
      other_block = d;
      other_cell = r;
      one = one;
      other = other;
      same = same;
      apart = λ z.
          not_all_equal i j b d q r e z;
    }))) in
    record {
      counts = λ j h. bool_cases (ltb (plp_at c.plps j).blocks (slice_index shape.counts j))
          (λ e. absurd (near j h (inl (ltb-true (plp_at c.plps j).blocks (slice_index shape.counts j) e))))
          (λ e. ltb-false (plp_at c.plps j).blocks (slice_index shape.counts j) e);
      below = λ frame j b q cell. bool_cases (ltb (address_of c shape frame j b q) c.cells)
          (λ e. ltb-true (address_of c shape frame j b q) c.cells e)
          (λ e.
          absurd (near j cell.there.configured (inr (
            frame,
            b,
            q,
            cell,
            ltb-false (address_of c shape frame j b q)
                c.cells e,
          ))));
      apart = λ frame i b q j d r one other same.
          bool_cases (ltb j i)
          (λ e. let x = ordered frame j d r i b q (let lt = ltb-true j i e in omega (arith, lt)) other one (sym same) in
          (sym x.0, sym x.1, sym x.2))
          (λ e. ordered frame i b q j d r (ltb-false j i e) one other same);
    }

pub alone_at : (c : Config) (shape : FrameShape) (j : ℕ) (a : Slices) (interval : ℕ) → IsPlan c → Passes c shape
    → j < length c.plps →
    a ≡ slices_of c shape j → interval ≡ shape.interval → (a.count ≡ 1) ⊎ (a.len ≤ interval)
alone_at c shape j a interval is passes h e f = rw (e, f) (alone c shape j is passes h)

pub least_from : (c : Config) (shape : FrameShape) (i j : ℕ) →
    ((h k : ℕ) → h < i → h ≤ k → k < length c.plps → ¬ (Shares c shape h k)) →
    ((k : ℕ) → i ≤ k → k < j → ¬ (Shares c shape i k)) →
    (h k : ℕ) → h ≤ k → Shares c shape h k → (i < h) ⊎ ((i ≡ h) × (j ≤ k))
least_from c shape i j before here h k le s =
    bool_cases (ltb h i)
    (λ e. absurd (before h k (ltb-true h i e) le s.other.there.configured s))
    (λ e. let low = ltb-false h i e in bool_cases (ltb i h) (λ f. inl (ltb-true i h f))
    (λ f. let high = ltb-false i h f in
    let same : h ≡ i = omega (arith, low, high) in
    bool_cases (ltb k j)
    (λ g. absurd (here k (omega (arith, le, same)) (ltb-true k j g) (subst (λ (x : ℕ). Shares c shape x k) same s)))
    (λ g. inr (sym same, ltb-false k j g))))

pub pairs_more : (c : Config) (shape : FrameShape) (i : ℕ) →
    ((h k : ℕ) → h < i → h ≤ k → k < length c.plps → ¬ (Shares c shape h k)) →
    ((k : ℕ) → i ≤ k → k < length c.plps → ¬ (Shares c shape i k)) →
    (h k : ℕ) → h < i + 1 → h ≤ k → k < length c.plps → ¬ (Shares c shape h k)
pairs_more c shape i before here h k lt =
    let P : ℕ → Type 0 = λ h. h ≤ k → k < length c.plps → ¬ (Shares c shape h k) in
    more_below P 0 i (λ h a b. before h k b) (λ a b. here k a b) h (omega arith) lt

pub nowhere : (c : Config) (shape : FrameShape) (frame j : ℕ) (a : Slices) (interval address wide : ℕ) → IsPlan c
    → a ≡ slices_of c shape j → interval ≡ shape.interval → wide ≡ address →
    ((k t : ℕ) → k < a.count → t < a.len → ¬ (a.start + k * interval + t ≡ wide)) →
    (b q : ℕ) → IsCarried c shape frame j b q → ¬ (address_of c shape frame j b q ≡ address)
nowhere c shape frame j a interval address wide is e f g none b q cell here =
    let (k, (t, x)) = at_of_cell c shape frame j b q is cell in
    let out = rw (e, f, g) at none in
    out k t x.slice x.inner (sym x.address ∙ here)

pub leaves_free : (c : Config) (shape : FrameShape) (frame j : ℕ) (a : Slices) (interval address wide n : ℕ) → IsPlan c
    → a ≡ slices_of c shape j → interval ≡ shape.interval → wide ≡ address →
    ((k t : ℕ) → k < a.count → t < a.len → wide ≤ a.start + k * interval + t → wide + n ≤ a.start + k * interval + t)
    → LeavesFree c shape frame j address n
leaves_free c shape frame j a interval address wide n is e f g none b q cell far =
    let (k, (t, x)) = at_of_cell c shape frame j b q is cell in
    let out = rw (e, f, g) at none in
    let end = out k t x.slice x.inner (omega (arith, far, x.address)) in
    omega (arith, end, x.address)

-- an address in one of its slices has a cell
pub has_cell : (c : Config) (shape : FrameShape) (frame j : ℕ) (a : Slices) (interval address wide n : ℕ) → IsPlan c → j
    < length c.plps
    → a ≡ slices_of c shape j → interval ≡ shape.interval → wide ≡ address →
    IsIn a interval (wide + n) → HasCell c shape frame j (address + n)
has_cell c shape frame j a interval address wide n is h e f g x =
    let hk : x.slice < (slices_of c shape j).count = rw e at x.some in
    let ht : x.inner < (slices_of c shape j).len = rw e at x.within in
    let (b, (q, cell, at)) = cell_of_at c shape frame j x.slice x.inner is h hk ht in
    let same : (slices_of c shape j).start + x.slice * shape.interval + x.inner ≡ wide + n = rw (e, f) at x.here in
    record { block = b; cell = q; there = cell; here = at.address ∙ same ∙ ap (λ (k : ℕ). k + n) g }

pub place_law : (c : Config) (shape : FrameShape) (frame j : ℕ) (a : Slices) (interval address wide k t : ℕ)
    (place : Place)
    (n : ℕ)
    → n ≡ slice_index shape.counts j → IsPlan c → j < length c.plps → a ≡ slices_of c shape j
    → interval ≡ shape.interval
    → wide ≡ address →
    k < a.count → t < a.len → a.start + k * interval + t ≡ wide →
    place.block < n → place.cell < (block_cells c j) →
    position (block_cells c j) (plp_at c.plps j).interleave n place.block place.cell
    ≡ first_position c shape frame j + (k * a.len + t)
    → PlaceOf c shape frame j address place
place_law c shape frame j a interval address wide k t place n same is h e f g hk ht here hb hq p =
    let hk' : k < (slices_of c shape j).count = rw e at hk in
    let ht' : t < (slices_of c shape j).len = rw e at ht in
    let here' : (slices_of c shape j).start + k * shape.interval + t ≡ address = rw (e, f, g) at here in
    let p' : position_of c shape j place.block place.cell
    ≡ first_position c shape frame j + (k * (slices_of c shape j).len + t) = rw (same, e) at p in
    let cell : IsCell c shape j place.block place.cell = record { configured = h; sent = rw same at hb; within = hq } in
    let product : k * (slices_of c shape j).len + t < (slices_of c shape j).len * (slices_of c shape j).count =
    mul-add-lt k (slices_of c shape j).len t (slices_of c shape j).count hk' ht' in
    let inside : k * (slices_of c shape j).len + t < cells_of c shape.counts j = omega
    (arith, product, cut_of c shape j is h) in
    record {
      there = is_carried_at c shape frame j place.block place.cell (k * (slices_of c shape j).len + t) cell inside p';
      value = (at_place c shape frame j place.block place.cell k t hk' ht' p').address ∙ here';
    }
