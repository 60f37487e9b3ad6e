-- Cells by slice and place in the slice.
use Rattle.std.proofs.Common.{◌≡◌, ℕ, zero, suc, ◌+◌, ◌-◌, ◌*◌, ◌/◌, ◌%◌, ◌<◌, ◌≤◌, Bool, true, false, cond, length}
use Rattle.std.proofs.Common.{refl, ap}
use Rattle.std.proofs.Common.{sym, ◌∙◌}
use Rattle.std.proofs.Common.{arith}
use Rattle.std.specs.Prelude.{slice_index}
use Rattle.std.proofs.lemmas.Nat.{div-add-mod', mod_below, div-mul-add, mod-mul-add, div_below, mul-le, mul-add-lt}
use Rattle.terms.proofs.NatLemmas.{cut_parts}
use Rattle.std.proofs.Math.Nat.{mul_assoc, add-mul}
use Rattle.plp_config.specs.Capacity.{IsPlan, block_cells}
use Rattle.plp_config.specs.Rules.{SpreadDivides}
use Rattle.plp_config.specs.Plps.{plp_at, spread}
use Rattle.plp_config.specs.declared.config.Config.{Config}
use Rattle.scheduler.specs.Shape.{FrameShape, in_type2, cells_of}
use Rattle.cell_map.specs.Address.{IsCell, IsCarried, position_of, first_position, address_of}
use Rattle.cell_map.specs.Laws.{CarriedOnce, PartsRepeat}
use Rattle.cell_map.specs.Slices.{slices_of}
use Rattle.cell_map.proofs.PlanLemmas.{plan_row, sub_slices-some}
use Rattle.cell_map.proofs.PositionLemmas.{position_below, position_one, placed}
use Rattle.terms.proofs.NatLemmas.{cut_whole}

-- slices if the kind is known
abbrev pub count_by_kind : Bool → ℕ → ℕ
count_by_kind second slices = cond second slices 1

cut_by_kind : (second : Bool) (n cells slices spread : ℕ) → 0 < slices → 0 < spread
    → cells % (count_by_kind second slices * spread) ≡ 0
    → count_by_kind second slices * (n * cells / spread / count_by_kind second slices) ≡ n * cells / spread
cut_by_kind true n cells slices spread some wide h = cut_parts n cells slices spread some wide h
cut_by_kind false n cells slices spread some wide h = omega arith

abbrev pub address_by_kind : Bool → ℕ → ℕ → ℕ → ℕ → ℕ → ℕ
address_by_kind second w slices start interval p = cond second (start + p / (w / slices) * interval + p % (w / slices))
    (start + p)

-- the address of the t-th place of the k-th slice
pub address_law : (second : Bool) (w slices start interval k t : ℕ) → k < count_by_kind second slices
    → t < w / count_by_kind second slices →
    address_by_kind second w slices start interval (k * (w / count_by_kind second slices) + t) ≡ start + k
    * interval + t
address_law true w slices start interval k t hk ht =
    rw (div-mul-add k (w / slices) t ht, mod-mul-add k (w / slices) t ht) refl
address_law false w slices start interval zero t hk ht = omega arith
address_law false w slices start interval (suc k) t hk ht = absurd (omega arith)

-- where a cell stands among the slices
pub record At (c : Config) (shape : FrameShape) (frame j b q k t : ℕ) : Type 0 where
  pub slice : k < (slices_of c shape j).count
  pub inner : t < (slices_of c shape j).len
  pub place : position_of c shape j b q ≡ first_position c shape frame j + (k * (slices_of c shape j).len + t)
  pub address : address_of c shape frame j b q ≡ (slices_of c shape j).start + k * shape.interval + t

-- the slices have the cells of the frame
pub cut_of : (c : Config) (shape : FrameShape) (j : ℕ) → IsPlan c → j < length c.plps
    → (slices_of c shape j).count * (slices_of c shape j).len ≡ cells_of c shape.counts j
cut_of c shape j is h = grind (arith, plan_row, cut_by_kind, sub_slices-some)

-- and the frames those of the interleaving frame
pub frames_of : (c : Config) (shape : FrameShape) (j : ℕ) → IsPlan c → j < length c.plps
    → spread c.plps j * cells_of c shape.counts j ≡ slice_index shape.counts j * block_cells c j
frames_of c shape j is h = grind (arith, plan_row, cut_whole)

-- the positions that a frame carries are all there
pub part_inside : (c : Config) (shape : FrameShape) (frame j : ℕ) → IsPlan c → j < length c.plps
    → first_position c shape frame j + cells_of c shape.counts j ≤ slice_index shape.counts j * block_cells c j
part_inside c shape frame j is h = grind (arith, mod_below, plan_row, mul-le, frames_of)

pub at_place : (c : Config) (shape : FrameShape) (frame j b q k t : ℕ) → k < (slices_of c shape j).count
    → t < (slices_of c shape j).len
    → position_of c shape j b q ≡ first_position c shape frame j + (k * (slices_of c shape j).len + t)
    → At c shape frame j b q k t
at_place c shape frame j b q k t hk ht e =
    let w : ℕ = cells_of c shape.counts j in
    let place : position_of c shape j b q - first_position c shape frame j ≡ k * (slices_of c shape j).len + t = omega
    (arith, e) in
    record {
      slice = hk;
      inner = ht;
      place = e;
      address = ap (λ (p : ℕ). address_by_kind (in_type2 c j) w c.sub_slices (slice_index shape.starts j)
          shape.interval p) place
          ∙ address_law (in_type2 c j) w c.sub_slices (slice_index shape.starts j) shape.interval k t hk ht;
    }

-- a product above another number has no factor 0
some_factor : (p n len : ℕ) → p < n * len → 0 < len
some_factor p n zero h = absurd (omega arith)
some_factor p n (suc len) h = omega arith

-- a position that the frame carries is a place behind its first one
pub carried_place : (c : Config) (shape : FrameShape) (frame j b q : ℕ) → IsPlan c → IsCarried c shape frame j b q
    → (z : ℕ) × (z < cells_of c shape.counts j) × (position_of c shape j b q ≡ first_position c shape frame j + z)
carried_place c shape frame j b q is it =
    let w : ℕ = cells_of c shape.counts j in
    let p : ℕ = position_of c shape j b q in
    let row = plan_row c j is it.there.configured in
    let below : p < slice_index shape.counts j * block_cells c j =
    position_below (block_cells c j) (plp_at c.plps j).interleave (slice_index shape.counts j) b q row.fifth
    it.there.sent
    it.there.within in
    let some : 0 < w = some_factor p (spread c.plps j) w
    (omega (arith, below, frames_of c shape j is it.there.configured)) in
    let all : p / w * w + p % w ≡ p = div-add-mod' p w in
    let first : p / w * w ≡ first_position c shape frame j = ap (λ (k : ℕ). k * w) it.carried in
    (p % w, mod_below p w some, omega (arith, all, first))

-- and the other way
pub is_carried_at : (c : Config) (shape : FrameShape) (frame j b q z : ℕ) → IsCell c shape j b q
    → z < cells_of c shape.counts j
    → position_of c shape j b q ≡ first_position c shape frame j + z → IsCarried c shape frame j b q
is_carried_at c shape frame j b q z there inside e = grind (arith, div-mul-add)

pub at_of_cell : (c : Config) (shape : FrameShape) (frame j b q : ℕ) → IsPlan c → IsCarried c shape frame j b q
    → (k : ℕ) × ((t : ℕ) × At c shape frame j b q k t)
at_of_cell c shape frame j b q is cell =
    let s = slices_of c shape j in
    let (z, inside, e) = carried_place c shape frame j b q is cell in
    let below : z < s.count * s.len = omega (arith, inside, cut_of c shape j is cell.there.configured) in
    let some : 0 < s.len = some_factor z s.count s.len below in
    let all : z / s.len * s.len + z % s.len ≡ z = div-add-mod' z s.len in
    let slice : z / s.len < s.count = div_below z s.len s.count some below in
    let inner : z % s.len < s.len = mod_below z s.len some in
    (z / s.len, (z % s.len, at_place c shape frame j b q (z / s.len) (z % s.len) slice inner (omega (arith, all, e))))

pub cell_of_at : (c : Config) (shape : FrameShape) (frame j k t : ℕ) → IsPlan c → j < length c.plps
    → k < (slices_of c shape j).count → t < (slices_of c shape j).len
    → (b : ℕ) × ((q : ℕ) × IsCarried c shape frame j b q × At c shape frame j b q k t)
cell_of_at c shape frame j k t is h hk ht =
    let n : ℕ = slice_index shape.counts j in
    let s = slices_of c shape j in
    let product : k * s.len + t < s.len * s.count = mul-add-lt k s.len t s.count hk ht in
    let inside : k * s.len + t < cells_of c shape.counts j = omega (arith, product, cut_of c shape j is h) in
    let at : ℕ = first_position c shape frame j + (k * s.len + t) in
    let below : at < n * block_cells c j = omega (arith, inside, part_inside c shape frame j is h) in
    let r = plan_row c j is h in
    let (b, (q, holds)) = placed (block_cells c j) (plp_at c.plps j).interleave n at r.some r.fifth below in
    let there : IsCell c shape j b q = record { configured = h; sent = holds.block; within = holds.cell } in (
      b,
      (
        q,
        is_carried_at c shape frame j b q (k * s.len + t) there inside holds.value,
        at_place c shape frame j b q k t hk ht holds.value,
      ),
    )

-- a PLP's cells by place are one
pub one_cell : (c : Config) (shape : FrameShape) (frame j b q d r k t : ℕ) → IsPlan c → IsCell c shape j b q
    → IsCell c shape j d r
    → At c shape frame j b q k t → At c shape frame j d r k t → (b ≡ d) × (q ≡ r)
one_cell c shape frame j b q d r k t is x y ax ay = grind (arith, position_one, plan_row)

-- each cell is carried in one frame of its interleaving frame
pub carried_once : CarriedOnce
carried_once c shape plp b q is there =
    let w : ℕ = cells_of c shape.counts plp in
    let p : ℕ = position_of c shape plp b q in
    let row = plan_row c plp is there.configured in
    let below : p < slice_index shape.counts plp * block_cells c plp =
    position_below (block_cells c plp) (plp_at c.plps plp).interleave (slice_index shape.counts plp)
    b q row.fifth there.sent
    there.within in
    let inside : p < spread c.plps plp * w = omega (arith, below, frames_of c shape plp is there.configured) in
    let some : 0 < w = some_factor p (spread c.plps plp) w inside in (
      p / w,
      div_below p w (spread c.plps plp) some inside,
      λ frame. (λ it. sym it.carried, λ e. record { there = there; carried = sym e }),
    )

-- the frames of a superframe are whole interleaving frames
repeats : (n frames parts : ℕ) → 0 < parts → frames % parts ≡ 0 → n % frames % parts ≡ n % parts
repeats n frames parts some whole =
    let r : ℕ = n % frames in
    let all : n / frames * frames + r ≡ n = div-add-mod' n frames in
    let even : frames / parts * parts + frames % parts ≡ frames = div-add-mod' frames parts in
    let rest : r / parts * parts + r % parts ≡ r = div-add-mod' r parts in
    let is : frames ≡ frames / parts * parts = omega (arith, even, whole) in
    let product : n / frames * frames ≡ n / frames * (frames / parts) * parts =
    ap (λ (k : ℕ). n / frames * k) is ∙ sym (mul_assoc (n / frames) (frames / parts) parts) in
    let both : (n / frames * (frames / parts) + r / parts) * parts
    ≡ n / frames * (frames / parts) * parts + r / parts * parts =
    add-mul (n / frames * (frames / parts)) (r / parts) parts in
    let sum : n ≡ (n / frames * (frames / parts) + r / parts) * parts + r % parts = omega
    (arith, all, rest, product, both) in
    sym (ap (λ (k : ℕ). k % parts) sum
    ∙ mod-mul-add (n / frames * (frames / parts) + r / parts) parts (r % parts) (mod_below r parts some))

pub parts_repeat : PartsRepeat
parts_repeat c frame plp is inside =
    let divides : (1 ≤ spread c.plps plp) × (c.frames % spread c.plps plp ≡ 0) = is.rules SpreadDivides plp inside in
    repeats frame c.frames (spread c.plps plp) divides.0 divides.1
