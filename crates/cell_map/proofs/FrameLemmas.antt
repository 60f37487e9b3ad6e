-- The facts of `ShareLemmas`, of what the code computed.
use Rattle.std.proofs.Common.{◌≡◌, ℕ, ◌+◌, ◌-◌, ◌*◌, ◌/◌, ◌%◌, ◌<◌, ◌≤◌, List, length, take, sum, ap, sym, ◌∙◌}
use Rattle.std.proofs.Common.{arith}
use Rattle.std.specs.Prelude.{slice_index}
use Rattle.std.proofs.lemmas.List.Sums.{sum_by_more}
use Rattle.plp_config.specs.Capacity.{IsPlan, block_cells}
use Rattle.plp_config.specs.Plps.{plp_at, spread}
use Rattle.plp_config.specs.declared.config.Config.{Config}
use Rattle.scheduler.specs.Shape.{FrameShape}
use Rattle.cell_map.specs.Slices.{IsRow, slice_count, slices_of}
use Rattle.cell_map.specs.declared.rows.PlpInFrame.{PlpInFrame}
use Rattle.cell_map.specs.Address.{IsCarried, position_of, first_position, address_of}
use Rattle.cell_map.specs.CellMap.{Shares, Passes}
use Rattle.cell_map.proofs.PlanLemmas.{plan_row}
use Rattle.cell_map.proofs.AtLemmas.{at_of_cell}
use Rattle.cell_map.proofs.MeetingLemmas.{parts_of}

-- a row from its four numbers
pub row_is : (c : Config) (plp cells blocks interleave slices wide : ℕ) → IsPlan c → plp < length c.plps
    → cells ≡ block_cells c plp → blocks ≡ (plp_at c.plps plp).blocks → interleave ≡ (plp_at c.plps plp).interleave
    → slices ≡ slice_count c plp → wide ≡ spread c.plps plp
    → IsRow c plp (record { cells = cells; blocks = blocks; interleave = interleave; slices = slices; spread = wide })
row_is c plp cells blocks interleave slices wide is h e f g k m = grind (arith, plan_row)

-- the address of a cell by its place among those of its PLP in the frame
pub record AddressIs (c : Config) (shape : FrameShape) (frame plp block cell place : ℕ) : Type 0 where
  pub some : 0 < (slices_of c shape plp).len
  pub value : (slices_of c shape plp).start + place / (slices_of c shape plp).len * shape.interval
      + place % (slices_of c shape plp).len ≡ address_of c shape frame plp block cell
  pub single : slice_count c plp ≡ 1 → (slices_of c shape plp).start + place ≡ address_of c shape frame plp block cell

pub address_is : (c : Config) (shape : FrameShape) (frame plp block cell : ℕ) → IsPlan c
    → IsCarried c shape frame plp block cell
    → AddressIs c shape frame plp block cell (position_of c shape plp block cell - first_position c shape frame plp)
address_is c shape frame plp block cell is there =
    let (k, (t, x)) = at_of_cell c shape frame plp block cell is there in
    let s = slices_of c shape plp in
    let z : ℕ = position_of c shape plp block cell - first_position c shape frame plp in
    let here : k * s.len + t ≡ z = omega (arith, x.place) in
    let parts = parts_of s.len k t z x.inner here in
    record {
      some = omega (arith, x.inner);
      value = rw (parts.0, parts.1) (sym x.address);
      single = λ one.
          let first : k ≡ 0 = omega (arith, x.slice, one) in
          let place : z ≡ 0 * s.len + t = sym here ∙ ap (λ (n : ℕ). n * s.len + t) first in
          let address : address_of c shape frame plp block cell ≡ s.start + 0 * shape.interval + t =
          x.address ∙ ap (λ (n : ℕ). s.start + n * shape.interval + t) first in
          omega (arith, place, address);
    }

pub not_shared : (c : Config) (shape : FrameShape) (i j : ℕ) → Passes c shape → ¬ (Shares c shape i j)
not_shared c shape i j passes s = s.apart
    (passes.apart s.frame_idx i s.block s.cell j s.other_block s.other_cell s.one s.other s.same)

-- the address that the code computes
pub record Computes (c : Config) (shape : FrameShape) (frame plp block cell start place interval len : ℕ) : Type 0 where
  pub some : 0 < len
  pub value : start + place / len * interval + place % len ≡ address_of c shape frame plp block cell
  pub below : start + place / len * interval + place % len < c.cells

-- a PLP in a frame, as the code has it
pub record IsInFrame (c : Config) (shape : FrameShape) (plp : ℕ) (it : PlpInFrame) : Type 0 where
  pub row : IsRow c plp it.row
  pub count : it.count ≡ slice_index shape.counts plp
  pub slices : it.slices ≡ slices_of c shape plp

pub computes : (c : Config) (shape : FrameShape) (frame plp block cell : ℕ) (it : PlpInFrame) (start place interval : ℕ)
    → IsPlan c → Passes c shape → IsCarried c shape frame plp block cell → IsInFrame c shape plp it
    → start ≡ slice_index shape.starts plp → place ≡ position_of c shape plp block cell - first_position
    c shape frame plp
    → interval ≡ shape.interval
    → Computes c shape frame plp block cell start place interval it.slices.len
computes c shape frame plp block cell it start place interval is passes there in_frame e f g =
    let a = address_is c shape frame plp block cell is there in
    let below = passes.below frame plp block cell there in
    rw (e, f, g, in_frame.slices) (record { some = a.some; value = a.value; below = rw (sym a.value) at below })

pub computes_single : (c : Config) (shape : FrameShape) (frame plp block cell : ℕ) (it : PlpInFrame) (start place : ℕ)
    → IsPlan c → Passes c shape → IsCarried c shape frame plp block cell → IsInFrame c shape plp it
    → start ≡ slice_index shape.starts plp → place ≡ position_of c shape plp block cell - first_position
    c shape frame plp
    → it.row.slices ≡ 1
    → (start + place ≡ address_of c shape frame plp block cell) × (start + place < c.cells)
computes_single c shape frame plp block cell it start place is passes there in_frame e f one =
    grind (arith, address_is)

-- one PLP more: its blocks are counted
pub counted : (counts : List ℕ) (plp before count : ℕ) → plp < length counts → before ≡ sum (take plp counts)
    → count ≡ slice_index counts plp
    → before + count ≡ sum (take (plp + 1) counts)
counted counts plp before count inside e f = omega (arith, e, f, sum_by_more (λ (x : ℕ). x) counts plp 0 inside)

-- a PLP has few blocks if a shape passes
pub few_blocks : (c : Config) (shape : FrameShape) (plp : ℕ) → IsPlan c → Passes c shape → plp < length c.plps
    → slice_index shape.counts plp ≤ 1023
few_blocks c shape plp is passes h = omega (arith, passes.counts plp h, (plan_row c plp is h).few)
