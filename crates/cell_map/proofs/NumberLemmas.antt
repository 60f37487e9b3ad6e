-- The numbers of cells are small: a record holds the blocks of all PLPs, each of 879 bytes at least.
use Rattle.std.proofs.Common.{◌≡◌, ℕ, zero, suc, ◌+◌, ◌*◌, ◌<◌, ◌≤◌, List, [], ◌∷◌, length, take, sum, sum_by}
use Rattle.std.proofs.Common.{arith}
use Rattle.std.specs.Int.{div_ceil}
use Rattle.std.specs.Prelude.{slice_index}
use Rattle.std.proofs.Math.Nat.{mul-le-mul}
use Rattle.std.proofs.lemmas.List.Sums.{sum_by-cons}
use Rattle.plp_config.proofs.TableLemmas.{block_table}
use Rattle.plp_config.specs.Capacity.{RecordLength, block_room, longest_rest}
use Rattle.plp_config.specs.Plps.{plp_at}
use Rattle.plp_config.specs.declared.config.TheConstants.{GREATEST_REST}
use Rattle.plp_config.specs.declared.plp.Plp.{Plp}
use Rattle.cell_map.specs.Laws.{CellsFit}
use Rattle.cell_map.proofs.MapLemmas.{map_has_only}
use Rattle.cell_map.proofs.PlanLemmas.{block_cells-five}

-- so many blocks of a PLP have no more bytes than it may have
room_for : (blocks : ℕ) (plp : Plp) → blocks ≤ plp.blocks → 883 * blocks ≤ block_room plp
room_for blocks plp few = grind (arith, block_table, mul-le-mul)

-- nor have the blocks of the PLPs up to a place
room_for_all : (counts : List ℕ) (plps : List Plp) (plp : ℕ)
    → ((i : ℕ) → i < length plps → slice_index counts i ≤ (plp_at plps i).blocks) → plp < length plps
    → 883 * (sum (take plp counts) + slice_index counts plp) ≤ sum_by block_room plps
room_for_all [] plps zero within inside = omega arith
room_for_all [] plps (suc plp) within inside = omega arith
room_for_all (count ∷ counts) [] plp within inside = absurd (omega (arith, inside))
room_for_all (count ∷ counts) (p ∷ plps) zero within inside =
    let here : 883 * count ≤ block_room p = room_for count p (within 0 (omega arith)) in
    omega (arith, here, sum_by-cons block_room p plps)
room_for_all (count ∷ counts) (p ∷ plps) (suc plp) within inside =
    let here : 883 * count ≤ block_room p = room_for count p (within 0 (omega arith)) in
    let others = room_for_all counts plps plp (λ i less. within (suc i) (omega (arith, less)))
    (omega (arith, inside)) in
    let first : sum (count ∷ take plp counts) ≡ count + sum (take plp counts) = sum_by-cons (λ n. n)
    count (take plp counts) in
    omega (arith, here, others, first, sum_by-cons block_room p plps)

pub cells_fit : CellsFit
unfolding longest_rest
cells_fit c shape frame address found is passes there =
    let s = map_has_only c shape frame address found there in
    let blocks = room_for_all shape.counts c.plps s.plp passes.counts s.there.there.configured in
    let rest : 35 + div_ceil (213 + 137 * length c.plps) 8 + 4 * c.cells + sum_by block_room c.plps ≤ GREATEST_REST =
    is.tests RecordLength in
    let five = block_cells-five c s.plp in
    (omega (arith, s.ordinal, s.there.there.sent, blocks, rest), omega (arith, s.there.there.within, five.2))
