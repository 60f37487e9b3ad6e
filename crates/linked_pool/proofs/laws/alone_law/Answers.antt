use Rattle.std.proofs.Common.{◌≡◌, ℕ, ◌*◌, ◌/◌, ap, ◌∙◌, arith}
use Rattle.linked_pool.specs.Fits.{spread_cells}
use Rattle.linked_pool.specs.declared.chunk.TheConstants.{CHUNKS_OF_CELLS, FEWEST_CELLS}
use Rattle.linked_pool.proofs.laws.alone_law.Goals as goal

pub returns : goal.returns
returns g = λ c rules alone.
    let one : 1 * c.cells ≡ c.cells = omega arith in
    let cells : spread_cells c ≡ c.cells =
    ap (λ (s : ℕ). s * c.cells) (g.alone_law.ensures c rules alone).spread ∙ one in (
      ap (λ (n : ℕ). CHUNKS_OF_CELLS * (n / FEWEST_CELLS)) cells,
      ap (λ (n : ℕ). CHUNKS_OF_CELLS * n / FEWEST_CELLS) cells,
    )
