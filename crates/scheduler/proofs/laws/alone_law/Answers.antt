use Rattle.std.proofs.Common.{◌≡◌, ℕ, ◌*◌, ◌/◌, ap, ◌∙◌, arith}
use Rattle.std.specs.Prelude.{slice_index}
use Rattle.plp_config.specs.Capacity.{block_cells}
use Rattle.scheduler.proofs.laws.alone_law.Goals as goal

pub returns : goal.returns
returns _ = λ c counts plp alone.
    let cells : ℕ = slice_index counts plp * block_cells c plp in
    let one : cells / 1 ≡ cells = omega arith in
    ap (λ (s : ℕ). cells / s) alone ∙ one
