use Rattle.std.proofs.Common.{◌≡◌, ◌∙◌, ℕ, sym, ap, List, Option, length, arith}
use Rattle.cell_map.specs.declared.places.Cell.{Cell}
use Rattle.site_frame.specs.Reading.{cells_in}
use Rattle.site_frame.proofs.BlockLemmas.{length-cells_in}
use Rattle.site_frame.proofs.cells.Cells.words.Goals as goal

pub returns : goal.returns
returns c =
    let same : c.self.inside.count ≡ length c.args.self.now =
    sym (length-cells_in c.self.inside.count c.self.inside.bytes.now)
    ∙ ap (λ (cells : List (Option Cell)). length cells) c.self.view_is in
    record {
      len = omega (arith, same, c.self.invariant);
      cells = sym c.self.view_is ∙ ap (λ (n : ℕ). cells_in n c.self.inside.bytes.now) same;
    }
