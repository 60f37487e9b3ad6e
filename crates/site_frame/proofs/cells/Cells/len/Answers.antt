use Rattle.std.proofs.Common.{◌∙◌, sym, ap, List, Option, length}
use Rattle.cell_map.specs.declared.places.Cell.{Cell}
use Rattle.site_frame.proofs.BlockLemmas.{length-cells_in}
use Rattle.site_frame.proofs.cells.Cells.len.Goals as goal

pub returns : goal.returns
returns c = sym (length-cells_in c.self.inside.count c.self.inside.bytes.now)
    ∙ ap (λ (cells : List (Option Cell)). length cells) c.self.view_is
