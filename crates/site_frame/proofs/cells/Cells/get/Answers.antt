use Rattle.std.proofs.Common.{◌≡◌, ◌∙◌, sym, ap, List, Option, Some, ◌*◌, length, arith}
use Rattle.std.specs.Prelude.{slice_get}
use Rattle.std.proofs.lemmas.Option.{slice_get_past}
use Rattle.byteorder.specs.Endian.{big_number}
use Rattle.cell_map.specs.declared.places.Cell.{Cell}
use Rattle.site_frame.specs.Record.{cell_of}
use Rattle.site_frame.proofs.BlockLemmas.{length-cells_in, cell_at, rest_all}
use Rattle.site_frame.proofs.cells.Cells.get.Goals as goal

pub returns-then-address-self : goal.returns-then-address-self
returns-then-address-self c =
    let same : length c.args.self.now ≡ c.self.inside.count =
    ap (λ (cells : List (Option Cell)). length cells) (sym c.self.view_is)
    ∙ length-cells_in c.self.inside.count c.self.inside.bytes.now in
    sym (slice_get_past c.args.self.now c.args.address (omega (arith, same, c.if-address-self.true)))

pub returns : goal.returns
returns c =
    let here = cell_at c.self.inside.count c.args.address c.self.inside.bytes.now
    (omega (arith, c.if-address-self.false)) in
    let all = rest_all (4 * c.args.address) c.self.inside.bytes.now in
    ap Some (c.cell.ensures ∙ ap cell_of (c.read_u32-word.ensures ∙ ap (big_number 4) all))
    ∙ sym (ap (λ (cells : List (Option Cell)). slice_get cells c.args.address) (sym c.self.view_is) ∙ here)
