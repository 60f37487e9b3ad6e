use Rattle.std.proofs.Common.{◌≡◌, ◌∙◌, ◌+◌, false, get_or, ap, sym, arith}
use Rattle.std.specs.FinMap.{get}
use Rattle.cell_map.specs.CellMap.{cell_map}
use Rattle.cell_map.specs.Reading.{Reading, reading_at, next_address}
use Rattle.plp_receiver.proofs.SeenLemmas.{seen_more}
use Rattle.plp_receiver.proofs.standing.see_each.Goals as goal

pub loop-i-preserved : goal.loop-i-preserved
loop-i-preserved c =
    let inv = c.loop-i.invariant in
    let same = inv.len in
    let on : c.args.address + c.loop-i.i + 1 ≡ c.args.address + (c.loop-i.i + 1) = omega arith in
    record {
      expected = c.next_cell.ensures.next ∙ ap next_address inv.expected
          ∙ ap (reading_at c.args.plan.now c.args.shape.now c.args.frame_idx) on;
      len = c.see.ensures.len ∙ inv.len;
      each = λ k l.
          seen_more c.args.plan.now c.args.shape.now c.args.frame_idx c.args.cells.now (c.args.first + k) c.args.address
          c.loop-i.i
          (get_or c.args.stands.now k false) (get_or c.loop-i.stands k false)
          (get_or c.see.new.stands k false) c.next_cell.result c.in-Some.found (inv.each k l)
          (c.see.ensures.each k (omega (arith, l, same)))
          (c.next_cell.ensures.cell ∙ ap (λ (r : Reading). get (cell_map r.config r.shape r.frame_idx) r.address)
          inv.expected)
          (sym c.in-Some.ensures);
    }
