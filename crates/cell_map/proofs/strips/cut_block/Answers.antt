use Rattle.std.proofs.Common.{arith}
use Rattle.cell_map.proofs.StripLemmas.{part_cut, end_cut}
use Rattle.cell_map.proofs.strips.cut_block.Goals as goal

pub returns-then-column-run : goal.returns-then-column-run
returns-then-column-run c =
    let column = c.requires.inside.column in
    end_cut c.args.run c.at_block.result c.args.limit c.min-columns.result c.cell_of.result c.requires.inside
    c.requires.limit.0
    c.requires.limit.1
    (omega (arith, c.min-columns.ensures)) (omega (arith, c.min-columns.ensures))
    (omega (arith, c.min-columns.ensures, column, c.requires.limit.0)) c.if-column-run.true c.at_block.ensures
    c.cell_of.ensures.ordinal c.cell_of.ensures.cell

pub returns : goal.returns
returns c =
    let column = c.requires.inside.column in
    part_cut c.args.run c.args.limit c.min-columns.result c.cell_of.result c.requires.inside c.requires.limit.0
    c.requires.limit.1
    (omega (arith, c.min-columns.ensures)) (omega (arith, c.min-columns.ensures))
    (omega (arith, c.min-columns.ensures, column, c.requires.limit.0))
    (omega (arith, c.min-columns.ensures, column, c.if-column-run.false))
    c.cell_of.ensures.ordinal c.cell_of.ensures.cell
