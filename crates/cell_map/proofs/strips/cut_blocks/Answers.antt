use Rattle.std.proofs.Common.{arith}
use Rattle.cell_map.proofs.StripLemmas.{blocks_cut}
use Rattle.cell_map.proofs.strips.cut_blocks.Goals as goal

pub returns : goal.returns
returns c =
    let block = c.requires.inside.block in
    blocks_cut c.args.run c.at_block.result c.args.whole c.min-blocks.result c.cell_of.result c.requires.inside
    c.requires.column
    c.requires.whole.0 c.requires.whole.1
    (omega (arith, c.min-blocks.ensures)) (omega (arith, c.min-blocks.ensures))
    (omega (arith, c.min-blocks.ensures, block, c.requires.whole.0)) c.at_block.ensures c.cell_of.ensures.ordinal
    c.cell_of.ensures.cell
