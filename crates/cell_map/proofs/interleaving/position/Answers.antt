use Rattle.std.proofs.Common.{arith}
use Rattle.cell_map.proofs.PositionLemmas.{below_in}
use Rattle.cell_map.proofs.interleaving.position.Goals as goal

pub returns-clause-inside : goal.returns-clause-inside
returns-clause-inside c = below_in c.args.cells c.args.length c.args.blocks c.args.block c.args.cell
    c.ti_block_of-own.result
    (omega arith) c.ti_block_of-own.ensures.value c.requires.fifth c.requires.block c.requires.cell
