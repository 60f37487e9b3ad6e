use Rattle.std.proofs.Common.{arith}
use Rattle.cell_map.proofs.PositionLemmas.{holds_at, only_at}
use Rattle.cell_map.proofs.interleaving.place_at.Goals as goal

pub returns-clause-cell : goal.returns-clause-cell
returns-clause-cell c =
    (holds_at c.args.cells c.args.length c.args.blocks c.args.at c.ti_block_of-ti_block.result
    (omega arith) c.ti_block_of-ti_block.ensures.value c.requires.fifth c.requires.inside).cell

pub returns-clause-value : goal.returns-clause-value
returns-clause-value c =
    (holds_at c.args.cells c.args.length c.args.blocks c.args.at c.ti_block_of-ti_block.result
    (omega arith) c.ti_block_of-ti_block.ensures.value c.requires.fifth c.requires.inside).value

pub returns-clause-only : goal.returns-clause-only
returns-clause-only c = only_at c.args.cells c.args.length c.args.blocks c.args.at c.ti_block_of-ti_block.result
    (omega arith) c.ti_block_of-ti_block.ensures.value c.requires.fifth
