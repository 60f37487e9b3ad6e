use Rattle.std.proofs.Common.{arith}
use Rattle.cell_map.proofs.RunLemmas.{interleaved_is, lies_within}
use Rattle.cell_map.proofs.runs.interleaved_run.Goals as goal

pub returns : goal.returns
returns c = interleaved_is c.args.cells c.args.length c.args.blocks c.args.before c.args.at c.args.limit c.min.result
    c.ti_block_of-ti_block.result c.requires.length c.requires.fifth c.requires.inside c.requires.small c.requires.short
    c.requires.before c.requires.some c.ti_block_of-ti_block.ensures.value c.min.ensures

pub overflow_sub-ti_block : goal.overflow_sub-ti_block
overflow_sub-ti_block c =
    let within = lies_within c.args.cells c.args.length c.args.blocks c.args.at c.ti_block_of-ti_block.result
    c.requires.length
    c.requires.inside c.ti_block_of-ti_block.ensures.before c.ti_block_of-ti_block.ensures.behind in
    omega (arith, within)
