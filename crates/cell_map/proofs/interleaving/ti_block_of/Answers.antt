use Rattle.cell_map.proofs.TiBlockLemmas.{early, late}
use Rattle.cell_map.proofs.interleaving.ti_block_of.Goals as goal

pub returns-then-block-low-clause-value : goal.returns-then-block-low-clause-value
returns-then-block-low-clause-value c = early c.args.blocks c.args.length c.args.block c.requires.some
    c.if-block-low.true

pub returns-else-block-low-clause-value : goal.returns-else-block-low-clause-value
returns-else-block-low-clause-value c =
    (late c.args.blocks c.args.length c.args.block c.requires.some c.requires.inside c.if-block-low.false).value

pub returns-else-block-low-clause-whole : goal.returns-else-block-low-clause-whole
returns-else-block-low-clause-whole c =
    (late c.args.blocks c.args.length c.args.block c.requires.some c.requires.inside c.if-block-low.false).whole
