use Rattle.record_laws.proofs.StandLemmas.{block_stands, ordinal_counts, cell_stands}
use Rattle.record_laws.proofs.laws.stand_law.Goals as goal

pub returns-clause-block : goal.returns-clause-block
returns-clause-block c = block_stands

pub returns-clause-ordinal : goal.returns-clause-ordinal
returns-clause-ordinal c = ordinal_counts c.order_law.ensures.counts

pub returns-clause-cell : goal.returns-clause-cell
returns-clause-cell c =
    cell_stands c.length_law.ensures.slot c.block_law.ensures.field c.count_law.ensures c.shape_law.ensures
    c.map_law.ensures.each
