use Rattle.mode_adapt.proofs.FitsLemmas.{early_fits, blocks_fit}
use Rattle.mode_adapt.proofs.laws.early_fits_law.Goals as goal

pub returns-clause-early : goal.returns-clause-early
returns-clause-early c = early_fits c.bit_counts_law.ensures c.block_law.ensures.field

pub returns-clause-blocks : goal.returns-clause-blocks
returns-clause-blocks c = blocks_fit c.bit_counts_law.ensures c.block_law.ensures.field c.length_law.ensures.slot
