use Rattle.cell_map.proofs.AloneLemmas.{map_alone}
use Rattle.cell_map.proofs.laws.alone_law.Goals as goal

pub returns : goal.returns
returns c = map_alone c.block_law.ensures.cells
