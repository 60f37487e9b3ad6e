use Rattle.plp_config.proofs.SpreadLemmas.{spread_divides, spread_greatest, cells_in_parts, rooms_fit, blocks_fit}
use Rattle.plp_config.proofs.laws.spread_law.Goals as goal

pub returns-clause-frames : goal.returns-clause-frames
returns-clause-frames c = spread_divides

pub returns-clause-greatest : goal.returns-clause-greatest
returns-clause-greatest c = spread_greatest

pub returns-clause-parts : goal.returns-clause-parts
returns-clause-parts c = cells_in_parts

pub returns-clause-room : goal.returns-clause-room
returns-clause-room c = rooms_fit

pub returns-clause-blocks : goal.returns-clause-blocks
returns-clause-blocks c = blocks_fit
