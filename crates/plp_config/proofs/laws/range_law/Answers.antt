use Rattle.plp_config.proofs.TimeLemmas.{ranges_partition, range_bounds}
use Rattle.plp_config.proofs.laws.range_law.Goals as goal

pub returns-clause-partition : goal.returns-clause-partition
returns-clause-partition c = ranges_partition

pub returns-clause-bounds : goal.returns-clause-bounds
returns-clause-bounds c = range_bounds
