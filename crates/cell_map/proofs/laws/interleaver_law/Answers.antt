use Rattle.cell_map.proofs.PositionLemmas.{fills_once}
use Rattle.cell_map.proofs.laws.interleaver_law.Goals as goal

pub returns : goal.returns
returns c = fills_once
