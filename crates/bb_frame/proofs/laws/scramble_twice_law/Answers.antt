use Rattle.bb_frame.proofs.ScrambleLemmas.{scrambles_back}
use Rattle.bb_frame.proofs.laws.scramble_twice_law.Goals as goal

pub returns : goal.returns
returns c = scrambles_back
