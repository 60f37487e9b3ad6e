use Rattle.bb_frame.proofs.CountLemmas.{bit_counts}
use Rattle.bb_frame.proofs.laws.bit_counts_law.Goals as goal

pub returns : goal.returns
returns c = bit_counts
