use Rattle.bit_slice.proofs.SinkLemmas.{puts_on}
use Rattle.bit_slice.proofs.laws.puts_law.Goals as goal

pub returns : goal.returns
returns c = puts_on
