use Rattle.bit_slice.proofs.RemainderLemmas.{remainder_is_unique}
use Rattle.bit_slice.proofs.laws.remainder_law.Goals as goal

pub returns : goal.returns
returns c = remainder_is_unique
