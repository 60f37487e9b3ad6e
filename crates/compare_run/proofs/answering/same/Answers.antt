use Rattle.compare_run.proofs.BlockLemmas.{bits_told}
use Rattle.compare_run.proofs.answering.same.Goals as goal

pub returns : goal.returns
returns c = bits_told c.same_bits.result c.args.a.now c.args.b.now c.same_bits.ensures
