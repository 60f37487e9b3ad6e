use Rattle.open_group.proofs.LengthLemmas.{muted_fits}
use Rattle.open_group.proofs.writer.Writer.begin_muted.Goals as goal

pub returns-clause-most : goal.returns-clause-most
returns-clause-most c = λ config shape lists. muted_fits c.put_muted.new.out c.put_muted.ensures.short
