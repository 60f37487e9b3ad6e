use Rattle.open_group.proofs.LengthLemmas.{record_fits}
use Rattle.open_group.proofs.writer.Writer.begin_frame.Goals as goal

pub returns-clause-most : goal.returns-clause-most
returns-clause-most c = λ shape lists.
    record_fits c.args.plan.now shape _ lists c.put_front.new.out c.put_front.ensures.short
