use Rattle.merge_run.proofs.ShownLemmas.{has_counted}
use Rattle.merge_run.proofs.machine.MergeMachine.go_on.Goals as goal

pub begin-requires-clause-came : goal.begin-requires-clause-came
begin-requires-clause-came c = has_counted c.args.self.now c.add.new.self c.requires.came
