use Rattle.std.proofs.Common.{length}
use Rattle.mend_run.proofs.WantLemmas.{wanted}
use Rattle.mend_run.proofs.machine.MendMachineMachine.step.Goals as goal

pub returns-in-Looks-clause-wanted : goal.returns-in-Looks-clause-wanted
returns-in-Looks-clause-wanted c = λ start events s.
    let m = c.args.self.now in
    rw (c.next_step.ensures, c.deref.ensures.value)
    (wanted start.plan.now (length start.feeds.items) m events s.gone s.come)
