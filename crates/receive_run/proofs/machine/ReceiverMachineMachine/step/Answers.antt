use Rattle.std.proofs.Common.{◌≡◌, ◌<◌, rules, arith}
use Rattle.receive_run.proofs.WantedLemmas.{can_be_read}
use Rattle.plp_receiver.specs.JointStandsFor.{due_of}
use Rattle.receive_run.proofs.machine.ReceiverMachineMachine.step.Goals as goal

pub returns-clause-wanted : goal.returns-clause-wanted
returns-clause-wanted c = λ start events came.
    let due = c.due.ensures.value in
    let idle : due_of c.args.self.now.receiver ≡ 0 = search (rules, arith) in
    let some : 0 < c.lacks-lacks.result = search (rules, arith) in
    can_be_read c.stands_law.ensures.takes start c.args.self.now events c.lacks-lacks.result came idle
    c.lacks-lacks.ensures some
