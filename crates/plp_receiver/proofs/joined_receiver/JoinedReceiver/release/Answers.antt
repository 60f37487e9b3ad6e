use Rattle.plp_receiver.specs.JointStandsFor.{JoinedReceiverStandsFor, due_of}
use Rattle.plp_receiver.proofs.DueLemmas.{of_plan}
use Rattle.plp_receiver.proofs.ReleaseLemmas.{stands_on, answer_is}
use Rattle.plp_receiver.proofs.joined_receiver.JoinedReceiver.release.Goals as goal

pub returns-clause-stands : goal.returns-clause-stands
unfolding JoinedReceiverStandsFor due_of
returns-clause-stands c = λ first views released s.
    let m = c.args.self.now in
    let p = of_plan c.groups_law.ensures.step c.join_law.ensures.slots m.own m.common m.plan.now m.network
    c.rules_law.ensures.plan.rules m.inside m.step c.due_law.ensures c.common_due_law.ensures in
    stands_on m.own c.give_packet.new.receiver m.common c.join_common.new.common _ _ p c.requires c.give_packet.ensures
    c.join_common.ensures first views released s.0 s.1

pub returns-clause-answer : goal.returns-clause-answer
unfolding JoinedReceiverStandsFor due_of
returns-clause-answer c = λ first views released packets s back.
    let m = c.args.self.now in
    let p = of_plan c.groups_law.ensures.step c.join_law.ensures.slots m.own m.common m.plan.now m.network
    c.rules_law.ensures.plan.rules m.inside m.step c.due_law.ensures c.common_due_law.ensures in
    answer_is m.own c.give_packet.new.receiver m.common c.join_common.new.common _ _ p c.requires c.give_packet.ensures
    c.join_common.ensures first views released packets s.0 s.1 back
