use Rattle.std.proofs.Common.{refl}
use Rattle.std.proofs.lemmas.List.{take_at}
use Rattle.ts_packet.specs.declared.sizes.TheConstants.{SIZE}
use Rattle.plp_receiver.specs.JointStandsFor.{network_of, plp_of, joins_of, due_of}
use Rattle.site_frame.specs.FeedStandsFor.{came_of, left_of, lacks_of}
use Rattle.receive_run.proofs.FewLemmas.{few_joined}
use Rattle.receive_run.proofs.StepLemmas.{known_plan, known_inside}
use Rattle.receive_run.proofs.GivenLemmas.{gave_event}
use Rattle.receive_run.proofs.WantedLemmas.{some_due, near_given}
use Rattle.receive_run.proofs.machine.ReceiverMachineMachine.give.Goals as goal

pub give_packet-requires : goal.give_packet-requires
give_packet-requires c = let m = c.args.self.now in some_due (due_of m.receiver) m.misplaced (lacks_of m.feed)
    c.requires.gives

pub returns-clause-becomes : goal.returns-clause-becomes
returns-clause-becomes c = λ start events came.
    let m = c.args.self.now in
    gave_event c.events_law.ensures start m _ events _ c.give_packet.new.packet
    (some_due (due_of m.receiver) m.misplaced (lacks_of m.feed) c.requires.gives)
    (take_at c.give_packet.new.packet _ SIZE c.give_packet.ensures.whole) c.give_packet.ensures.gives
    c.saturating_add-self.ensures refl refl refl
    (λ first views packets a back. few_joined c.join_law.ensures.slots c.times_law.ensures.frame
    c.times_law.ensures.slot
    (joins_of m.receiver) (network_of m.receiver) (plp_of m.receiver) first views packets
    (known_plan m c.rules_law.ensures.plan).rules (known_inside m) a.small back) came

pub returns-clause-reach : goal.returns-clause-reach
returns-clause-reach c = λ other.
    let m = c.args.self.now in
    near_given (came_of m.feed) (due_of m.receiver) (due_of c.give_packet.new.receiver) (left_of m.feed)
    (some_due (due_of m.receiver) m.misplaced (lacks_of m.feed) c.requires.gives)
