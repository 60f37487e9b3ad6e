use Rattle.std.proofs.Common.{refl}
use Rattle.receive_run.proofs.FedLemmas.{ended}
use Rattle.receive_run.proofs.WantedLemmas.{short}
use Rattle.receive_run.proofs.machine.ReceiverMachineMachine.end_input.Goals as goal

pub finish-requires : goal.finish-requires
finish-requires c = record { wants = (short c.args.self.now _ _ c.requires.wanted).0.some }

pub invariant_of-self : goal.invariant_of-self
invariant_of-self c = let m = c.args.self.now in
    record { network = m.network; place = m.place; inside = m.inside; room = c.finish.ensures.room m.room }

pub returns-clause-becomes : goal.returns-clause-becomes
returns-clause-becomes c = λ start events came.
    ended c.events_law.ensures start c.args.self.now _ events c.args._input c.args._bytes.now c.requires.wanted
    (record { receiver = refl; first = refl; slots = refl }) refl c.finish.ensures.whole c.finish.ensures.stands came
