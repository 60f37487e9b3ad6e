use Rattle.compare_run.proofs.BeginLemmas.{shown_finished}
use Rattle.compare_run.proofs.machine.CompareMachine.finish.Goals as goal

pub returns-clause-shown : goal.returns-clause-shown
returns-clause-shown c = λ k events s.
    shown_finished c.events_law.ensures k c.args.self.now events _ s c.requires.told c.requires.going c.requires.none
    c.requires.busy.0 c.requires.busy.1 c.finish.ensures.text
