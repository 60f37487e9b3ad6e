use Rattle.std.proofs.Common.{refl, ◌∙◌}
use Rattle.modulate_run.proofs.MachineLemmas.{falls_short, shown_ended, ended_event}
use Rattle.modulate_run.proofs.machine.ModulatorMachineMachine.end_input.Goals as goal

pub returns-clause-becomes : goal.returns-clause-becomes
returns-clause-becomes c = λ start events came.
    let w = falls_short c.args.self.now.waiting c.args.self.now.ended _ _ c.requires.wanted in
    let f = c.finish.ensures in (
      f.config ∙ came.0,
      ended_event c.events_law.ensures _ events _ _ w.2 w.3
          (shown_ended c.due_records_law.ensures.front c.args.self.now _ _ _ _ w.0 w.1 f.config refl refl f.fed f.stands
          (c.waiting-self.ensures.some, c.waiting-self.ensures.none) came.1),
    )
