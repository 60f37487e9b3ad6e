use Rattle.std.proofs.Common.{refl, ◌∙◌}
use Rattle.modulate_run.proofs.MachineLemmas.{suffices, shown_fed, fed_event}
use Rattle.modulate_run.proofs.machine.ModulatorMachineMachine.feed.Goals as goal

pub returns-clause-becomes : goal.returns-clause-becomes
returns-clause-becomes c = λ start events came.
    let w = suffices c.args.self.now.waiting c.args.self.now.ended _ _ c.requires.wanted in
    let f = c.feed-count.ensures in (
      f.config ∙ came.0,
      fed_event c.events_law.ensures _ events _ _ w.2
          (shown_fed c.due_records_law.ensures.front c.args.self.now _ _ _ c.args.bytes.now c.feed-count.result
          _ w.0 w.1 f.config
          refl refl f.fed f.inside f.stands f.first (c.waiting-self.ensures.some, c.waiting-self.ensures.none) came.1),
    )
