use Rattle.merge_run.specs.Shown.{HasShown}
use Rattle.merge_run.proofs.BeginLemmas.{shown_finished}
use Rattle.merge_run.proofs.ShownLemmas.{reading}
use Rattle.feed_merge.proofs.BothCameLemmas.{test_of}
use Rattle.merge_run.proofs.machine.MergeMachine.finish.Goals as goal

pub returns-clause-shown : goal.returns-clause-shown
returns-clause-shown c = λ k events s.
    let f = c.finish.ensures in
    shown_finished k c.args.self.now c.finish.new.self events s c.requires.reads c.requires.none c.requires.busy.0
    c.requires.busy.1
    f.stands f.config f.finished f.fed f.left

pub finish-requires : goal.finish-requires
finish-requires c = record {
  given = test_of _ _ c.requires.came
      (λ (h : HasShown c.args.self.now). (reading h.network c.args.self.now h.events h.shown c.requires.reads).idle);
  «open» = test_of _ _ c.requires.came
      (λ (h : HasShown c.args.self.now). (reading h.network c.args.self.now h.events h.shown
      c.requires.reads).is_open);
}
