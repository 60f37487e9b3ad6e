use Rattle.std.proofs.Common.{refl, sym, ◌∙◌, arith}
use Rattle.file_run.specs.Events.{gave}
use Rattle.mended_frames.specs.Mended.{frames_of}
use Rattle.mend_run.specs.declared.phase.Phase.TheVariants as phase
use Rattle.mend_run.specs.Shown.{AllEnded}
use Rattle.mend_run.proofs.RowLemmas.{get_at, known_at}
use Rattle.mend_run.proofs.ShownLemmas.{at_place, stands_by, shown_finished}
use Rattle.mend_run.proofs.StepLemmas.{none_next, all_known}
use Rattle.mend_run.proofs.machine.MendMachine.finish.Goals as goal

pub returns-clause-shown : goal.returns-clause-shown
returns-clause-shown c = λ k count done came over.
    let m = c.args.self.now in
    let s = at_place k count done m phase.Looks c.requires.looks came in
    let ended : AllEnded count done = λ i l.
    let n = s.come.count in
    let f = get_at m.feeds.items i (omega (arith, l, n)) in
    sym (s.come.each i f.0 f.1).end ∙ (f.0.over (sym (known_at m.feeds.items i f.0 f.1) ∙ over i l)).2 in
    shown_finished k count done m _ s refl refl refl refl ended
    (stands_by k _ m.sender _ s.is_at.content (frames_of k s.made) (gave done) (gave done) (m.sends ∙ s.plan)
    (c.finish.ensures.stands s.is_at.content (frames_of k s.made) (gave done)) s.is_at.stands)
    (λ xs ys all. none_next k count m.feeds.items done s.gone s.come (all_known m.feeds.items count over s.come.count)
    s.past xs ys all over)
