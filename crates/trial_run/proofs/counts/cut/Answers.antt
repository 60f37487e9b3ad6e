use Rattle.trial_run.proofs.CutLemmas.{cut_next}
use Rattle.trial_run.proofs.counts.cut.Goals as goal

pub loop-rest-preserved : goal.loop-rest-preserved
loop-rest-preserved c =
    cut_next c.args.file.now c.loop-rest.rest.now _ c.loop-rest.pieces.items _ _ _ _ c.loop-rest.invariant
    c.in-Ok.ensures.ok
    c.in_ok-push.ensures.items c.is_frame-is_frame.ensures c.split_at.ensures.front c.split_at.ensures.back
