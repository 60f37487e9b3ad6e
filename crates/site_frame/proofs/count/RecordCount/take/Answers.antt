use Rattle.site_frame.proofs.CountLemmas.{goes_on}
use Rattle.site_frame.proofs.count.RecordCount.take.Goals as goal
use Rattle.site_frame.proofs.count.RecordCount.take.Goals.{then-self-gt0, else-self-gt0}

pub loop-at-preserved : goal.loop-at-preserved
loop-at-preserved c =
    elim c.if-self-gt0.branch [
      | then-self-gt0 w ↦ λ came s.
          rw (w.self-is, w.at-is) (goes_on _ c.args.bytes.now came c.loop-at.at _
          (w.pass.ensures.counts _ (c.loop-at.invariant came s)))
      | else-self-gt0 w ↦ λ came s.
          rw (w.self-is, w.at-is) (goes_on _ c.args.bytes.now came c.loop-at.at _
          (w.step.ensures.counts _ (c.loop-at.invariant came s)))
    ]
