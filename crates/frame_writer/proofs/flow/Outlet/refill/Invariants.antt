use Rattle.std.proofs.Common.{◌≡◌, false, length}
use Rattle.t2mi_stream.specs.PiperStandsFor.{is_finished}
use Rattle.frame_writer.specs.Flowing.{Feeds}
use Rattle.frame_writer.proofs.flow.Outlet.refill.Given as goal

abbrev pub invariant-loop-self : goal.invariant-loop-self
invariant-loop-self g l = record {
  is_open : is_finished l.self.piper ≡ false;
  of : g.S.FrameSource.IsFor l.source l.frame l.plan;
  number : g.S.FrameSource.number l.source ≡ g.S.FrameSource.number l.fn.source;
  kept : g.S.FrameSource.kept l.source l.plan ≡ g.S.FrameSource.kept l.fn.source l.plan;
  feeds : Feeds l.plan l.fn.self l.self (g.S.FrameSource.number l.fn.source)
      (g.S.FrameSource.left l.fn.source l.frame l.plan)
      (g.S.FrameSource.left l.source l.frame l.plan);
}

abbrev pub decreases-loop-self : goal.decreases-loop-self
decreases-loop-self g l = length (g.S.FrameSource.left l.source l.frame l.plan)
