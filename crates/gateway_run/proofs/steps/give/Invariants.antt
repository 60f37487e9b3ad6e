use Rattle.std.proofs.Common.{◌≡◌, ◌<◌, ◌≤◌, ◌-◌, ◌++◌, ◌∷◌, List, [], length, take}
use Rattle.file_run.specs.Events.{Event, Gave}
use Rattle.gateway_run.specs.Holds.{Holds}
use Rattle.gateway_run.specs.Phases.{IsGiving, frame_read, left_by}
use Rattle.gateway_run.specs.Ready.{IsReady}
use Rattle.gateway_run.proofs.steps.give.Given as goal

abbrev pub invariant-loop-out : goal.invariant-loop-out
invariant-loop-out g l = record {
  inside : l.len ≤ length l.out;
  size : length l.out ≡ length l.initial.out;
  ready : IsReady g.G.FrameGateway.sharing l.plan (g.G.FrameGateway.seen l.gateway l.plan)
      (g.G.FrameGateway.status l.gateway) l.place l.ran;
  gives : IsGiving l.place.phase;
  left : left_by (g.G.FrameGateway.status l.gateway).left l.place.phase l.ran.frames
      ≤ left_by (g.G.FrameGateway.status l.initial.gateway).left l.initial.place.phase l.initial.ran.frames;
  less : 0 < l.len → left_by (g.G.FrameGateway.status l.gateway).left l.place.phase l.ran.frames
      < left_by (g.G.FrameGateway.status l.initial.gateway).left l.initial.place.phase l.initial.ran.frames;
  read : frame_read l.initial.place.phase l.initial.ran.frames ≤ frame_read l.place.phase l.ran.frames;
  holds : (done : List Event)
      → Holds g.G.FrameGateway.sharing l.plan done (g.G.FrameGateway.seen l.initial.gateway l.plan).stands
      l.initial.place l.initial.ran
      → Holds g.G.FrameGateway.sharing l.plan (done ++ Gave (take l.len l.out) ∷ [])
      (g.G.FrameGateway.seen l.gateway l.plan).stands l.place l.ran;
}

abbrev pub decreases-loop-out : goal.decreases-loop-out
decreases-loop-out g l = length l.initial.out - l.len
