use Rattle.std.proofs.Common.{◌≡◌, ◌≤◌, ◌-◌, ◌++◌, ◌∷◌, List, [], length, take}
use Rattle.file_run.specs.Events.{Event, Fed}
use Rattle.gateway_run.specs.Holds.{Holds}
use Rattle.gateway_run.specs.Phases.{frame_read}
use Rattle.gateway_run.specs.Ready.{IsReady}
use Rattle.gateway_run.proofs.steps.take_packets.Given as goal

abbrev pub invariant-packets : goal.invariant-packets
invariant-packets g l = record {
  first : l.len ≡ 0 → l.now ≡ l.fn.place;
  inside : l.len ≤ length l.bytes;
  ready : IsReady g.G.FrameGateway.sharing l.plan (g.G.FrameGateway.seen l.gateway l.plan)
      (g.G.FrameGateway.status l.gateway) l.now l.ran;
  read : frame_read l.now.phase l.ran.frames ≡ l.ran.frames;
  holds : (done : List Event)
      → Holds g.G.FrameGateway.sharing l.plan done (g.G.FrameGateway.seen l.fn.gateway l.plan).stands l.fn.place l.ran
      → Holds g.G.FrameGateway.sharing l.plan (done ++ Fed l.fn.place.input (take l.len l.bytes) ∷ [])
      (g.G.FrameGateway.seen l.gateway l.plan).stands l.now l.ran;
}

abbrev pub decreases-packets : goal.decreases-packets
decreases-packets g l = length l.bytes - l.len
