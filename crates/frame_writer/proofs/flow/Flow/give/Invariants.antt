use Rattle.std.proofs.Common.{◌≡◌, ◌*◌, ◌≤◌, ◌-◌, ℕ, List, [], true, length, take}
use Rattle.ts_packet.specs.TsFile.{joined}
use Rattle.ts_packet.specs.declared.sizes.TheConstants.{SIZE}
use Rattle.frame_writer.specs.Units.{Gives}
use Rattle.frame_writer.proofs.flow.Flow.give.Given as goal

abbrev pub invariant-loop-out : goal.invariant-loop-out
invariant-loop-out g l = record {
  inside : l.len ≤ length l.out;
  size : length l.out ≡ length l.initial.out;
  units : List (List ℕ);
  bytes : take l.len l.out ≡ joined units;
  count : l.len ≡ SIZE * length units;
  gives : Gives l.plan l.initial.self l.self (g.S.FrameSource.number l.initial.source)
      (g.S.FrameSource.left l.initial.source l.frame l.plan) (g.S.FrameSource.left l.source l.frame l.plan) units;
  number : g.S.FrameSource.number l.source ≡ g.S.FrameSource.number l.initial.source;
  of : g.S.FrameSource.IsFor l.source l.frame l.plan;
  over : l.self.dry ≡ true → g.S.FrameSource.left l.source l.frame l.plan ≡ [];
  ends : l.self.dry ≡ true → g.S.FrameSource.IsOver l.source;
}

abbrev pub decreases-loop-out : goal.decreases-loop-out
decreases-loop-out g l = length l.initial.out - l.len
