use Rattle.std.proofs.Common.{◌-◌, ◌≤◌, false}
use Rattle.std.specs.Prelude.{replicate}
use Rattle.bit_slice.specs.Sink.{Puts}
use Rattle.bb_frame.proofs.writing.put_zeros.Given as goal

abbrev pub invariant-loop-left : goal.invariant-loop-left
invariant-loop-left g l = (l.left ≤ l.fn.count) × Puts (g.S.BitSink.state l.initial.sink) (g.S.BitSink.state l.sink)
    (replicate (l.fn.count - l.left) false)

abbrev pub decreases-loop-left : goal.decreases-loop-left
decreases-loop-left g l = l.left
