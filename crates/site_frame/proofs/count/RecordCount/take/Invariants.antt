use Rattle.std.proofs.Common.{◌-◌, length, take}
use Rattle.site_frame.specs.RecordCount.{CountsOn}
use Rattle.site_frame.proofs.count.RecordCount.take.Given as goal

abbrev pub invariant-loop-at : goal.invariant-loop-at
invariant-loop-at l = CountsOn l.initial.self l.self (take l.at l.bytes)

abbrev pub decreases-loop-at : goal.decreases-loop-at
decreases-loop-at l = length l.bytes - l.at
