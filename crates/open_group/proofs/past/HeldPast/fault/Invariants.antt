use Rattle.std.proofs.Common.{◌≡◌, ◌+◌, ◌*◌, ◌/◌, ◌<◌, ℕ, List, None}
use Rattle.frame_groups.specs.Modulated.{Numbered}
use Rattle.frame_groups.specs.Sequenced.{IsAbove}
use Rattle.frame_groups.specs.Tests.{begun_test}
use Rattle.open_group.specs.HoldsPast.{HoldsPast}
use Rattle.open_group.proofs.past.HeldPast.fault.Given as goal

abbrev pub invariant-loop-place : goal.invariant-loop-place
invariant-loop-place l =
    (past : List Numbered) → HoldsPast l.plan l.self past → IsAbove past l.number
    → (k : ℕ) → k < l.place → begun_test l.plan past l.number (l.number / l.plan.frames * l.plan.frames + k) ≡ None
