use Rattle.std.proofs.Common.{◌≡◌, ◌<◌, ℕ, List, true}
use Rattle.std.specs.Prelude.{slice_index}
use Rattle.frame_groups.specs.Modulated.{Numbered}
use Rattle.frame_groups.specs.Sequenced.{IsAbove}
use Rattle.frame_groups.specs.Tally.{Tally}
use Rattle.frame_groups.specs.Tests.{has_count}
use Rattle.open_group.specs.HoldsBlocks.{HoldsCounts}
use Rattle.open_group.specs.HoldsPast.{HoldsPast}
use Rattle.open_group.proofs.past.HeldPast.has_counts.Given as goal

abbrev pub invariant-loop-plp : goal.invariant-loop-plp
invariant-loop-plp l =
    (past : List Numbered) (t : Tally) → HoldsPast l.plan l.self past → IsAbove past l.number
    → HoldsCounts l.plan l.blocks t
    → (k : ℕ) → k < l.plp → has_count l.plan past l.number k (slice_index t.blocks k) (slice_index l.shape.counts k)
    ≡ true
