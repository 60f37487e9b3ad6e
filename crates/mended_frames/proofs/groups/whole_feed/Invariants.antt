use Rattle.std.proofs.Common.{List}
use Rattle.frame_groups.specs.Groups.{Group}
use Rattle.frame_groups.specs.Modulated.{Numbered}
use Rattle.frame_groups.specs.Sequenced.{IsAbove}
use Rattle.open_group.specs.HoldsPast.{HoldsPast}
use Rattle.mended_frames.specs.StandsFor.{HaveGroups}
use Rattle.mended_frames.proofs.ChooseLemmas.{Left}
use Rattle.mended_frames.proofs.groups.whole_feed.Given as goal

abbrev pub invariant-loop-i : goal.invariant-loop-i
invariant-loop-i l = (gs : List Group) (before : List Numbered) → HaveGroups l.number l.feeds gs
    → HoldsPast l.plan l.past before
    → IsAbove before l.number → Left l.plan before l.number l.feeds gs l.i
