use Rattle.std.proofs.Common.{◌≡◌, List, []}
use Rattle.frame_groups.specs.Groups.{Group}
use Rattle.frame_weave.specs.Weaves.{Weaves, IsOwn}
use Rattle.mended_frames.specs.StandsFor.{HaveGroups}
use Rattle.mended_frames.proofs.ChooseLemmas.{Split}
use Rattle.mended_frames.proofs.groups.place_all.Given as goal

abbrev pub invariant-loop-i : goal.invariant-loop-i
invariant-loop-i l = record {
  split : (gs : List Group) → HaveGroups l.number l.feeds gs → Weaves l.initial.weaver l.number gs []
      → Split l.number l.feeds gs l.i (λ seen. Weaves l.weaver l.number gs seen);
  own : IsOwn l.initial.weaver → IsOwn l.weaver;
  plan : l.weaver.plan.now ≡ l.initial.weaver.plan.now;
}
