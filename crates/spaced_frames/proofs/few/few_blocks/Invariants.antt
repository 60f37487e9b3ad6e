use Rattle.std.proofs.Common.{[], ◌<◌, ◌^◌, ℕ, length}
use Rattle.std.specs.Prelude.{slice_index_or}
use Rattle.spaced_frames.proofs.few.few_blocks.Given as goal

abbrev pub invariant-loop-list : goal.invariant-loop-list
invariant-loop-list l = (i : ℕ) → i < l.list → length (slice_index_or l.frame.blocks.now.lists i []) < 2 ^ 32
