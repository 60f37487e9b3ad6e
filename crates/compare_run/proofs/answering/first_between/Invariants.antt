use Rattle.std.proofs.Common.{◌≡◌, ◌+◌, length}
use Rattle.linked_pool.specs.Pool.{list_at}
use Rattle.compare_run.proofs.BlockLemmas.{AreSame}
use Rattle.compare_run.proofs.answering.first_between.Given as goal

abbrev pub invariant-loop-place : goal.invariant-loop-place
invariant-loop-place l = record {
  left : length l.blocks + l.place ≡ length (list_at l.a l.list);
  same : AreSame (list_at l.a l.list) (list_at l.b l.list) l.place l.blocks l.others;
}
