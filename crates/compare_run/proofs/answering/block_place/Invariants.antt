use Rattle.std.proofs.Common.{◌≡◌, ◌<◌, ℕ, slice_index_or, None}
use Rattle.compare_run.proofs.answering.block_place.Given as goal

abbrev pub invariant-loop-plp : goal.invariant-loop-plp
invariant-loop-plp l = (k : ℕ) → k < l.plp → slice_index_or l.others k None ≡ None
