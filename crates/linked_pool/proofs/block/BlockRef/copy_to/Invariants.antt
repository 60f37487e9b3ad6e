use Rattle.std.proofs.Common.{◌≡◌, ◌+◌, ◌++◌, length, take}
use Rattle.linked_pool.proofs.block.BlockRef.copy_to.Given as goal

abbrev pub invariant-loop-piece : goal.invariant-loop-piece
invariant-loop-piece l = record {
  front : take l.at l.out ++ l.pieces ≡ l.self;
  fits : l.at + length l.pieces ≡ length l.out;
}

abbrev pub decreases-loop-piece : goal.decreases-loop-piece
decreases-loop-piece l = length l.pieces
