use Rattle.std.proofs.Common.{◌≡◌, ℕ}
use Rattle.plp_config.specs.declared.config.Config.{Config}
use Rattle.frame_writer.specs.Left.{blocks_left}
use Rattle.frame_writer.proofs.frame.next_block.Given as goal

abbrev pub invariant-loop-list : goal.invariant-loop-list
invariant-loop-list l = (c : Config) (frame_idx : ℕ) → blocks_left c frame_idx l.plp l.place l.pool.lists
    ≡ blocks_left c frame_idx l.list l.at l.pool.lists
