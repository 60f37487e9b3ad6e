use Rattle.std.proofs.Common.{◌≡◌, ℕ}
use Rattle.plp_config.specs.declared.config.Config.{Config}
use Rattle.frame_writer.specs.Left.{blocks_left}
use Rattle.region_swap.specs.Left.{lists_in}
use Rattle.region_swap.proofs.place.next_block.Given as goal

abbrev pub invariant-loop-list : goal.invariant-loop-list
invariant-loop-list l = (c : Config) (frame_idx : ℕ) → blocks_left c frame_idx l.plp l.place (lists_in l.frame)
    ≡ blocks_left c frame_idx l.list l.at (lists_in l.frame)
