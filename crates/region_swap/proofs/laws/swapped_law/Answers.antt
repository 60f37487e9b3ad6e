use Rattle.region_swap.proofs.SwappedLemmas.{held_is_swapped}
use Rattle.region_swap.proofs.laws.swapped_law.Goals as goal

pub returns : goal.returns
returns c =
    held_is_swapped c.bit_counts_law.ensures c.scramble_twice_law.ensures c.pre_law.ensures.bits
    c.block_law.ensures.field
    (record {
      told = c.parts_law.ensures.whole;
      conf_told = c.parts_law.ensures.conf;
      pre_values = c.parts_law.ensures.pre;
      pre_back = c.pre_law.ensures.back;
      pre_written = c.pre_law.ensures.written;
      conf_written = c.conf_law.ensures.written;
      conf_size = c.post_law.ensures.conf;
      dyn_back = c.dyn_law.ensures.back;
      dyn_size = c.dyn_law.ensures.len;
    })
