use Rattle.std.proofs.Common.{◌≡◌, ◌<◌, [], get_or}
use Rattle.terms.specs.Bits.{bytes_of}
use Rattle.linked_pool.specs.Blocks.{Fills}
use Rattle.linked_pool.proofs.chunk.fill.Given as goal

abbrev pub invariant-loop-i : goal.invariant-loop-i
invariant-loop-i l =
    record {
      at : l.i < l.count → l.chunk ≡ get_or (get_or l.chains 0 []) l.i 0;
      fills : Fills (get_or l.chains 0 []) (bytes_of l.block) l.i l.initial.chunks l.chunks;
    }
