use Rattle.std.proofs.Common.{◌≡◌, ◌-◌, ◌++◌, List, replicate}
use Rattle.std.specs.Cmp.Lexicographic.{pointwise}
use Rattle.frame_groups.specs.Readable.{BlockSize, has_size}
use Rattle.plp_receiver.specs.Sizes.{size_of}
use Rattle.plp_receiver.proofs.readable.come_next.Given as goal

abbrev pub invariant-loop : goal.invariant-loop
invariant-loop l = (more : List BlockSize)
    → pointwise has_size l.fn.rest (replicate l.fn.count (size_of l.fn.id l.fn.len) ++ more)
    ≡ pointwise has_size l.rest (replicate (l.fn.count - l.counter) (size_of l.fn.id l.fn.len) ++ more)
