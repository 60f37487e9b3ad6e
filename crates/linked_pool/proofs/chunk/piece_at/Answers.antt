use Rattle.std.proofs.Common.{ap, arith, ◌∙◌}
use Rattle.terms.specs.Bits.{bytes_of}
use Rattle.terms.proofs.BitLemmas.{length-bytes_of}
use Rattle.linked_pool.proofs.FillLemmas.{piece_of_bits}
use Rattle.linked_pool.proofs.chunk.piece_at.Goals as goal

pub overflow_sub-end : goal.overflow_sub-end
overflow_sub-end c = omega (
  arith,
  length-bytes_of c.args.block.now,
  c.requires.there,
  c.min-end.ensures,
  c.len.ensures.len,
)

pub sub-requires : goal.sub-requires
sub-requires c = omega (arith, length-bytes_of c.args.block.now, c.requires.there, c.min-end.ensures, c.len.ensures.len)

pub returns-clause-piece : goal.returns-clause-piece
returns-clause-piece c =
    ap bytes_of c.sub.ensures.bits
    ∙ piece_of_bits c.args.block.now c.args.i c.min-end.result c.requires.whole c.requires.there
    (rw c.len.ensures.len at c.min-end.ensures)
