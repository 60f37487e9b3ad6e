use Rattle.std.proofs.Common.{◌≡◌, ◌∙◌, ap, sym, length, arith}
use Rattle.linked_pool.proofs.FillLemmas.{lends, length-rest}
use Rattle.linked_pool.proofs.pieces.Pieces.next.Goals as goal

pub front_of-piece-requires-clause-at : goal.front_of-piece-requires-clause-at
front_of-piece-requires-clause-at c =
    let l = lends c.self.inside.chains.now c.self.inside.chunks.now c.self.inside.chain c.self.inside.offset
    c.self.inside.chunk
    c.self.inside.left c.min-count.result c.self.invariant (omega (arith, c.if-left-eq0.false)) c.min-count.ensures in
    l.there

pub returns-clause-some : goal.returns-clause-some
returns-clause-some c =
    let l = lends c.self.inside.chains.now c.self.inside.chunks.now c.self.inside.chain c.self.inside.offset
    c.self.inside.chunk
    c.self.inside.left c.min-count.result c.self.invariant (omega (arith, c.if-left-eq0.false)) c.min-count.ensures in
    let long : length c.front_of-piece.result.now ≡ c.min-count.result = ap length c.front_of-piece.ensures ∙ l.long in
    let left = ap length c.self.view_is in
    let before = length-rest c.self.inside.chains.now c.self.inside.chunks.now c.self.inside.chain c.self.inside.offset
    c.self.inside.chunk c.self.inside.left c.self.invariant in (
      sym c.self.view_is ∙ rw c.front_of-piece.ensures l.bytes,
      omega (arith, long, c.min-count.ensures, c.if-left-eq0.false),
      omega (arith, long, c.min-count.ensures, left, before),
    )
