use Rattle.std.proofs.Common.{◌∙◌}
use Rattle.linked_pool.proofs.FillLemmas.{pieces_is}
use Rattle.linked_pool.proofs.block.BlockRef.pieces.Goals as goal

pub invariant_of-result : goal.invariant_of-result
invariant_of-result c =
    (pieces_is c.self.inside.chains.now c.self.inside.chunks.now c.self.inside.chain c.self.inside.offset
    c.self.inside.first
    c.self.inside.len c.self.invariant).0

pub returns : goal.returns
returns c =
    (pieces_is c.self.inside.chains.now c.self.inside.chunks.now c.self.inside.chain c.self.inside.offset
    c.self.inside.first
    c.self.inside.len c.self.invariant).1 ∙ c.self.view_is
