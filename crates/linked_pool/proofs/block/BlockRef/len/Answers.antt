use Rattle.std.proofs.Common.{length, ap, ◌∙◌}
use Rattle.linked_pool.proofs.FillLemmas.{length-ref}
use Rattle.linked_pool.proofs.block.BlockRef.len.Goals as goal

pub returns : goal.returns
returns c =
    length-ref c.self.inside.chains.now c.self.inside.chunks.now c.self.inside.chain c.self.inside.offset
    c.self.inside.first
    c.self.inside.len c.self.invariant
    ∙ ap length c.self.view_is
