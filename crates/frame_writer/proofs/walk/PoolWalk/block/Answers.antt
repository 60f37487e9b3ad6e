use Rattle.std.proofs.Common.{◌∙◌, ap, sym, drop, ℕ}
use Rattle.linked_pool.specs.Pool.{State, list_at}
use Rattle.linked_pool.proofs.NextLemmas.{next_leaves, next_ends}
use Rattle.frame_writer.proofs.walk.PoolWalk.block.Goals as goal

pub invariant_of-self : goal.invariant_of-self
invariant_of-self c =
    let same = sym (c.self.view_is ∙ c.blocks_at-blocks.ensures.pool) in
    next_leaves c.next-block.result c.blocks_at-blocks.result c.next-block.new.self
    (list_at c.self.inside.pool.now c.args.list)
    c.from.result c.next-block.ensures.none c.next-block.ensures.some
    (c.blocks_at-blocks.ensures.blocks ∙ ap (λ (s : State). drop c.args.place (list_at s c.args.list)) same
    ∙ ap (λ (p : ℕ). drop p (list_at c.self.inside.pool.now c.args.list)) (sym c.from.ensures))

pub returns-clause-none : goal.returns-clause-none
returns-clause-none c =
    next_ends c.next-block.result c.blocks_at-blocks.result c.next-block.new.self (list_at c.args.self.now c.args.list)
    c.args.place
    c.next-block.ensures.none c.next-block.ensures.some c.blocks_at-blocks.ensures.blocks
