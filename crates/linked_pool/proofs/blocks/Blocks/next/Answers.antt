use Rattle.std.proofs.Common.{ℕ, ◌+◌, get_or, refl, ap, sym, ◌∙◌, arith}
use Rattle.linked_pool.proofs.NextLemmas.{steps, walks_on}
use Rattle.linked_pool.proofs.blocks.Blocks.next.Goals as goal

pub count_at-len-requires : goal.count_at-len-requires
count_at-len-requires c =
    (steps c.self.inside.chains.now c.self.inside.chunks.now c.self.inside.lens.now c.self.inside.lasts.now
    c.self.inside.chain
    c.self.inside.offset c.self.inside.chunk c.self.inside.left (get_or c.self.inside.lens.now c.self.inside.chunk 0)
    c.self.invariant (omega (arith, c.if-left-eq0.false)) refl).in_lens

pub read-last-requires : goal.read-last-requires
read-last-requires c =
    (steps c.self.inside.chains.now c.self.inside.chunks.now c.self.inside.lens.now c.self.inside.lasts.now
    c.self.inside.chain
    c.self.inside.offset c.self.inside.chunk c.self.inside.left c.count_at-len.result
    c.self.invariant (omega (arith, c.if-left-eq0.false)) c.count_at-len.ensures).in_lasts

pub invariant_of-block : goal.invariant_of-block
invariant_of-block c =
    (steps c.self.inside.chains.now c.self.inside.chunks.now c.self.inside.lens.now c.self.inside.lasts.now
    c.self.inside.chain
    c.self.inside.offset c.self.inside.chunk c.self.inside.left c.count_at-len.result
    c.self.invariant (omega (arith, c.if-left-eq0.false)) c.count_at-len.ensures).block

pub overflow_add-self : goal.overflow_add-self
overflow_add-self c =
    let s = steps c.self.inside.chains.now c.self.inside.chunks.now c.self.inside.lens.now c.self.inside.lasts.now
    c.self.inside.chain c.self.inside.offset c.self.inside.chunk c.self.inside.left c.count_at-len.result
    c.self.invariant (omega (arith, c.if-left-eq0.false)) c.count_at-len.ensures in
    omega (arith, s.fits, c.self.invariant.few, c.chunks_for.ensures)

pub invariant_of-self : goal.invariant_of-self
invariant_of-self c =
    walks_on c.self.inside.chains.now c.self.inside.chunks.now c.self.inside.lens.now c.self.inside.lasts.now
    c.self.inside.chain
    c.self.inside.offset c.self.inside.chunk c.self.inside.left c.count_at-len.result _ _ _ c.self.invariant
    (omega (arith, c.if-left-eq0.false)) c.count_at-len.ensures
    (ap (λ (n : ℕ). c.self.inside.offset + n) c.chunks_for.ensures) refl
    (λ k lt e. c.after-self-inside.ensures c.self.inside.chain k c.self.invariant.inside lt (e
    ∙ sym c.read-last.ensures))

pub returns-clause-some : goal.returns-clause-some
returns-clause-some c =
    let s = steps c.self.inside.chains.now c.self.inside.chunks.now c.self.inside.lens.now c.self.inside.lasts.now
    c.self.inside.chain c.self.inside.offset c.self.inside.chunk c.self.inside.left c.count_at-len.result
    c.self.invariant (omega (arith, c.if-left-eq0.false)) c.count_at-len.ensures in
    sym c.self.view_is ∙ rw c.chunks_for.ensures s.blocks
