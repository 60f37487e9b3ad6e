use Rattle.std.proofs.Common.{length, sym, ◌∙◌, arith}
use Rattle.std.specs.Prelude.{nat_lt}
use Rattle.linked_pool.specs.Pool.{list_at}
use Rattle.frame_weave.proofs.SumLemmas.{all_below, not_all_below}
use Rattle.frame_weave.proofs.slots.Slots.is_full.Goals as goal

pub returns-then-not-has_block : goal.returns-then-not-has_block
returns-then-not-has_block c =
    sym (not_all_below (λ place. nat_lt 0 (length (list_at c.args.self.now.pool place))) c.args.count c.loop-place.place
    (omega (arith, c.loop-place-test.true)) (sym c.has_block.ensures ∙ c.if-not-has_block.true))

pub returns : goal.returns
returns c =
    sym (all_below (λ place. nat_lt 0 (length (list_at c.args.self.now.pool place))) c.args.count
    (λ k l. c.loop-place.invariant k (omega (arith, l, c.loop-place-test.false))))
