use Rattle.std.proofs.Common.{ℕ, List, ap, ◌∙◌, ◌+◌, replicate, set, arith}
use Rattle.linked_pool.proofs.OpenLemmas.{opened_both}
use Rattle.linked_pool.proofs.chains.Chains.open.Goals as goal

pub invariant_of-result : goal.invariant_of-result
invariant_of-result c =
    (opened_both c.args.count c.args.lists c.in_ok-next.next.items c.in_ok-heads.heads.items
    (set c.in_ok-tails.tails.items 0 c.saturating_sub.result) c.in_ok-sizes.sizes.items
    (omega arith) c.in_ok-next.ensures c.in_ok-heads.ensures
    (ap (λ (xs : List ℕ). set xs 0 c.saturating_sub.result) c.in_ok-tails.ensures
    ∙ ap (λ (x : ℕ). set (replicate (c.args.lists + 1) 0) 0 x) c.saturating_sub.ensures) c.in_ok-sizes.ensures).0

pub returns : goal.returns
returns c =
    (opened_both c.args.count c.args.lists c.in_ok-next.next.items c.in_ok-heads.heads.items
    (set c.in_ok-tails.tails.items 0 c.saturating_sub.result) c.in_ok-sizes.sizes.items
    (omega arith) c.in_ok-next.ensures c.in_ok-heads.ensures
    (ap (λ (xs : List ℕ). set xs 0 c.saturating_sub.result) c.in_ok-tails.ensures
    ∙ ap (λ (x : ℕ). set (replicate (c.args.lists + 1) 0) 0 x) c.saturating_sub.ensures) c.in_ok-sizes.ensures).1
