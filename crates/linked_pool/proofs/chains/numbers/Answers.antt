use Rattle.std.proofs.Common.{ℕ, List, [], ◌∷◌, ◌+◌, ◌++◌, ap, ◌∙◌, sym, arith}
use Rattle.linked_pool.specs.Chains.{rising}
use Rattle.linked_pool.proofs.OpenLemmas.{rising_more}
use Rattle.linked_pool.proofs.chains.numbers.Goals as goal

pub loop-i-preserved : goal.loop-i-preserved
loop-i-preserved c =
    let e = c.in_ok-push.ensures.items in
    let next : ℕ = c.loop-i.i + 1 in
    e ∙ ap (λ (xs : List ℕ). xs ++ next ∷ []) c.loop-i.invariant ∙ ap (λ (x : ℕ). rising c.loop-i.i 1 ++ x ∷ [])
    (omega arith)
    ∙ sym (rising_more c.loop-i.i 1)
