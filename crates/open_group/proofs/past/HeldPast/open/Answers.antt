use Rattle.open_group.proofs.PastLemmas.{no_past}
use Rattle.open_group.proofs.past.HeldPast.open.Goals as goal

pub returns-clause-none : goal.returns-clause-none
returns-clause-none c =
    no_past c.args.plan.now _ _ _ (c.in_ok-vec.ensures.items_if_clones_equal (λ y e. e))
    (c.in_ok-vec-2.ensures.items_if_clones_equal (λ y e. e))
