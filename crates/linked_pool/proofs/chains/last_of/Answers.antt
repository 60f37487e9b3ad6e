use Rattle.std.proofs.Common.{◌≡◌, ◌+◌, ◌-◌, suc, ap, sym, ◌∙◌, arith, get_or}
use Rattle.linked_pool.specs.Chains.{last_on}
use Rattle.linked_pool.proofs.WalkLemmas.{last_on_more}
use Rattle.linked_pool.proofs.chains.last_of.Goals as goal

pub loop-step-preserved : goal.loop-step-preserved
loop-step-preserved c =
    let e : suc (c.loop-step._step - 1) ≡ c.loop-step._step + 1 - 1 = omega arith in
    ap (λ n. get_or c.args.next.now n 0) c.loop-step.invariant
    ∙ sym (last_on_more c.args.next.now (c.loop-step._step - 1) c.args.first)
    ∙ ap (λ n. last_on c.args.next.now n c.args.first) e
