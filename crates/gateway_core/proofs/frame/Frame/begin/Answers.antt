use Rattle.std.proofs.Common.{arith}
use Rattle.gateway_core.specs.Lists.{own_in}
use Rattle.gateway_core.proofs.BoundLemmas.{few_left, own_few}
use Rattle.gateway_core.proofs.LeftLemmas.{early_begin}
use Rattle.gateway_core.proofs.frame.Frame.begin.Goals as goal

pub returns-clause-few : goal.returns-clause-few
returns-clause-few c = λ s.
    let p = c.args.plan.now in
    let blocks = c.args.self.now.blocks in
    few_left c.block_law.ensures.field p c.args.number c.first_step-self.result _ (own_in p c.args.number blocks)
    c.rules_law.ensures.plan
    (λ j lt. let few = own_few p c.args.number blocks j in let within = c.requires.within j lt in omega
    (arith, few, within))

pub returns-clause-early : goal.returns-clause-early
returns-clause-early c = λ j. early_begin c.args.plan.now c.args.number c.first_step-self.result c.args.self.now.blocks
    c.first_step-self.ensures j
