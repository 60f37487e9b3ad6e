use Rattle.gateway_core.proofs.FedLemmas.{few_in_all}
use Rattle.gateway_core.proofs.input.Input.total.Goals as goal

pub returns-clause-small : goal.returns-clause-small
returns-clause-small c =
    let i = c.args.self.now in
    few_in_all i.total i.due i.behind i.small
