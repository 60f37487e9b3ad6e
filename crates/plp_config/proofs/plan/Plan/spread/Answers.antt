use Rattle.std.proofs.Common.{◌≡◌, subst, ◌∙◌, ap, arith}
use Rattle.plp_config.specs.Capacity.{IsPlan}
use Rattle.plp_config.specs.Plps.{spread}
use Rattle.plp_config.specs.Rules.{SpreadDivides}
use Rattle.plp_config.specs.declared.config.Config.{Config}
use Rattle.plp_config.proofs.SpreadLemmas.{spread_greatest}
use Rattle.plp_config.proofs.plan.Plan.spread.Goals as goal
use Rattle.plp_config.proofs.plan.Plan.spread.Goals.{After-from}

is : (c : After-from) → c.from.result ≡ spread c.args.self.now.plps c.args.plp
is c = c.from.ensures ∙ c.spread.ensures.value ∙ ap (λ (x : Config). spread x.plps c.args.plp) c.self.view_is

pub returns-clause-greatest : goal.returns-clause-greatest
returns-clause-greatest c =
    let all : IsPlan c.args.self.now = subst IsPlan c.self.view_is c.self.invariant in
    omega (arith, is c, (spread_greatest c.args.self.now all.rules).0 c.args.plp c.requires)

pub returns-clause-whole : goal.returns-clause-whole
returns-clause-whole c =
    let all : IsPlan c.args.self.now = subst IsPlan c.self.view_is c.self.invariant in
    rw (is c) ((all.rules SpreadDivides c.args.plp c.requires).1)
