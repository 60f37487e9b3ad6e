use Rattle.std.proofs.Common.{◌<◌, subst, sym}
use Rattle.plp_config.specs.Rules.{UtcOffset}
use Rattle.plp_config.specs.declared.config.Config.{Config}
use Rattle.frame_weave.proofs.made.stamp_of.Goals as goal

pub returns-clause-utco : goal.returns-clause-utco
returns-clause-utco c = subst (λ (k : Config). k.utco < 8192) (sym c.config-config.ensures.value)
    (c.config-config.ensures.plan.rules UtcOffset)
