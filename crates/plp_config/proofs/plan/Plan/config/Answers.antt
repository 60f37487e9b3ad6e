use Rattle.plp_config.proofs.TableLemmas.{plan_ranges}
use Rattle.plp_config.proofs.plan.Plan.config.Goals as goal

pub returns-clause-ranges : goal.returns-clause-ranges
returns-clause-ranges c = plan_ranges c.self.inside.config c.self.invariant
