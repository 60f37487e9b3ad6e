use Rattle.plp_config.proofs.TableLemmas.{sub_slices-range}
use Rattle.plp_config.specs.Plps.{has_type2}
use Rattle.plp_config.specs.Rules.{SubSlices}
use Rattle.plp_config.proofs.values.sub_slices.Goals as goal

pub returns-clause-least : goal.returns-clause-least
returns-clause-least c =
    (sub_slices-range (has_type2 c.args.config.now.plps) c.args.config.now.sub_slices (c.requires SubSlices)).0

pub returns-clause-greatest : goal.returns-clause-greatest
returns-clause-greatest c =
    (sub_slices-range (has_type2 c.args.config.now.plps) c.args.config.now.sub_slices (c.requires SubSlices)).1
