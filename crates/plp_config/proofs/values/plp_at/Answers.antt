use Rattle.plp_config.specs.Rules.{BlockLimit, BitRate, SpreadDivides}
use Rattle.plp_config.proofs.values.plp_at.Goals as goal

pub returns-clause-blocks : goal.returns-clause-blocks
returns-clause-blocks c = rw c.as_slice.ensures (c.requires.rules BlockLimit c.args.plp c.requires.configured)

pub returns-clause-rate : goal.returns-clause-rate
returns-clause-rate c = rw c.as_slice.ensures (c.requires.rules BitRate c.args.plp c.requires.configured)

pub returns-clause-spread : goal.returns-clause-spread
returns-clause-spread c = rw c.as_slice.ensures ((c.requires.rules SpreadDivides c.args.plp c.requires.configured).0)
