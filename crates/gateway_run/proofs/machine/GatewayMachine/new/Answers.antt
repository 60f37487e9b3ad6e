use Rattle.std.proofs.Common.{refl}
use Rattle.gateway_run.proofs.FirstLemmas.{first}
use Rattle.gateway_run.proofs.machine.GatewayMachine.new.Goals as goal

pub returns-clause-becomes : goal.returns-clause-becomes
returns-clause-becomes g c = (refl, first g.G.FrameGateway.sharing _ _ c.rules_law.ensures.plan c.requires.stands)
