use Rattle.std.proofs.Common.{rules}
use Rattle.ports.proofs.FaultLemmas.{fails}
use Rattle.ports.proofs.memory.MemoryDeskDesk.create.Goals as goal

pub returns-clause-err : goal.returns-clause-err
returns-clause-err c = fails _ _ _ (search rules)
