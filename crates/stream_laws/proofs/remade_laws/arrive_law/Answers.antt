use Rattle.std.proofs.Common.{rules}
use Rattle.stream_laws.proofs.ByteLemmas.{remade_arrives}
use Rattle.stream_laws.proofs.remade_laws.arrive_law.Goals as goal

pub returns : goal.returns
returns c = search (rules, remade_arrives)
