use Rattle.std.proofs.Common.{rules}
use Rattle.stream_laws.proofs.RemadeLemmas.{remade_comes_back}
use Rattle.stream_laws.proofs.remade_laws.remade_law.Goals as goal

pub returns : goal.returns
returns c = search (rules, remade_comes_back)
