use Rattle.std.proofs.Common.{rules}
use Rattle.stream_laws.proofs.AgainLemmas.{run_sent_again}
use Rattle.stream_laws.proofs.remade_laws.again_law.Goals as goal

pub returns : goal.returns
returns c = search (rules, run_sent_again)
