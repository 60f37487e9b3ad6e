use Rattle.std.proofs.Common.{rules}
use Rattle.stream_laws.proofs.BackLemmas.{shown_is_sent}
use Rattle.stream_laws.proofs.formed_laws.shown_law.Goals as goal

pub returns : goal.returns
returns c = search (rules, shown_is_sent)
