use Rattle.std.proofs.Common.{rules}
use Rattle.stream_laws.proofs.FormedLemmas.{frames_are_formed}
use Rattle.stream_laws.proofs.formed_laws.formed_law.Goals as goal

pub returns : goal.returns
returns c = search (rules, frames_are_formed)
