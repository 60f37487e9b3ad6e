use Rattle.std.proofs.Common.{rules}
use Rattle.stream_laws.proofs.WrittenLemmas.{written_is_frame}
use Rattle.stream_laws.proofs.frame_laws.frame_law.Goals as goal

pub returns : goal.returns
returns c = search (rules, written_is_frame)
