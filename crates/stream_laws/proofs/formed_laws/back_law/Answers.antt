use Rattle.std.proofs.Common.{rules}
use Rattle.stream_laws.proofs.CarryLemmas.{frame_comes_back}
use Rattle.stream_laws.proofs.formed_laws.back_law.Goals as goal

pub returns : goal.returns
returns c = search (rules, frame_comes_back)
