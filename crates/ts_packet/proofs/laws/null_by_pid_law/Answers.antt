use Rattle.ts_packet.proofs.LawLemmas.{null_by_pid}
use Rattle.ts_packet.proofs.laws.null_by_pid_law.Goals as goal

pub returns : goal.returns
returns c = null_by_pid
