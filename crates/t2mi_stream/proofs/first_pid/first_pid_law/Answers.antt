use Rattle.t2mi_stream.proofs.FirstPidLemmas.{tells_none, packets_behind, no_packets}
use Rattle.t2mi_stream.proofs.first_pid.first_pid_law.Goals as goal

pub returns-clause-on : goal.returns-clause-on
returns-clause-on c = tells_none

pub returns-clause-behind : goal.returns-clause-behind
returns-clause-behind c = packets_behind c.skip_law.ensures

pub returns-clause-none : goal.returns-clause-none
returns-clause-none c = no_packets
