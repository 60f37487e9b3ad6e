use Rattle.show_run.proofs.EndLemmas.{ends_once, each_ends}
use Rattle.show_run.proofs.laws.packets_end_law.Goals as goal

pub returns-clause-one : goal.returns-clause-one
returns-clause-one c = ends_once c.one_packet_law.ensures c.no_refusal_law.ensures c.packet_length_law.ensures
    c.one_refusal_law.ensures

pub returns-clause-each : goal.returns-clause-each
returns-clause-each c = each_ends c.spelled_or_refused_law.ensures c.packet_length_law.ensures
