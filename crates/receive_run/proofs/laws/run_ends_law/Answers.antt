use Rattle.std.proofs.Common.{None}
use Rattle.receive_run.proofs.EndLemmas.{run_ends}
use Rattle.receive_run.proofs.WorkLemmas.{may_none}
use Rattle.receive_run.proofs.laws.run_ends_law.Goals as goal

pub returns-clause-joined : goal.returns-clause-joined
returns-clause-joined c = run_ends c.refusal_law.ensures.either c.spelled_or_refused_law.ensures
    c.no_refusal_law.ensures
    c.bit_counts_law.ensures c.groups_law.ensures.step

pub returns-clause-alone : goal.returns-clause-alone
returns-clause-alone c = λ d plp file plan inside bytes.
    run_ends c.refusal_law.ensures.either c.spelled_or_refused_law.ensures c.no_refusal_law.ensures
    c.bit_counts_law.ensures c.groups_law.ensures.step None d plp file plan inside (may_none d plp) bytes
