use Rattle.std.proofs.Common.{None}
use Rattle.receive_run.proofs.OnceLemmas.{one_run}
use Rattle.receive_run.proofs.laws.one_run_law.Goals as goal

pub returns-clause-joined : goal.returns-clause-joined
returns-clause-joined c = one_run c.reading_law.ensures.one c.refusal_law.ensures.never c.refusal_law.ensures.one
    c.place_law.ensures
    c.joined_law.ensures.once

pub returns-clause-alone : goal.returns-clause-alone
returns-clause-alone c = λ d plp file result other plan a b.
    one_run c.reading_law.ensures.one c.refusal_law.ensures.never c.refusal_law.ensures.one c.place_law.ensures
    c.joined_law.ensures.once None d plp file result other plan a b
