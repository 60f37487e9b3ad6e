use Rattle.std.proofs.Common.{None}
use Rattle.receive_run.proofs.OnceLemmas.{one_output}
use Rattle.receive_run.proofs.laws.one_output_law.Goals as goal

pub returns-clause-joined : goal.returns-clause-joined
returns-clause-joined c = one_output c.reading_law.ensures.one c.place_law.ensures c.joined_law.ensures.once

pub returns-clause-alone : goal.returns-clause-alone
returns-clause-alone c = λ d plp file first views packets ran bytes plan records on back has.
    one_output c.reading_law.ensures.one c.place_law.ensures c.joined_law.ensures.once None d plp file
    first views packets ran bytes
    plan records on back has
