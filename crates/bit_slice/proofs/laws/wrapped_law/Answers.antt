use Rattle.bit_slice.proofs.SinkLemmas.{puts_through, stops_through}
use Rattle.bit_slice.proofs.laws.wrapped_law.Goals as goal

pub returns-clause-puts : goal.returns-clause-puts
returns-clause-puts c = puts_through

pub returns-clause-stops : goal.returns-clause-stops
returns-clause-stops c = stops_through
