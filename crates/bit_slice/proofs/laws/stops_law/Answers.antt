use Rattle.bit_slice.proofs.SinkLemmas.{stops_here, stops_early, stops_later, stops_rightly, puts_fit}
use Rattle.bit_slice.proofs.laws.stops_law.Goals as goal

pub returns-clause-here : goal.returns-clause-here
returns-clause-here c = stops_here

pub returns-clause-early : goal.returns-clause-early
returns-clause-early c = stops_early

pub returns-clause-later : goal.returns-clause-later
returns-clause-later c = stops_later

pub returns-clause-full : goal.returns-clause-full
returns-clause-full c = stops_rightly

pub returns-clause-fit : goal.returns-clause-fit
returns-clause-fit c = puts_fit
