use Rattle.plp_config.proofs.EmissionLemmas.{emission_total, emissions_differ, emission_found, emission_fits}
use Rattle.plp_config.proofs.laws.emission_law.Goals as goal

pub returns-clause-total : goal.returns-clause-total
returns-clause-total c = emission_total

pub returns-clause-differ : goal.returns-clause-differ
returns-clause-differ c = emissions_differ

pub returns-clause-found : goal.returns-clause-found
returns-clause-found c = emission_found

pub returns-clause-fits : goal.returns-clause-fits
returns-clause-fits c = emission_fits
