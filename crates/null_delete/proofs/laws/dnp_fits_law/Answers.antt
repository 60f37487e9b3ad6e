use Rattle.null_delete.proofs.LawLemmas.{dnp_fits}
use Rattle.null_delete.proofs.laws.dnp_fits_law.Goals as goal

pub returns : goal.returns
returns c = dnp_fits
