use Rattle.scheduler.proofs.ShapeLemmas.{shape_fits}
use Rattle.scheduler.proofs.laws.field_law.Goals as goal

pub returns : goal.returns
returns c = shape_fits
