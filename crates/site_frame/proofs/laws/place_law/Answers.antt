use Rattle.site_frame.proofs.PlaceLemmas.{one_frame}
use Rattle.site_frame.proofs.laws.place_law.Goals as goal

pub returns : goal.returns
returns c = one_frame c.emission_law.ensures.differ
