use Rattle.spaced_frames.proofs.NearLemmas.{spaced_near}
use Rattle.spaced_frames.proofs.laws.spaced_law.Goals as goal

pub returns : goal.returns
returns c = spaced_near
