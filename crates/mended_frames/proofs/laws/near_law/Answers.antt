use Rattle.mended_frames.proofs.MendLemmas.{made_near}
use Rattle.mended_frames.proofs.laws.near_law.Goals as goal

pub returns : goal.returns
returns c = made_near
