use Rattle.mended_frames.proofs.MendLemmas.{made_rise}
use Rattle.mended_frames.proofs.laws.rise_law.Goals as goal

pub returns : goal.returns
returns c = made_rise
