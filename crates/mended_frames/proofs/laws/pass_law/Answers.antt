use Rattle.mended_frames.proofs.MendLemmas.{made_pass}
use Rattle.mended_frames.proofs.laws.pass_law.Goals as goal

pub returns : goal.returns
returns c = made_pass
