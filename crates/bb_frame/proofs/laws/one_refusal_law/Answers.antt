use Rattle.bb_frame.proofs.ReadLemmas.{refused_once}
use Rattle.bb_frame.proofs.laws.one_refusal_law.Goals as goal

pub returns : goal.returns
returns c = refused_once
