use Rattle.frame_weave.proofs.LawLemmas.{stood_placed, of_frame}
use Rattle.frame_weave.proofs.laws.placed_law.Goals as goal

pub returns-clause-stood : goal.returns-clause-stood
returns-clause-stood e = stood_placed

pub returns-clause-frame : goal.returns-clause-frame
returns-clause-frame e = of_frame
