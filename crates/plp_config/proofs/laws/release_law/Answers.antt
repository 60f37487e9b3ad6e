use Rattle.plp_config.proofs.ReleaseLemmas.{released_by_frame}
use Rattle.plp_config.proofs.TimeLemmas.{released_first, released_old, window_holds}
use Rattle.plp_config.proofs.laws.release_law.Goals as goal

pub returns-clause-first : goal.returns-clause-first
returns-clause-first c = released_first

pub returns-clause-frame : goal.returns-clause-frame
returns-clause-frame c = released_by_frame

pub returns-clause-old : goal.returns-clause-old
returns-clause-old c = released_old

pub returns-clause-window : goal.returns-clause-window
returns-clause-window c = window_holds
