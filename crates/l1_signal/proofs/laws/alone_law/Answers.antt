use Rattle.std.proofs.Common.{refl}
use Rattle.l1_signal.specs.L1Of.{conf_plp_of}
use Rattle.l1_signal.proofs.laws.alone_law.Goals as goal

pub returns : goal.returns
unfolding conf_plp_of
returns _ = λ plp alone. rw alone (refl, refl)
