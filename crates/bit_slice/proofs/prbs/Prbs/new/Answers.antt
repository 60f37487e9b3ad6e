use Rattle.std.proofs.Common.{refl}
use Rattle.bit_slice.specs.Prbs.{fifteen_before}
use Rattle.bit_slice.proofs.prbs.Prbs.new.Goals as goal

pub returns : goal.returns
unfolding fifteen_before
returns c = record { register = refl }
