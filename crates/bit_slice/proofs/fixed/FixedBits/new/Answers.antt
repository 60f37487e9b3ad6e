use Rattle.std.proofs.Common.{refl, arith}
use Rattle.bit_slice.proofs.fixed.FixedBits.new.Goals as goal

pub invariant_of-result : goal.invariant_of-result
invariant_of-result g c = (omega arith, c.requires, refl)
