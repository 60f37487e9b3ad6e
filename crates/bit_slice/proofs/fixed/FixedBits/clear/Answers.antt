use Rattle.std.proofs.Common.{arith}
use Rattle.bit_slice.proofs.FillingLemmas.{holds_none}
use Rattle.bit_slice.proofs.fixed.FixedBits.clear.Goals as goal

pub invariant_of-self : goal.invariant_of-self
invariant_of-self g c = (omega arith, c.self.invariant.1, holds_none c.self.inside.bytes)
