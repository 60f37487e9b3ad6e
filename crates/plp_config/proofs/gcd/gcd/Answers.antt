use Rattle.std.proofs.Common.{arith}
use Rattle.std.proofs.lemmas.Nat.Gcd.{IsGcd-from_zero, IsGcd-from_mod}
use Rattle.plp_config.proofs.gcd.gcd.Goals as goal

pub loop-smaller-preserved : goal.loop-smaller-preserved
loop-smaller-preserved c = (omega arith, λ g h. c.loop-smaller.invariant.1 g (IsGcd-from_mod _ _ g h))

pub returns-clause-divisor : goal.returns-clause-divisor
returns-clause-divisor c = c.loop-smaller.invariant.1 _ (IsGcd-from_zero _ _ (omega arith))
