use Rattle.std.proofs.Common.{◌++◌}
use Rattle.bit_slice.proofs.written.and_slice.Given as goal

abbrev pub ghost-these : goal.ghost-these
ghost-these a = λ more. more

abbrev pub ghost-these-2 : goal.ghost-these-2
ghost-these-2 a = λ x. x.0.now.bits ++ x.1.now.bits
