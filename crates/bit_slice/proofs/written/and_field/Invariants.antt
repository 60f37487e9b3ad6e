use Rattle.std.proofs.Common.{◌++◌}
use Rattle.terms.specs.Bits.{field}
use Rattle.bit_slice.proofs.written.and_field.Given as goal

abbrev pub ghost-these : goal.ghost-these
ghost-these a = λ x. x.0.now.bits ++ field x.2 x.1
