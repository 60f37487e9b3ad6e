use Rattle.std.proofs.Common.{[]}
use Rattle.bit_slice.proofs.written.none.Given as goal

abbrev pub ghost-these : goal.ghost-these
ghost-these a = λ _. []
