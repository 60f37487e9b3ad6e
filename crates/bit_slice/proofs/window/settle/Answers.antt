use Rattle.std.proofs.Common.{arith}
use Rattle.bit_slice.proofs.WindowLemmas.{settled}
use Rattle.bit_slice.proofs.window.settle.Goals as goal

pub returns-clause-sums : goal.returns-clause-sums
returns-clause-sums c = settled c.args.sums.now c.copy_within.new.self c.args.at
    (omega (arith, c.requires, c.told-sums))
    c.copy_within.ensures.after
