use Rattle.std.proofs.Common.{arith}
use Rattle.l1_signal.proofs.FitLemmas.{conf_numbers_fit}
use Rattle.l1_signal.proofs.values.conf_with.Goals as goal

pub returns-clause-fits : goal.returns-clause-fits
returns-clause-fits c =
    rw c.len.ensures (conf_numbers_fit c.args.sub_slices c.args.frequency c.args.plps c.requires.sub_slices
    (omega arith) c.requires.plps.0 c.requires.plps.1 c.requires.fits)
