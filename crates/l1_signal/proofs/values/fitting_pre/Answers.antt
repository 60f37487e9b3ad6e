use Rattle.std.proofs.Common.{arith}
use Rattle.l1_signal.proofs.FitLemmas.{pre_numbers_fit}
use Rattle.l1_signal.proofs.values.fitting_pre.Goals as goal

pub returns-clause-fits : goal.returns-clause-fits
returns-clause-fits c =
    pre_numbers_fit c.args.pre
    (record {
      tx_id_availability = omega arith;
      cell_id = omega arith;
      network_id = omega arith;
      t2_system_id = omega arith;
      num_t2_frames = omega arith;
    }) c.requires
