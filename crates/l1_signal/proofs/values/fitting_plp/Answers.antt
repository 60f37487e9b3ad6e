use Rattle.std.proofs.Common.{arith}
use Rattle.l1_signal.proofs.FitLemmas.{plp_numbers_fit}
use Rattle.l1_signal.proofs.values.fitting_plp.Goals as goal

pub returns-clause-fits : goal.returns-clause-fits
returns-clause-fits c =
    plp_numbers_fit c.args.plp (record {
      plp_id = omega arith;
      plp_group_id = omega arith;
      time_il_length =
          omega arith;
    })
    c.requires
