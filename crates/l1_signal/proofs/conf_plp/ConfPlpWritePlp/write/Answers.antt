use Rattle.std.proofs.Common.{sym, subst}
use Rattle.l1_signal.specs.Fields.{Fits, row_bits, RowsFit}
use Rattle.l1_signal.specs.L1Configurable.{conf_plp}
use Rattle.l1_signal.proofs.conf_plp.ConfPlpWritePlp.write.Goals as goal

pub put_fields-requires-clause-fits : goal.put_fields-requires-clause-fits
unfolding RowsFit
put_fields-requires-clause-fits g c = subst (Fits conf_plp) (sym c.conf_plp_values.ensures) c.requires

pub returns-clause-ok : goal.returns-clause-ok
unfolding row_bits
returns-clause-ok g c = rw c.conf_plp_values.ensures at c.put_fields.ensures.ok

pub returns-clause-fault : goal.returns-clause-fault
unfolding row_bits
returns-clause-fault g c = rw c.conf_plp_values.ensures at c.put_fields.ensures.fault
