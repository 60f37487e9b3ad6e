use Rattle.std.proofs.Common.{sym, subst}
use Rattle.l1_signal.specs.Fields.{Fits, row_bits, RowsFit}
use Rattle.l1_signal.specs.L1Pre.{pre_table, pre_bits, PreFits}
use Rattle.l1_signal.proofs.pre.write_pre.Goals as goal

pub put_fields-requires-clause-fits : goal.put_fields-requires-clause-fits
unfolding PreFits RowsFit
put_fields-requires-clause-fits g c = subst (Fits pre_table) (sym c.pre_values.ensures) c.requires

pub returns-clause-ok : goal.returns-clause-ok
unfolding pre_bits row_bits
returns-clause-ok g c = rw c.pre_values.ensures at c.put_fields.ensures.ok

pub returns-clause-fault : goal.returns-clause-fault
unfolding pre_bits row_bits
returns-clause-fault g c = rw c.pre_values.ensures at c.put_fields.ensures.fault
