use Rattle.std.proofs.Common.{refl, length-append}
use Rattle.terms.proofs.BitLemmas.{length-field}
use Rattle.l1_signal.specs.Fields.{row_bits, spelling}
use Rattle.l1_signal.specs.L1Pre.{pre_rows, pre_bits, PreFits, PreSpells}
use Rattle.l1_signal.proofs.PreLemmas.{pre_read_back, pre_was_spelled}
use Rattle.l1_signal.proofs.RowLemmas.{written_spells, length-spells}
use Rattle.l1_signal.proofs.laws.pre_law.Goals as goal

pub returns-clause-back : goal.returns-clause-back
returns-clause-back c = pre_read_back c.crc32_law.ensures

pub returns-clause-spelled : goal.returns-clause-spelled
returns-clause-spelled c = pre_was_spelled

pub returns-clause-written : goal.returns-clause-written
unfolding PreFits PreSpells pre_bits
returns-clause-written c = written_spells pre_rows

pub returns-clause-len : goal.returns-clause-len
unfolding PreSpells
returns-clause-len c = length-spells pre_rows

pub returns-clause-bits : goal.returns-clause-bits
unfolding pre_bits row_bits spelling
returns-clause-bits c pre = simp (length-append, length-field) refl
