use Rattle.std.proofs.Common.{◌∙◌, arith}
use Rattle.l1_signal.specs.L1Configurable.{conf_plp_read}
use Rattle.l1_signal.proofs.RowLemmas.{all_each}
use Rattle.l1_signal.proofs.CompareLemmas.{same_plp, cut_plp, other_plp, holds, fails}
use Rattle.l1_signal.proofs.comparing.has_plps.Goals as goal

pub returns-in_default-clause-no : goal.returns-in_default-clause-no
returns-in_default-clause-no g c = λ is rest. cut_plp _ c.loop-i.i _ _ rest c.in_default.field-0 c.loop-i.invariant
    (omega arith) c.in_default.ensures.fault

pub returns-then-not-is_same-clause-no : goal.returns-then-not-is_same-clause-no
returns-then-not-is_same-clause-no g c = λ is rest. other_plp _ c.loop-i.i _ c.in-Ok.plp _ _ _ rest c.loop-i.invariant
    (omega arith) c.in-Ok.ensures.ok (fails _ c.is_same.ensures c.if-not-is_same.true)

pub loop-i-preserved : goal.loop-i-preserved
loop-i-preserved g c = c.loop-i.invariant ∙ same_plp _ c.loop-i.i _ c.in-Ok.plp _ _ (omega arith) c.in-Ok.ensures.ok
    (holds _ c.is_same.ensures c.if-not-is_same.false)

pub returns-clause-yes : goal.returns-clause-yes
returns-clause-yes g c = λ is. c.loop-i.invariant ∙ all_each _ c.loop-i.i conf_plp_read _ _ (omega arith) (omega arith)
