use Rattle.std.proofs.Common.{◌∙◌, arith}
use Rattle.std.proofs.lemmas.Result.{err_from_is_err_and}
use Rattle.l1_signal.proofs.ReadLemmas.{given_on}
use Rattle.l1_signal.proofs.RowLemmas.{next_each, stopped_each, all_each}
use Rattle.l1_signal.proofs.rows.read_rows.Goals as goal

pub returns-in_err-rows-clause-fault : goal.returns-in_err-rows-clause-fault
returns-in_err-rows-clause-fault g c =
    let p = err_from_is_err_and c.from_residual.result c.from_residual.ensures.1 in
    rw (p.1, p.2) (c.loop-i.invariant.read ∙ stopped_each _ c.loop-i.i g.T.ReadPlp.reading _ _ _
    (omega arith) c.in_err-rows.ensures.fault)

pub returns-in_err-rows-clause-given : goal.returns-in_err-rows-clause-given
returns-in_err-rows-clause-given g c = given_on c.loop-i.invariant.given c.read.ensures.given

pub loop-i-preserved : goal.loop-i-preserved
loop-i-preserved g c = record {
  read = c.loop-i.invariant.read
      ∙ next_each _ c.loop-i.i g.T.ReadPlp.reading c.in_ok-rows.field-0 c.loop-i.rows _ _ _ (omega arith)
      (omega arith) c.in_ok-rows.ensures.ok;
  given = given_on c.loop-i.invariant.given c.read.ensures.given;
}

pub returns-clause-ok : goal.returns-clause-ok
returns-clause-ok g c = c.loop-i.invariant.read
    ∙ all_each _ c.loop-i.i g.T.ReadPlp.reading c.loop-i.rows _ (omega arith) (omega arith)
