use Rattle.std.proofs.Common.{◌∙◌, arith}
use Rattle.std.proofs.lemmas.Result.{err_from_is_err_and}
use Rattle.l1_signal.proofs.PutLemmas.{narrow_more}
use Rattle.l1_signal.proofs.ReadLemmas.{next_field, stopped_field, all_fields, given_on}
use Rattle.l1_signal.proofs.fields.read_fields.Goals as goal

pub returns-in_err-out-clause-fault : goal.returns-in_err-out-clause-fault
returns-in_err-out-clause-fault g c =
    let p = err_from_is_err_and c.from_residual.result c.from_residual.ensures.1 in
    rw (p.1, p.2) (c.loop-i.invariant.read ∙ stopped_field _ c.loop-i.i _ _ _ _ (omega arith)
    c.in_err-out.ensures.fault)

pub returns-in_err-out-clause-given : goal.returns-in_err-out-clause-given
returns-in_err-out-clause-given g c = given_on c.loop-i.invariant.given c.read_field.ensures.given

pub loop-i-preserved : goal.loop-i-preserved
loop-i-preserved g c = record {
  read = c.loop-i.invariant.read ∙ next_field _ c.loop-i.i _ c.loop-i.out _ _ _ (omega arith)
      (omega arith) c.in_ok-out.ensures.ok;
  narrow = narrow_more _ c.loop-i.i c.loop-i.invariant.narrow;
  given = given_on c.loop-i.invariant.given c.read_field.ensures.given;
}

pub returns-clause-ok : goal.returns-clause-ok
returns-clause-ok g c = c.loop-i.invariant.read ∙ all_fields _ c.loop-i.i c.loop-i.out _ (omega arith) (omega arith)
