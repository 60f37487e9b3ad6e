use Rattle.std.proofs.Common.{arith}
use Rattle.std.proofs.lemmas.Result.{err_from_is_err_and}
use Rattle.l1_signal.proofs.PutLemmas.{fits_at, put_more, put_all, put_stops}
use Rattle.l1_signal.proofs.fields.put_fields.Goals as goal

pub put-requires-clause-fits : goal.put-requires-clause-fits
put-requires-clause-fits g c = (fits_at _ _ c.loop-i.i _ (omega arith) (omega arith) c.loop-i.invariant.fits).0

pub returns-in_err-put-clause-fault : goal.returns-in_err-put-clause-fault
returns-in_err-put-clause-fault g c =
    let p = err_from_is_err_and c.from_residual.result c.from_residual.ensures.1 in
    rw (p.1, p.2)
    (put_stops c.stops_law.ensures.here c.stops_law.ensures.later _ _ c.loop-i.i _ c.in_err-put.field-0.0 _ _ _
    c.loop-i.invariant (omega arith) (omega arith)
    c.in_err-put.ensures.fault c.in_err-put.ensures.err)

pub loop-i-preserved : goal.loop-i-preserved
loop-i-preserved g c = put_more c.puts_law.ensures _ _ c.loop-i.i _ _ _ _ c.loop-i.invariant (omega arith)
    (omega arith) c.in_ok-put.ensures.ok

pub returns-clause-ok : goal.returns-clause-ok
returns-clause-ok g c = put_all _ _ c.loop-i.i _ _ c.loop-i.invariant (omega arith)
