use Rattle.std.proofs.Common.{arith, subst, sym}
use Rattle.std.proofs.lemmas.Result.{err_from_is_err_and}
use Rattle.l1_signal.proofs.PartLemmas.{begun, one_put, all_put, one_stops}
use Rattle.l1_signal.proofs.rows.write_plps.Goals as goal

pub loop-i-init : goal.loop-i-init
loop-i-init g c = begun g.T.WritePlp.bits _ _

pub write-requires : goal.write-requires
write-requires g c =
    subst g.T.WritePlp.fits (sym c.index-rows-i.is) (c.requires c.loop-i.i c.index-rows-i.result (omega arith))

pub returns-in_err-write-clause-fault : goal.returns-in_err-write-clause-fault
returns-in_err-write-clause-fault g c =
    let p = err_from_is_err_and c.from_residual.result c.from_residual.ensures.1 in
    rw (p.1, p.2)
    (one_stops c.stops_law.ensures.early c.stops_law.ensures.later
    g.T.WritePlp.bits _ c.loop-i.i c.index-rows-i.result c.in_err-write.field-0.0 _ _ _ c.loop-i.invariant (omega arith)
    c.index-rows-i.is c.in_err-write.ensures.fault)

pub loop-i-preserved : goal.loop-i-preserved
loop-i-preserved g c = one_put c.puts_law.ensures g.T.WritePlp.bits _ c.loop-i.i c.index-rows-i.result
    _ _ _ c.loop-i.invariant
    (omega arith) c.index-rows-i.is c.in_ok-write.ensures.ok

pub returns-clause-ok : goal.returns-clause-ok
returns-clause-ok g c = all_put g.T.WritePlp.bits _ c.loop-i.i _ _ c.loop-i.invariant (omega arith)
