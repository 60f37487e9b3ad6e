use Rattle.std.proofs.Common.{Ok, ap, sym, ◌∙◌}
use Rattle.std.proofs.lemmas.Result.{err_from_is_err_and}
use Rattle.l1_signal.specs.declared.dyn_plp.DynPlp.{DynPlp}
use Rattle.l1_signal.specs.Fields.{made}
use Rattle.l1_signal.specs.L1Dynamic.{dyn_plp, dyn_plp_at, dyn_plp_read}
use Rattle.l1_signal.proofs.ReadLemmas.{are_small}
use Rattle.l1_signal.proofs.RowLemmas.{read_fits}
use Rattle.l1_signal.proofs.dyn_plp.DynPlpReadPlp.read.Goals as goal

pub returns-in_err-read_fields-clause-fault : goal.returns-in_err-read_fields-clause-fault
unfolding dyn_plp_read
returns-in_err-read_fields-clause-fault g c =
    let p = err_from_is_err_and c.from_residual.result c.from_residual.ensures.1 in
    rw (p.1, p.2) (ap (made dyn_plp_at) c.in_err-read_fields.ensures.fault)

pub dyn_plp_at-requires : goal.dyn_plp_at-requires
dyn_plp_at-requires g c = are_small dyn_plp _ (read_fits dyn_plp _ _ _ c.in_ok-read_fields.ensures.ok)

pub returns-clause-ok : goal.returns-clause-ok
unfolding dyn_plp_read
returns-clause-ok g c =
    ap (made dyn_plp_at) c.in_ok-read_fields.ensures.ok
    ∙ ap (λ (plp : DynPlp). Ok (plp, g.R.BitSource.left c.read_fields.new.source)) (sym c.dyn_plp_at.ensures)
