use Rattle.std.proofs.Common.{Ok, ap, sym, ◌∙◌}
use Rattle.std.proofs.lemmas.Result.{err_from_is_err_and}
use Rattle.l1_signal.specs.declared.conf_plp.ConfPlp.{ConfPlp}
use Rattle.l1_signal.specs.Fields.{made}
use Rattle.l1_signal.specs.L1Configurable.{conf_plp, conf_plp_at, conf_plp_read}
use Rattle.l1_signal.proofs.ReadLemmas.{are_small}
use Rattle.l1_signal.proofs.RowLemmas.{read_fits}
use Rattle.l1_signal.proofs.conf_plp.ConfPlpReadPlp.read.Goals as goal

pub returns-in_err-read_fields-clause-fault : goal.returns-in_err-read_fields-clause-fault
unfolding conf_plp_read
returns-in_err-read_fields-clause-fault g c =
    let p = err_from_is_err_and c.from_residual.result c.from_residual.ensures.1 in
    rw (p.1, p.2) (ap (made conf_plp_at) c.in_err-read_fields.ensures.fault)

pub conf_plp_at-requires : goal.conf_plp_at-requires
conf_plp_at-requires g c = are_small conf_plp _ (read_fits conf_plp _ _ _ c.in_ok-read_fields.ensures.ok)

pub returns-clause-ok : goal.returns-clause-ok
unfolding conf_plp_read
returns-clause-ok g c =
    ap (made conf_plp_at) c.in_ok-read_fields.ensures.ok
    ∙ ap (λ (plp : ConfPlp). Ok (plp, g.R.BitSource.left c.read_fields.new.source)) (sym c.conf_plp_at.ensures)
