use Rattle.std.proofs.lemmas.Result.{err_from_is_err_and}
use Rattle.l1_signal.specs.L1Pre.{pre_table}
use Rattle.l1_signal.proofs.ReadLemmas.{are_small, given_on}
use Rattle.l1_signal.proofs.RowLemmas.{read_fits}
use Rattle.l1_signal.proofs.PreLemmas.{pre_refused, pre_done, pre_crc_refused, pre_crc_done, pre_fits}
use Rattle.l1_signal.proofs.pre.read_pre.Goals as goal

pub returns-in_err-read_fields-clause-fault : goal.returns-in_err-read_fields-clause-fault
returns-in_err-read_fields-clause-fault g c =
    let p = err_from_is_err_and c.from_residual.result c.from_residual.ensures.1 in
    rw (p.1, p.2) (pre_refused c.args.with_crc _ _ c.in_err-read_fields.ensures.fault)

pub pre_at-pre-requires : goal.pre_at-pre-requires
pre_at-pre-requires g c = are_small pre_table _ (read_fits pre_table _ _ _ c.in_ok-read_fields.ensures.ok)

pub returns-then-not-with_crc-clause-ok : goal.returns-then-not-with_crc-clause-ok
returns-then-not-with_crc-clause-ok g c =
    pre_done c.args.with_crc _ _ _ _ c.if-not-with_crc.true c.in_ok-read_fields.ensures.ok c.pre_at-pre.ensures

pub returns-then-not-with_crc-clause-fits : goal.returns-then-not-with_crc-clause-fits
returns-then-not-with_crc-clause-fits g c = pre_fits _ _ _ _ c.in_ok-read_fields.ensures.ok c.pre_at-pre.ensures

pub pre_crc-requires : goal.pre_crc-requires
pre_crc-requires g c = read_fits pre_table _ _ _ c.in_ok-read_fields.ensures.ok

pub returns-in_err-read_crc-clause-fault : goal.returns-in_err-read_crc-clause-fault
returns-in_err-read_crc-clause-fault g c =
    let p = err_from_is_err_and c.from_residual-in_err-read_crc.result c.from_residual-in_err-read_crc.ensures.1 in
    rw (p.1, p.2)
    (pre_crc_refused c.args.with_crc _ _ _ _ _ c.if-not-with_crc.false c.in_ok-read_fields.ensures.ok c.pre_crc.ensures
    c.in_err-read_crc.ensures.fault)

pub returns-in_err-read_crc-clause-given : goal.returns-in_err-read_crc-clause-given
returns-in_err-read_crc-clause-given g c = given_on c.read_fields.ensures.given c.read_crc.ensures.given

pub returns-clause-ok : goal.returns-clause-ok
returns-clause-ok g c =
    pre_crc_done c.args.with_crc _ _ _ _ _ _ c.if-not-with_crc.false c.in_ok-read_fields.ensures.ok c.pre_at-pre.ensures
    c.pre_crc.ensures c.in_ok-read_crc.ensures.ok

pub returns-clause-fits : goal.returns-clause-fits
returns-clause-fits g c = pre_fits _ _ _ _ c.in_ok-read_fields.ensures.ok c.pre_at-pre.ensures

pub returns-clause-given : goal.returns-clause-given
returns-clause-given g c = given_on c.read_fields.ensures.given c.read_crc.ensures.given
