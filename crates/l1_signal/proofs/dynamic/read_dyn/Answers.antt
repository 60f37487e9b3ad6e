use Rattle.std.proofs.lemmas.Result.{err_from_is_err_and}
use Rattle.l1_signal.specs.L1Dynamic.{dyn_front}
use Rattle.l1_signal.proofs.ReadLemmas.{are_small, given_on}
use Rattle.l1_signal.proofs.RowLemmas.{read_fits}
use Rattle.l1_signal.proofs.DynLemmas.{front_refused, plps_refused, back_refused, dyn_done, read_dyn_fits}
use Rattle.l1_signal.proofs.dynamic.read_dyn.Goals as goal

pub returns-in_err-read_fields-clause-fault : goal.returns-in_err-read_fields-clause-fault
returns-in_err-read_fields-clause-fault g c =
    let p = err_from_is_err_and c.from_residual.result c.from_residual.ensures.1 in
    rw (p.1, p.2) (front_refused _ _ _ c.in_err-read_fields.ensures.fault)

pub returns-in_err-read_plps-clause-fault : goal.returns-in_err-read_plps-clause-fault
returns-in_err-read_plps-clause-fault g c =
    let p = err_from_is_err_and c.from_residual-in_err-read_plps.result c.from_residual-in_err-read_plps.ensures.1 in
    rw (p.1, p.2) (plps_refused _ _ _ _ _ c.in_ok-read_fields.ensures.ok c.in_err-read_plps.ensures.fault)

pub returns-in_err-read_plps-clause-given : goal.returns-in_err-read_plps-clause-given
returns-in_err-read_plps-clause-given g c = given_on c.read_fields.ensures.given c.read_plps.ensures.given

pub returns-in_err-read_fields-2-clause-fault : goal.returns-in_err-read_fields-2-clause-fault
returns-in_err-read_fields-2-clause-fault g c =
    let p = err_from_is_err_and c.from_residual-in_err-read_fields-2.result
    c.from_residual-in_err-read_fields-2.ensures.1 in
    rw (p.1, p.2)
    (back_refused _ _ _ _ _ _ _ c.in_ok-read_fields.ensures.ok c.in_ok-read_plps.ensures.ok
    c.in_err-read_fields-2.ensures.fault)

pub returns-in_err-read_fields-2-clause-given : goal.returns-in_err-read_fields-2-clause-given
returns-in_err-read_fields-2-clause-given g c =
    given_on c.read_fields.ensures.given (given_on c.read_plps.ensures.given c.read_fields-2.ensures.given)

pub set_front-requires : goal.set_front-requires
set_front-requires g c = are_small dyn_front _ (read_fits dyn_front _ _ _ c.in_ok-read_fields.ensures.ok)

pub returns-clause-ok : goal.returns-clause-ok
returns-clause-ok g c =
    dyn_done _ _ _ _ _ _ _ _ _ c.in_ok-read_fields.ensures.ok c.in_ok-read_plps.ensures.ok
    c.in_ok-read_fields-2.ensures.ok
    c.set_front.ensures

pub returns-clause-fits : goal.returns-clause-fits
returns-clause-fits g c = read_dyn_fits _ _ _ _ (returns-clause-ok g c)

pub returns-clause-given : goal.returns-clause-given
returns-clause-given g c = given_on c.read_fields.ensures.given (given_on c.read_plps.ensures.given
    c.read_fields-2.ensures.given)
