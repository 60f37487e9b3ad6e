use Rattle.std.proofs.Common.{arith, inr}
use Rattle.std.proofs.lemmas.Result.{err_from_is_err_and}
use Rattle.l1_signal.specs.L1Configurable.{conf_first, conf_more, conf_back}
use Rattle.l1_signal.proofs.ReadLemmas.{are_small, given_on}
use Rattle.l1_signal.proofs.RowLemmas.{read_fits}
use Rattle.l1_signal.proofs.ConfLemmas.{first_refused, size_refused, more_refused, plps_refused, back_refused}
use Rattle.l1_signal.proofs.ConfLemmas.{conf_done}
use Rattle.l1_signal.proofs.ConfLemmas.{read_conf_fits}
use Rattle.l1_signal.proofs.conf.read_conf.Goals as goal

pub returns-in_err-read_fields-clause-fault : goal.returns-in_err-read_fields-clause-fault
returns-in_err-read_fields-clause-fault g c =
    let p = err_from_is_err_and c.from_residual.result c.from_residual.ensures.1 in
    rw (p.1, p.2) (inr (first_refused _ _ _ c.in_err-read_fields.ensures.fault))

pub num_plp-count-requires : goal.num_plp-count-requires
num_plp-count-requires g c = are_small conf_first _ (read_fits conf_first _ _ _ c.in_ok-read_fields.ensures.ok)

pub returns-then-told-counted-clause-fault : goal.returns-then-told-counted-clause-fault
returns-then-told-counted-clause-fault g c =
    inr (size_refused _ _ _ _ _ c.in_ok-read_fields.ensures.ok (omega (arith, c.from.ensures, c.num_plp-count.ensures))
    c.if-told-counted.true)

pub returns-in_err-read_fields-2-clause-fault : goal.returns-in_err-read_fields-2-clause-fault
returns-in_err-read_fields-2-clause-fault g c =
    let p = err_from_is_err_and c.from_residual-in_err-read_fields-2.result
    c.from_residual-in_err-read_fields-2.ensures.1 in
    rw (p.1, p.2)
    (inr (more_refused _ _ _ _ _ c.in_ok-read_fields.ensures.ok
    (omega (arith, c.from.ensures, c.num_plp-count.ensures, c.if-told-counted.false))
    c.in_err-read_fields-2.ensures.fault))

pub returns-in_err-read_plps-clause-fault : goal.returns-in_err-read_plps-clause-fault
returns-in_err-read_plps-clause-fault g c =
    let p = err_from_is_err_and c.from_residual-in_err-read_plps.result c.from_residual-in_err-read_plps.ensures.1 in
    rw (p.1, p.2)
    (inr (plps_refused _ _ _ _ _ _ _ _ c.in_ok-read_fields.ensures.ok
    (omega (arith, c.from.ensures, c.num_plp-count.ensures, c.if-told-counted.false)) c.in_ok-read_fields-2.ensures.ok
    (omega (arith, c.in-Ok.ensures, c.from-2.ensures, c.num_plp-count.ensures)) c.in_err-read_plps.ensures.fault))

pub returns-in_err-read_fields-3-clause-fault : goal.returns-in_err-read_fields-3-clause-fault
returns-in_err-read_fields-3-clause-fault g c =
    let p = err_from_is_err_and c.from_residual-in_err-read_fields-3.result
    c.from_residual-in_err-read_fields-3.ensures.1 in
    rw (p.1, p.2)
    (inr (back_refused _ _ _ _ _ _ _ _ _ _ c.in_ok-read_fields.ensures.ok
    (omega (arith, c.from.ensures, c.num_plp-count.ensures, c.if-told-counted.false)) c.in_ok-read_fields-2.ensures.ok
    (omega (arith, c.in-Ok.ensures, c.from-2.ensures, c.num_plp-count.ensures)) c.in_ok-read_plps.ensures.ok
    c.in_err-read_fields-3.ensures.fault))

pub returns-in_err-read_fields-2-clause-given : goal.returns-in_err-read_fields-2-clause-given
returns-in_err-read_fields-2-clause-given g c = given_on c.read_fields.ensures.given c.read_fields-2.ensures.given

pub returns-in_default-clause-given : goal.returns-in_default-clause-given
returns-in_default-clause-given g c = given_on c.read_fields.ensures.given c.read_fields-2.ensures.given

pub returns-in_err-read_plps-clause-given : goal.returns-in_err-read_plps-clause-given
returns-in_err-read_plps-clause-given g c =
    given_on c.read_fields.ensures.given (given_on c.read_fields-2.ensures.given c.read_plps.ensures.given)

pub returns-in_err-read_fields-3-clause-given : goal.returns-in_err-read_fields-3-clause-given
returns-in_err-read_fields-3-clause-given g c =
    given_on c.read_fields.ensures.given
    (given_on c.read_fields-2.ensures.given (given_on c.read_plps.ensures.given c.read_fields-3.ensures.given))

pub returns-clause-given : goal.returns-clause-given
returns-clause-given g c =
    given_on c.read_fields.ensures.given
    (given_on c.read_fields-2.ensures.given (given_on c.read_plps.ensures.given c.read_fields-3.ensures.given))

pub conf_at-requires-clause-first : goal.conf_at-requires-clause-first
conf_at-requires-clause-first g c = are_small conf_first _ (read_fits conf_first _ _ _ c.in_ok-read_fields.ensures.ok)

pub conf_at-requires-clause-more : goal.conf_at-requires-clause-more
conf_at-requires-clause-more g c = are_small conf_more _ (read_fits conf_more _ _ _ c.in_ok-read_fields-2.ensures.ok)

pub conf_at-requires-clause-back : goal.conf_at-requires-clause-back
conf_at-requires-clause-back g c = are_small conf_back _ (read_fits conf_back _ _ _ c.in_ok-read_fields-3.ensures.ok)

pub returns-clause-ok : goal.returns-clause-ok
returns-clause-ok g c =
    conf_done _ _ _ _ _ _ _ _ _ _ _ _ c.in_ok-read_fields.ensures.ok
    (omega (arith, c.from.ensures, c.num_plp-count.ensures, c.if-told-counted.false)) c.in_ok-read_fields-2.ensures.ok
    (omega (arith, c.in-Ok.ensures, c.from-2.ensures, c.num_plp-count.ensures)) c.in_ok-read_plps.ensures.ok
    c.in_ok-read_fields-3.ensures.ok c.conf_at.ensures

pub returns-clause-fits : goal.returns-clause-fits
returns-clause-fits g c = read_conf_fits _ _ _ _ (returns-clause-ok g c)
