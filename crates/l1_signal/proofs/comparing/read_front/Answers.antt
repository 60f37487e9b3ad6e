use Rattle.std.proofs.Common.{refl}
use Rattle.std.proofs.lemmas.Result.{err_from_is_err_and}
use Rattle.l1_signal.specs.Comparing.{front_read}
use Rattle.l1_signal.proofs.comparing.read_front.Goals as goal

pub returns-in_err-read_fields-clause-fault : goal.returns-in_err-read_fields-clause-fault
unfolding front_read
returns-in_err-read_fields-clause-fault g c =
    let p = err_from_is_err_and c.from_residual.result c.from_residual.ensures.1 in
    rw (p.1, p.2, c.in_err-read_fields.ensures.fault) refl

pub returns-in_err-read_fields-2-clause-fault : goal.returns-in_err-read_fields-2-clause-fault
unfolding front_read
returns-in_err-read_fields-2-clause-fault g c =
    let p = err_from_is_err_and c.from_residual-in_err-read_fields-2.result
    c.from_residual-in_err-read_fields-2.ensures.1 in
    rw (p.1, p.2, c.in_ok-read_fields.ensures.ok, c.in_err-read_fields-2.ensures.fault) refl

pub returns-clause-ok : goal.returns-clause-ok
unfolding front_read
returns-clause-ok g c = rw (c.in_ok-read_fields.ensures.ok, c.in_ok-read_fields-2.ensures.ok) refl
