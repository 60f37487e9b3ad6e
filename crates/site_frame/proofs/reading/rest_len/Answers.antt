use Rattle.std.proofs.Common.{◌≡◌, length, arith}
use Rattle.std.specs.Prelude.{IfOk, IfErr}
use Rattle.site_frame.specs.Whole.{Follow, RefusesHead}
use Rattle.site_frame.proofs.HeadLemmas.{ok_follow, err_head, every_head}
use Rattle.site_frame.proofs.reading.rest_len.Goals as goal

pub returns-clause-ok : goal.returns-clause-ok
returns-clause-ok c = ok_follow c.args.head.now c.told_alone.result (λ i. omega (arith, c.fits-head i))
    (omega (arith, c.told-head)) c.told_alone.ensures.ok

pub returns-clause-every : goal.returns-clause-every
returns-clause-every c = λ more view len.
    let size : length c.args.head.now ≡ 24 = omega (arith, c.told-head) in
    let ok : IfOk c.told_alone.result (Follow c.args.head.now) =
    ok_follow c.args.head.now c.told_alone.result (λ i. omega (arith, c.fits-head i)) size c.told_alone.ensures.ok in
    let err : IfErr c.told_alone.result (RefusesHead c.args.head.now) =
    err_head c.args.head.now c.told_alone.result size c.told_alone.ensures.wrong in
    every_head c.args.head.now c.told_alone.result ok err more view len

pub returns-clause-err : goal.returns-clause-err
returns-clause-err c = err_head c.args.head.now c.told_alone.result (omega (arith, c.told-head))
    c.told_alone.ensures.wrong
