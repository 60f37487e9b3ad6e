use Rattle.std.proofs.Common.{arith}
use Rattle.site_frame.proofs.WholeLemmas.{ok_begun, err_refused, every_read}
use Rattle.site_frame.proofs.LawLemmas.{refusal_told}
use Rattle.site_frame.proofs.reading.read_record.Goals as goal

pub returns-clause-ok : goal.returns-clause-ok
returns-clause-ok c = ok_begun c.args.bytes.now c.parse.result (λ i. omega (arith, c.type_inv.bytes i))
    c.parse.ensures.ok

pub returns-clause-every : goal.returns-clause-every
returns-clause-every c = λ view len. every_read c.args.bytes.now c.parse.result view len c.parse.ensures.ok
    c.parse.ensures.err

pub returns-clause-err : goal.returns-clause-err
returns-clause-err c = err_refused c.args.bytes.now c.parse.result c.parse.ensures.err

pub returns-clause-refused : goal.returns-clause-refused
returns-clause-refused c = λ why.
    refusal_told c.args.bytes.now c.parse.result why
    (ok_begun c.args.bytes.now c.parse.result (λ i. omega (arith, c.type_inv.bytes i)) c.parse.ensures.ok)
    (err_refused c.args.bytes.now c.parse.result c.parse.ensures.err)
