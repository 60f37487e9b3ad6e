use Rattle.std.proofs.Common.{ℕ, ◌<◌, get_or, arith}
use Rattle.ts_packet.proofs.SpellingLemmas.{ok_spelled}
use Rattle.ts_packet.proofs.LawLemmas.{every_read}
use Rattle.ts_packet.proofs.view.read.Goals as goal

pub returns-clause-ok : goal.returns-clause-ok
returns-clause-ok c =
    let small : (k : ℕ) → get_or c.args.bytes.now k 0 < 256 = λ k. omega (arith, c.fits-bytes k) in
    ok_spelled c.args.bytes.now c.parse.result (omega arith) small c.parse.ensures.ok

pub returns-clause-every : goal.returns-clause-every
returns-clause-every c = every_read c.args.bytes.now c.parse.result c.parse.ensures.ok c.parse.ensures.err
