use Rattle.std.proofs.Common.{arith}
use Rattle.site_top.proofs.RequestLemmas.{named}
use Rattle.site_top.proofs.command_line.number_named.Goals as goal

pub returns-clause-named : goal.returns-clause-named
returns-clause-named c =
    named c.args.word.now c.as_bytes.result.now c.args.least c.args.most c.number_within.result
    (omega (arith, c.ranges.most.fits)) c.as_bytes.ensures.value c.number_within.ensures.some
    c.number_within.ensures.none
