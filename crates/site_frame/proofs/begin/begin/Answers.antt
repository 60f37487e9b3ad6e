use Rattle.std.proofs.Common.{arith}
use Rattle.site_frame.proofs.FeedLemmas.{refused_head}
use Rattle.site_frame.proofs.begin.begin.Goals as goal

pub returns-in-Err-clause-behind : goal.returns-in-Err-clause-behind
returns-in-Err-clause-behind c = refused_head c.args.head.now c.in-Err.why (omega arith) c.in-Err.ensures.err
