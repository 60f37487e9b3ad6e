use Rattle.std.proofs.Common.{arith, rules, refl}
use Rattle.site_frame.proofs.FeedLemmas.{no_room, begun}
use Rattle.site_frame.proofs.begin.begin_rest.Goals as goal

pub returns-then-is_err-clause-behind : goal.returns-then-is_err-clause-behind
returns-then-is_err-clause-behind c = no_room c.args.head.now c.args.rest (omega arith) c.requires

pub returns-else-rest-eq0-clause-behind : goal.returns-else-rest-eq0-clause-behind
returns-else-rest-eq0-clause-behind c = (search rules, begun c.args.head.now c.args.rest (omega arith) c.requires, refl)
