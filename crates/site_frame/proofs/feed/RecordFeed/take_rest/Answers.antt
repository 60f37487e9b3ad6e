use Rattle.std.proofs.Common.{take, rules, refl, arith}
use Rattle.std.proofs.lemmas.List.{length-take-le}
use Rattle.site_frame.proofs.FeedLemmas.{rest_part, rest_whole}
use Rattle.site_frame.proofs.feed.RecordFeed.take_rest.Goals as goal

pub returns-then-self-eq0-clause-stands : goal.returns-then-self-eq0-clause-stands
returns-then-self-eq0-clause-stands c = λ views came ended s.
    let size = length-take-le c.min-count.result c.args.bytes.now (search (rules, arith)) in
    rest_whole c.args.self.now _ views came (take c.min-count.result c.args.bytes.now) ended c.requires.coming refl
    (omega (arith, size)) refl (search rules) (search (rules, arith, size)) s

pub returns-else-self-eq0-clause-stands : goal.returns-else-self-eq0-clause-stands
returns-else-self-eq0-clause-stands c = λ views came ended s.
    let size = length-take-le c.min-count.result c.args.bytes.now (search (rules, arith)) in
    rest_part c.args.self.now _ views came (take c.min-count.result c.args.bytes.now) ended c.requires.coming refl
    (omega (arith, size)) refl (search rules) (search (rules, arith, size)) s
