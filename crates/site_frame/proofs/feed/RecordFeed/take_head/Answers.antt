use Rattle.std.proofs.Common.{take, rules, refl, ◌∙◌, arith}
use Rattle.std.proofs.lemmas.List.{length-take-le}
use Rattle.site_frame.proofs.FeedLemmas.{head_part, head_whole}
use Rattle.site_frame.proofs.feed.RecordFeed.take_head.Goals as goal

pub returns-then-self-eq0-clause-stands : goal.returns-then-self-eq0-clause-stands
returns-then-self-eq0-clause-stands c = λ views came ended s.
    let f = c.args.self.now in
    let size = length-take-le c.take-count.result c.args.bytes.now (search (rules, arith)) in
    head_whole f _ views came (take c.take-count.result c.args.bytes.now) c.whole-head.result ended c.requires.coming
    (omega (arith, size)) refl c.clear.ensures (c.whole-head.ensures ∙ c.take-count.ensures.took)
    c.begin-coming.ensures.behind s

pub returns-else-self-eq0-clause-stands : goal.returns-else-self-eq0-clause-stands
returns-else-self-eq0-clause-stands c = λ views came ended s.
    let f = c.args.self.now in
    let size = length-take-le c.take-count.result c.args.bytes.now (search (rules, arith)) in
    let lacks = (f.lacks c.requires.coming).1 in
    head_part f _ views came (take c.take-count.result c.args.bytes.now) ended c.requires.coming refl
    (omega (arith, size)) refl c.take-count.ensures.took (omega (arith, size, lacks)) s
