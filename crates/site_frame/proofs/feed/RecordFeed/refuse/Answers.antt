use Rattle.std.proofs.Common.{refl}
use Rattle.site_frame.proofs.FeedLemmas.{refused}
use Rattle.site_frame.proofs.feed.RecordFeed.refuse.Goals as goal

pub returns-clause-stands : goal.returns-clause-stands
returns-clause-stands c = λ views came ended s.
    refused c.args.self.now _ views came ended c.args.why c.requires.whole refl refl refl
    (c.args.self.now.whole c.requires.whole)
    c.requires.refuses s
