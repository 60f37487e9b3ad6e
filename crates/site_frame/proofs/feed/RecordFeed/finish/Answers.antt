use Rattle.std.proofs.Common.{rules, refl}
use Rattle.site_frame.proofs.FeedLemmas.{ends_in_rest}
use Rattle.site_frame.proofs.feed.RecordFeed.finish.Goals as goal

pub returns-then-eq-clause-stands : goal.returns-then-eq-clause-stands
returns-then-eq-clause-stands c = λ views came ended s.
    ends_in_rest c.args.self.now _ views came ended (search rules) (c.args.self.now.room (search rules)).0
    refl refl refl s
