use Rattle.std.proofs.Common.{refl}
use Rattle.site_frame.proofs.FeedLemmas.{accepted}
use Rattle.site_frame.proofs.feed.RecordFeed.accept.Goals as goal

pub returns-clause-stands : goal.returns-clause-stands
returns-clause-stands c = λ views came ended view len s begins.
    accepted c.args.self.now _ views came ended view len c.requires.whole refl refl refl c.clear.ensures refl s begins
