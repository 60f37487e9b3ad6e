use Rattle.site_frame.proofs.FeedLemmas.{within, none_waits}
use Rattle.site_frame.proofs.feed_laws.stands_law.Goals as goal

pub returns-clause-within : goal.returns-clause-within
returns-clause-within c = within

pub returns-clause-none : goal.returns-clause-none
returns-clause-none c = none_waits c.refusal_law.ensures.never
