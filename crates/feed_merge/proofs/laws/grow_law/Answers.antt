use Rattle.feed_merge.proofs.GrowLemmas.{picks_grow}
use Rattle.feed_merge.proofs.laws.grow_law.Goals as goal

pub returns : goal.returns
returns c = picks_grow
