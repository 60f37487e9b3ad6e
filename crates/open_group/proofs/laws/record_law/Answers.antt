use Rattle.open_group.proofs.SpelledLemmas.{content_fits}
use Rattle.open_group.specs.Written.{content_view}
use Rattle.open_group.proofs.laws.record_law.Goals as goal

pub returns : goal.returns
returns e = λ c x plan ids small none.
    e.writing_law.ensures.spells (content_view c x.number x.content)
    (content_fits e.written_law.ensures.fits e.fit_law.ensures.muted e.map_test_law.ensures e.dyn_law.ensures.spelled
    e.dyn_law.ensures.len e.bit_counts_law.ensures c x.number x.content plan ids small none)
