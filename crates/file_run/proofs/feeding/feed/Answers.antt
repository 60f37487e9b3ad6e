use Rattle.std.proofs.Common.{rules, ap, length, ◌∙◌}
use Rattle.file_run.specs.Reading.{Reading}
use Rattle.file_run.proofs.FeedLemmas.{finished, none_since, fed_by, ended_by}
use Rattle.file_run.proofs.feeding.feed.Goals as goal

pub returns-then-branch-clause-feeds : goal.returns-then-branch-clause-feeds
returns-then-branch-clause-feeds g c =
    let none = none_since _ _ _ _ _ c.note_before_read.ensures c.read_until.ensures.none in
    fed_by _ _ _ _ _ _ c.read_until.new.self _ _ c.feed-count.result _ c.as_bytes.ensures c.feed-count.ensures.some.1
    none c.requires.is_open c.read_until.ensures.reads.handle (search rules) c.skip.ensures.taken
    c.feed-count.ensures.becomes

pub returns-else-branch-clause-feeds : goal.returns-else-branch-clause-feeds
returns-else-branch-clause-feeds g c =
    let none = none_since _ _ _ _ _ c.note_before_read.ensures c.read_until.ensures.none in
    ended_by _ _ _ _ _ _ c.read_until.new.self _ _ _ _ c.as_bytes-else-branch.ensures
    (ap length c.as_bytes-count.ensures) none c.read_until.ensures.reads.handle (search rules)
    (c.finish.ensures ∙ ap (λ (r : Reading). finished r) c.skip-else-branch.ensures.taken) c.end_input.ensures.becomes
