use Rattle.feed_merge.proofs.EventLemmas.{first_ended, second_ended}
use Rattle.feed_merge.proofs.StepLemmas.{short_by, first_wanted, second_wanted}
use Rattle.feed_merge.proofs.feeding.end_one.Goals as goal

pub returns-then-input-eq0-clause-go_on : goal.returns-then-input-eq0-clause-go_on
returns-then-input-eq0-clause-go_on c = λ k events next ga gb s.
    let w = short_by _ _ _ _ c.args.input _ c.requires.wanted in
    first_ended c.events_law.ensures c.due_records_law.ensures.follow k events next c.args.a.now c.args.b.now
    c.finish.new.self ga gb s
    c.args.input _ c.if-input-eq0.true w.1 (first_wanted w.0 c.if-input-eq0.true) c.finish.ensures.config
    c.finish.ensures.stands

pub returns-clause-go_on : goal.returns-clause-go_on
returns-clause-go_on c = λ k events next ga gb s.
    let w = short_by _ _ _ _ c.args.input _ c.requires.wanted in
    let other = second_wanted w.0 c.if-input-eq0.false in
    second_ended c.events_law.ensures c.due_records_law.ensures.follow k events next c.args.a.now c.args.b.now
    c.finish-2.new.self ga gb s
    c.args.input _ other.1 w.1 other.0 c.finish-2.ensures.config c.finish-2.ensures.stands
