use Rattle.compare_run.proofs.NoteLemmas.{brings_or}
use Rattle.compare_run.proofs.taking.note.Goals as goal

pub returns-clause-stands : goal.returns-clause-stands
returns-clause-stands c = λ same_a same_b ga gb stands a b none_a none_b between_a between_b.
    let first = c.shown_at-first.ensures in
    let second = c.shown_at-second.ensures in
    c.note.ensures.stands ga gb stands
    (brings_or c.args.plan.now c.args.a.now c.shown_at-first.result c.args.number ga same_a a first.brings
    first.none none_a)
    (brings_or c.args.plan.now c.args.b.now c.shown_at-second.result c.args.number gb same_b b second.brings
    second.none none_b)
    between_a between_b
