use Rattle.std.proofs.Common.{rules, refl, arith, take}
use Rattle.std.proofs.lemmas.List.{length-take-le}
use Rattle.show_run.proofs.T2miLinesLemmas.{unpiped, held_none}
use Rattle.show_run.proofs.t2mi_lines.T2miLines.unpipe.Goals as goal

pub returns-clause-becomes : goal.returns-clause-becomes
returns-clause-becomes c = λ start events came. unpiped c.events_law.ensures c.accepted_front_law.ensures
    c.events_push_law.ensures start
    c.args.self.now _ events (take c.feed-count.result c.args.bytes.now) c.requires.unpipes
    (held_none c.args.self.now (search rules) c.requires.all) refl
    (let n = length-take-le c.feed-count.result c.args.bytes.now c.feed-count.ensures.inside in omega (arith, n))
    refl refl refl
    refl refl c.feed-count.ensures.stands came
