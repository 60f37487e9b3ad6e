use Rattle.std.proofs.Common.{rules, refl}
use Rattle.show_run.proofs.T2miLinesLemmas.{found}
use Rattle.show_run.proofs.t2mi_lines.T2miLines.find.Goals as goal

pub returns-clause-becomes : goal.returns-clause-becomes
returns-clause-becomes c = λ start events came. found c.events_law.ensures start c.args.self.now _ events
    c.args.pid c.args.unit
    c.requires.seeks (search rules) c.requires.tells refl refl refl refl refl refl refl c.begin.ensures.stands came
