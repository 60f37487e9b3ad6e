use Rattle.std.proofs.Common.{rules, refl}
use Rattle.show_run.proofs.T2miLinesLemmas.{passed}
use Rattle.show_run.proofs.t2mi_lines.T2miLines.pass.Goals as goal

pub returns-clause-becomes : goal.returns-clause-becomes
returns-clause-becomes c =
    λ start events came. passed c.events_law.ensures c.first_pid_law.ensures.on start c.args.self.now
    _ events c.args.unit
    c.requires.seeks (search rules) c.requires.silent refl refl refl refl refl came
