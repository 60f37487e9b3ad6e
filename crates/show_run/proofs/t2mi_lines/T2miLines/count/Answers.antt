use Rattle.std.proofs.Common.{rules}
use Rattle.show_run.proofs.T2miEndLemmas.{all_given}
use Rattle.show_run.proofs.t2mi_lines.T2miLines.count.Goals as goal

pub returns-clause-all : goal.returns-clause-all
returns-clause-all c =
    λ start events least came. all_given c.first_pid_law.ensures.none c.first_pid_law.ensures.behind
    start c.args.self.now events
    least (search rules) c.released_law.ensures came
