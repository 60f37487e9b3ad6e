use Rattle.std.proofs.Common.{rules, refl}
use Rattle.show_run.proofs.T2miEndLemmas.{ended}
use Rattle.show_run.proofs.t2mi_lines.T2miLinesMachine.end_input.Goals as goal

pub returns-clause-becomes : goal.returns-clause-becomes
returns-clause-becomes c =
    λ start events came. ended c.events_law.ensures c.first_pid_law.ensures.none c.first_pid_law.ensures.behind start
    c.args.self.now _ events c.args._input c.args.bytes.now c.requires.wanted (search rules)
    c.released_law.ensures refl refl refl c.count_line-self.ensures.text came
