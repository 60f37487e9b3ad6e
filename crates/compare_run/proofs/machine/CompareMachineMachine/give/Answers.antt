use Rattle.std.proofs.Common.{ℕ, List, [], ◌∷◌, ◌++◌, sym, subst}
use Rattle.file_run.specs.Events.{Gave}
use Rattle.compare_run.specs.Shown.{Shown}
use Rattle.compare_run.proofs.ShownLemmas.{has_shown}
use Rattle.compare_run.proofs.machine.CompareMachineMachine.give.Goals as goal

pub go_on-line-requires-clause-came : goal.go_on-line-requires-clause-came
go_on-line-requires-clause-came c = has_shown _ c.requires.came

pub returns-clause-becomes : goal.returns-clause-becomes
returns-clause-becomes c = λ start events s.
    subst (λ (l : List ℕ). Shown start.plan.now (events ++ Gave l ∷ []) c.go_on-line.new.self)
    (sym c.copy_line.ensures.bytes)
    (c.go_on-line.ensures.shown _ events s)
