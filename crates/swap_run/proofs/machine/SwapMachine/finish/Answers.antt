use Rattle.std.proofs.Common.{[]}
use Rattle.swap_run.specs.declared.phase.Phase.TheVariants as phase
use Rattle.swap_run.proofs.GoLemmas.{shown_finish}
use Rattle.swap_run.proofs.NextLemmas.{drains_idle, finished_at}
use Rattle.swap_run.proofs.machine.SwapMachine.finish.Goals as goal

pub returns-clause-shown : goal.returns-clause-shown
returns-clause-shown c = λ k plp events s.
    let f = c.finish.ensures in
    shown_finish k plp events c.args.self.now s c.finish.new.self c.requires.drains c.requires.over f.stands
    f.fed (f.left []) f.status

pub finish-requires-clause-given : goal.finish-requires-clause-given
finish-requires-clause-given c = drains_idle c.args.self.now c.requires.came c.requires.drains

pub finish-requires-clause-open : goal.finish-requires-clause-open
finish-requires-clause-open c = finished_at c.args.self.now c.requires.came phase.Drains c.requires.drains
