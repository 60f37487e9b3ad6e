use Rattle.std.proofs.Common.{sym, subst}
use Rattle.std.specs.Prelude.{IsSome}
use Rattle.swap_run.proofs.NextLemmas.{packets_waits}
use Rattle.swap_run.proofs.machine.SwapMachine.go_on.Goals as goal

pub unwrap-waiting-requires : goal.unwrap-waiting-requires
unwrap-waiting-requires c = subst IsSome (sym c.waiting.ensures) (packets_waits c.args.self.now c.requires.came
    c.requires.packets)
