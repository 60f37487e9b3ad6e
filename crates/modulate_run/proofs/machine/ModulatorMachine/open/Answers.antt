use Rattle.std.proofs.Common.{refl}
use Rattle.modulate_run.proofs.MachineLemmas.{shown_opened}
use Rattle.modulate_run.proofs.machine.ModulatorMachine.open.Goals as goal

pub returns-clause-becomes : goal.returns-clause-becomes
returns-clause-becomes c = (
  refl,
  shown_opened _ refl refl c.in_ok-modulator.ensures.fed c.in_ok-modulator.ensures.stands
      (c.waiting-waiting.ensures.some, c.waiting-waiting.ensures.none),
)
