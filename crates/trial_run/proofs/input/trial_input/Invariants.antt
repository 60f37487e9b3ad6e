use Rattle.std.proofs.Common.{◌≡◌}
use Rattle.trial_run.specs.TrialInput.{behind, packets_from}
use Rattle.trial_run.proofs.input.trial_input.Given as goal

abbrev pub invariant-loop-number : goal.invariant-loop-number
invariant-loop-number l = (l.input.items ≡ packets_from l.plp l.number l.fn.draws)
    × (l.draws ≡ behind l.number l.fn.draws)
