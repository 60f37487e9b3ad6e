use Rattle.std.proofs.Common.{◌≡◌, ◌++◌}
use Rattle.trial_run.specs.Draws.{after}
use Rattle.trial_run.specs.TrialInput.{bytes_from}
use Rattle.trial_run.proofs.input.push_payload.Given as goal

abbrev pub invariant-loop : goal.invariant-loop
invariant-loop l = (l.input.items ≡ l.fn.input.items ++ bytes_from l.counter l.fn.draws)
    × (l.draws ≡ after l.counter l.fn.draws)
