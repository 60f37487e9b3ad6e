use Rattle.std.proofs.Common.{◌≡◌, map}
use Rattle.std.specs.List.{range_with_len}
use Rattle.trial_run.specs.TrialInput.{input_of, start_of}
use Rattle.trial_run.proofs.trial.draw_inputs.Given as goal

abbrev pub invariant-loop-plp : goal.invariant-loop-plp
invariant-loop-plp l =
    (map (λ input. input.items) l.inputs.items ≡ map (input_of l.plan l.frames l.fn.draws) (range_with_len 0 l.plp))
    × (l.draws ≡ start_of l.plan l.frames l.plp l.fn.draws)
