-- What `trial SEED FRAMES` does, up to its last line.
use Rattle.std.specs.Prelude.{◌≡◌, ◌⊎◌, ℕ, List}
use Rattle.ports.specs.Desk.{State}
use Rattle.trial_run.specs.Network.{trial_config}
use Rattle.trial_run.specs.Trial.{IsTrialText}
use Rattle.trial_run.specs.declared.stop.TrialStop.{TrialStop}
use Rattle.site_top.specs.declared.outcome.Outcome.{Outcome}
use Rattle.site_top.specs.Outcomes.{trial_outcome}
use Rattle.site_top.specs.Saying.{Tells}

-- The lines of the trial are told; or memory ran out, or a run of the trial ended otherwise than it must, and nothing
-- was done.
abbrev pub Tries : State → State → ℕ → ℕ → Outcome → Type 0
Tries old new seed frames outcome =
    ((stop : TrialStop) × (new ≡ old) × (outcome ≡ trial_outcome stop))
    ⊎ ((text : List ℕ) × IsTrialText trial_config frames seed text × Tells old new text outcome)
