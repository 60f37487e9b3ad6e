-- What the copying machine was fed. No public clause cites this module.
use Rattle.std.specs.Prelude.{◌≡◌, ℕ, nat_lt, Bool, List, length, if◌then◌else◌}
use Rattle.file_run.specs.Events.{Event, fed, has_ended}
use Rattle.file_run.specs.declared.machine.Step.{Step}
use Rattle.file_run.specs.declared.machine.Step.TheVariants.{Read, Give, End}

abbrev pub copy_next : ℕ → Bool → Step
copy_next len ended = if nat_lt 0 len then Give else (if ended then End else Read 0 1 4096)

-- It took so many bytes of its input, and knows whether that ended.
pub record Copies (events : List Event) (taken : ℕ) (ended : Bool) : Type 0 where
  pub count : taken ≡ length (fed 0 events)
  pub end : ended ≡ has_ended 0 events
