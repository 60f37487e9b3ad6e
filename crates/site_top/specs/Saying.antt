-- How a text is said that is all that a command says.
use Rattle.std.specs.Prelude.{List, ℕ}
use Rattle.ports.specs.Desk.{State, SameCounts, Keeps, Says}
use Rattle.file_run.specs.Faults.{WritesFail}
use Rattle.site_top.specs.declared.outcome.Outcome.{Outcome}
use Rattle.site_top.specs.declared.outcome.Outcome.TheVariants.{Done, WriteFault}

-- The text was said, and no call failed; or nothing was, and saying it failed.
abbrev pub Tells : State → State → List ℕ → Outcome → Type 0
Tells old new text Done = Says old new text × SameCounts old new
Tells old new text WriteFault = Keeps old new × WritesFail old new
Tells old new text outcome = ⊥
