-- Laws of what commands do.
use Rattle.std.specs.Prelude.{◌≡◌, length}
use Rattle.ports.specs.Desk.{State, Held}
use Rattle.site_top.specs.declared.outcome.Outcome.{Outcome}
use Rattle.site_top.specs.Commands.{Command}
use Rattle.site_top.specs.Runs.{Does, AreShortFor, MustEnd, IsComplete}
use Rattle.site_top.specs.Touches.{Touches, out_of, ins_of}

-- The files that a desk holds decide how a run over them must end.
abbrev pub OneEnding : Type 0
OneEnding = (command : Command) (held : Held) (outcome other : Outcome) → MustEnd command held outcome
    → MustEnd command held other → outcome ≡ other

-- Over files that are not too long each command has an ending.
abbrev pub CommandsHaveEnding : Type 0
CommandsHaveEnding = (command : Command) (held : Held) → AreShortFor command held → (outcome : Outcome)
    × MustEnd command held outcome

-- A command that did what it does is complete.
abbrev pub Completeness : Type 0
Completeness = (command : Command) (old new : State) (outcome : Outcome) → Does command old new outcome
    → IsComplete command old new outcome

-- However a command ends, it changes no file but the one that it writes.
abbrev pub OnlyOutChanges : Type 0
OnlyOutChanges = (command : Command) (old new : State) (outcome : Outcome) → Does command old new outcome
    → Touches (out_of command) (length (ins_of command)) old new
