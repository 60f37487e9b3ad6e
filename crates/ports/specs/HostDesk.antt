-- A desk over real files at its start.
use Rattle.std.specs.Prelude.{[], None}
use Rattle.ports.specs.Counts.{no_faults}
use Rattle.ports.specs.Desk.{State}

-- a desk that tells nothing, on which nothing was done
abbrev pub untold_state : State
untold_state = record { held = None; said = None; opened = []; ended = []; created = 0; counts = no_faults }
