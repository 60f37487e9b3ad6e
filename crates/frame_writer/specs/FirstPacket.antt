-- Which packet of a frame comes first, and which ones follow (ETSI TS 102 773, clause 5).
use Rattle.std.specs.Prelude.{ℕ, ◌%◌, ◌==◌, List, [], ◌∷◌, if◌then◌else◌}
use Rattle.plp_config.specs.declared.config.Config.{Config}
use Rattle.t2mi_packet.specs.declared.packet.Body.{Body}
use Rattle.t2mi_packet.specs.declared.packet.Body.TheVariants.{Timestamp}
use Rattle.frame_writer.specs.FramePackets.{stamp_of}
use Rattle.frame_writer.specs.declared.step.FrameStep.{FrameStep}
use Rattle.frame_writer.specs.declared.step.FrameStep.TheVariants.{Stamp, Signal, Blocks, Over}

-- which packet of frame n comes first
abbrev pub first_step : Config → ℕ → FrameStep
first_step c n = if n % c.frames == 0 then Stamp else Signal

-- what comes from a step on
abbrev pub from_step : Config → ℕ → FrameStep → Body → List Body → List Body
from_step c n Stamp signal rest = Timestamp (stamp_of c n) ∷ signal ∷ rest
from_step c n Signal signal rest = signal ∷ rest
from_step c n Blocks signal rest = rest
from_step c n Over signal rest = []
