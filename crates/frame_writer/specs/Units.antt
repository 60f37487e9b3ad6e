-- Units of frames, one after the other.
use Rattle.std.specs.Prelude.{◌≡◌, ◌≢◌, ℕ, ◌+◌, ◌*◌, ◌≤◌, Bool, true, false, List, [], ◌++◌, length, drop}
use Rattle.plp_config.specs.declared.config.Config.{Config}
use Rattle.ts_packet.specs.TsFile.{joined}
use Rattle.ts_packet.specs.declared.sizes.TheConstants.{SIZE}
use Rattle.t2mi_packet.specs.declared.packet.Body.{Body}
use Rattle.t2mi_stream.specs.Complete.{complete_units}
use Rattle.t2mi_stream.specs.Pipe.{pipe}
use Rattle.frame_writer.specs.Flowing.{Flows, bytes_bound, gives_unit}
use Rattle.frame_writer.specs.FramePackets.{packets_from}
use Rattle.frame_writer.specs.declared.flow.Flow.{Flow}

-- These units went out: each was the next one of all, whatever packets follow, and before the end complete. Of the last
-- frame these bodies were left, and now those.
pub record Gives (c : Config) (old new : Flow) (n : ℕ) (before now : List Body) (units : List (List ℕ)) : Type 0 where
  pub flows : (all : List (ℕ × Body)) (given : ℕ) → Flows old.outlet c n before all given
      → Flows new.outlet c n now all (given + length units)
  pub next : (all : List (ℕ × Body)) (given : ℕ) → Flows old.outlet c n before all given
      → (more : List (List ℕ)) → (old.finished ≡ true → more ≡ [])
      → (later : List (List ℕ)) × (drop given (pipe c.pid (packets_from c 0 all ++ more)) ≡ units ++ later)
  pub complete : old.finished ≡ false → units ≢ [] → (all : List (ℕ × Body)) (given : ℕ)
      → Flows old.outlet c n before all given
      → given + length units ≤ length (complete_units c.pid (packets_from c 0 all))
  pub finished : new.finished ≡ old.finished
  pub less : bytes_bound new.outlet now + length units ≤ bytes_bound old.outlet before

-- None is complete: before the end all that are were given, and nothing is left of the last frame.
pub record HasCaughtUp (c : Config) (flow : Flow) (n : ℕ) (left : List Body) : Type 0 where
  pub idle : gives_unit flow.outlet ≡ false
  pub spent : left ≡ []
  pub all : flow.finished ≡ false → (all : List (ℕ × Body)) (given : ℕ) → Flows flow.outlet c n left all given
      → given ≡ length (complete_units c.pid (packets_from c 0 all))

-- The bytes are units that went out: one at least if the room ended, and else all that are complete.
pub record GivesAll (c : Config) (old new : Flow) (n : ℕ) (before now : List Body) (full : Bool) (bytes : List ℕ) :
    Type 0 where
  pub units : List (List ℕ)
  pub bytes_are : bytes ≡ joined units
  pub size : length bytes ≡ SIZE * length units
  pub gives : Gives c old new n before now units
  pub some : full ≡ true → units ≢ []
  pub caught : full ≡ false → HasCaughtUp c new n now
