-- Runs over desks in memory. No public clause cites this module.
use Rattle.std.specs.Prelude.{◌≡◌, ℕ, ◌<◌, List, [], ◌∷◌, codes, length, map, Some, Vec}
use Rattle.std.specs.List.{range_with_len}
use Rattle.std.specs.declared.alloc.Global.{Global}
use Rattle.ports.specs.Desk.{State, Held, bytes_of}
use Rattle.plp_config.specs.declared.config.Config.{Config}
use Rattle.ts_packet.specs.TsFile.{joined}
use Rattle.common_plp.specs.Sharing.{Apart}
use Rattle.file_run.specs.FileRun.{file_at}
use Rattle.gateway_run.specs.GatewayRun.{frames_of, units_of}
use Rattle.trial_run.specs.declared.stages.Sent.{Sent}

-- the names of the inputs of three PLPs
abbrev pub input_names : List (List ℕ)
input_names = codes "0" ∷ codes "1" ∷ codes "2" ∷ []

-- A desk has a file of this name with these bytes.
pub record HasFile (s : State) (name bytes : List ℕ) : Type 0 where
  pub held : Held
  pub holds : s.held ≡ Some held
  pub is : bytes_of held.files name ≡ bytes

-- A desk has these inputs.
pub record HasInputs (s : State) (files : ℕ → List ℕ) : Type 0 where
  pub held : Held
  pub holds : s.held ≡ Some held
  pub are : (plp : ℕ) → plp < 3 → file_at held input_names plp ≡ files plp

-- The vectors hold the bytes of the inputs of three PLPs.
abbrev pub AreFiles : (ℕ → List ℕ) → List (Vec ℕ Global) → Type 0
AreFiles files inputs = map (λ input. input.items) inputs ≡ map files (range_with_len 0 3)

-- The stream of these inputs was sent, and these are its numbers.
pub record IsSent (c : Config) (files : ℕ → List ℕ) (sent : Sent) : Type 0 where
  pub stream : sent.stream.items ≡ joined (units_of Apart c files)
  pub frames : sent.ran.frames ≡ frames_of Apart c files
  pub units : sent.ran.units ≡ length (units_of Apart c files)
