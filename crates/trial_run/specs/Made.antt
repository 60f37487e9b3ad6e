-- What a trial makes on the way to its lines. No public clause cites this module.
use Rattle.std.specs.Prelude.{◌≡◌, ℕ, ◌+◌, ◌*◌, ◌≤◌, ◌++◌, List, length, map}
use Rattle.std.specs.List.{range_with_len}
use Rattle.modulator.specs.StandsFor.{records_of}
use Rattle.plp_config.specs.declared.config.Config.{Config}
use Rattle.file_run.specs.declared.line.TheConstants.{ROOM}
use Rattle.modulate_run.specs.Counted.{counted}
use Rattle.modulate_run.specs.ModulateRun.{output_of}
use Rattle.trial_run.specs.Stages.{IsSent}
use Rattle.trial_run.specs.Trial.{stream_of, lossy_of, IsNetworkText, ArePlpLines}
use Rattle.trial_run.specs.TrialInput.{input_of}
use Rattle.trial_run.specs.declared.stages.Modulated.{Modulated}
use Rattle.trial_run.specs.declared.trial.Made.{Made}

-- These are the records that a modulator makes of a stream, and their numbers.
pub record IsModulated (c : Config) (stream : List ℕ) (m : Modulated) : Type 0 where
  pub records : m.records.items ≡ output_of c stream
  pub ran : m.ran ≡ counted (records_of c stream)

-- All was made from this number for so many frames.
pub record IsMade (c : Config) (frames seed : ℕ) (m : Made) : Type 0 where
  pub inputs : map (λ input. input.items) m.inputs.items ≡ map (input_of c frames seed)
      (range_with_len 0 (length c.plps))
  pub sent : IsSent c (input_of c frames seed) m.sent
  pub whole : IsModulated c (stream_of c frames seed) m.whole
  pub lossy : IsModulated c (lossy_of c frames seed) m.lossy

-- The lines of the network and of so many first PLPs stand on a page, of what was made.
pub record HasLines (c : Config) (frames seed plps : ℕ) (m : Made) (page : List ℕ) : Type 0 where
  pub made : IsMade c frames seed m
  pub network : List ℕ
  pub lines : List ℕ
  pub of_network : IsNetworkText c frames seed network
  pub of_plps : ArePlpLines c frames seed plps lines
  pub text_is : page ≡ network ++ lines
  pub room : length page ≤ ROOM * plps + 3 * ROOM
