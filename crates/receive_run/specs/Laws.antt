-- Laws of runs over a file of the receiver of a PLP alone.
use Rattle.std.specs.Prelude.{◌≡◌, ℕ, ◌<◌, List, [], length, None, Result}
use Rattle.std.specs.List.{concat}
use Rattle.plp_config.specs.Capacity.{IsPlan}
use Rattle.plp_config.specs.declared.config.Config.{Config}
use Rattle.site_frame.specs.RecordFile.{AreRecords, IsOnGrid, AreBytes}
use Rattle.site_frame.specs.declared.reading.RecordView.{RecordView}
use Rattle.receive_run.specs.JoinedLaws as joined
use Rattle.receive_run.specs.ReceiveRun.{HasAll}
use Rattle.receive_run.specs.Received.{GivesBack, ran_of}
use Rattle.receive_run.specs.declared.stop.ReceiveRan.{ReceiveRan}
use Rattle.receive_run.specs.declared.stop.ReceiveStop.{ReceiveStop}

-- How a run must end over a file that is not too long, if nothing outside fails.
abbrev pub MustRun : Config → ℕ → List ℕ → Result ReceiveRan ReceiveStop → Type 0
MustRun c plp file result = joined.MustRun None c plp file result

-- A file decides how a run of a PLP of a plan over it must end.
abbrev pub OneRun : Type 0
OneRun = (c : Config) (plp : ℕ) (file : List ℕ) (result other : Result ReceiveRan ReceiveStop) → IsPlan c
    → MustRun c plp file result
    → MustRun c plp file other → result ≡ other

-- A run over a file has an ending.
abbrev pub RunEnds : Type 0
RunEnds = (c : Config) (plp : ℕ) (file : List ℕ) → IsPlan c → plp < length c.plps → AreBytes file
    → (result : Result ReceiveRan ReceiveStop)
    × MustRun c plp file result

-- Records of successive frames that are a whole file tell what a run over it writes, and its slots.
abbrev pub OneOutput : Type 0
OneOutput = (c : Config) (plp : ℕ) (file : List ℕ) (first : ℕ) (views : List RecordView) (packets : List (List ℕ))
    (ran : ReceiveRan)
    (bytes : List ℕ) → IsPlan c
    → AreRecords file views [] → IsOnGrid c first views → GivesBack c plp first views packets
    → HasAll c plp ran file bytes
    → (bytes ≡ concat packets) × (ran ≡ ran_of c plp first views packets)
