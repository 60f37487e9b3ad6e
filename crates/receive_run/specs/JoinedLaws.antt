-- Laws of runs over a file of the receiver of a PLP with which another is joined, or none.
use Rattle.std.specs.Prelude.{◌≡◌, ℕ, ◌<◌, List, [], length, Option, Result, Ok, Err}
use Rattle.std.specs.List.{concat}
use Rattle.plp_config.specs.Capacity.{IsPlan}
use Rattle.plp_config.specs.declared.config.Config.{Config}
use Rattle.site_frame.specs.RecordFile.{AreRecords, IsOnGrid, AreBytes}
use Rattle.site_frame.specs.declared.reading.RecordView.{RecordView}
use Rattle.plp_receiver.specs.JoinedBack.{MayJoin}
use Rattle.receive_run.specs.JoinedRun.{HasAll, HasBefore}
use Rattle.receive_run.specs.JoinedReceived.{GivesBack}
use Rattle.receive_run.specs.Received.{ran_of}
use Rattle.receive_run.specs.declared.stop.ReceiveRan.{ReceiveRan}
use Rattle.receive_run.specs.declared.stop.ReceiveStop.{ReceiveStop}
use Rattle.receive_run.specs.declared.stop.ReceiveStop.TheVariants.{RecordRefused}

-- How a run must end over a file that is not too long, if nothing outside fails.
abbrev pub MustRun : Option ℕ → Config → ℕ → List ℕ → Result ReceiveRan ReceiveStop → Type 0
MustRun joins c plp file (Ok ran) = (bytes : List ℕ) × HasAll joins c plp ran file bytes
MustRun joins c plp file (Err (RecordRefused number why)) = (bytes : List ℕ)
    × HasBefore joins c plp number why file bytes

-- A file decides how a run of a PLP of a plan over it must end.
abbrev pub OneRun : Type 0
OneRun = (joins : Option ℕ) (c : Config) (plp : ℕ) (file : List ℕ) (result other : Result ReceiveRan ReceiveStop)
    → IsPlan c
    → MustRun joins c plp file result → MustRun joins c plp file other → result ≡ other

-- A run over a file has an ending.
abbrev pub RunEnds : Type 0
RunEnds = (joins : Option ℕ) (c : Config) (plp : ℕ) (file : List ℕ) → IsPlan c → plp < length c.plps
    → MayJoin c plp joins
    → AreBytes file → (result : Result ReceiveRan ReceiveStop) × MustRun joins c plp file result

-- Records of successive frames that are a whole file tell what a run over it writes, and its slots.
abbrev pub OneOutput : Type 0
OneOutput = (joins : Option ℕ) (c : Config) (plp : ℕ) (file : List ℕ) (first : ℕ) (views : List RecordView)
    (packets : List (List ℕ))
    (ran : ReceiveRan) (bytes : List ℕ) → IsPlan c → AreRecords file views [] → IsOnGrid c first views
    → GivesBack joins c plp first views packets → HasAll joins c plp ran file bytes → (bytes ≡ concat packets)
    × (ran ≡ ran_of c plp first views packets)
