-- What a run of the receiver of a PLP alone does, by the bytes of its one file.
use Rattle.std.specs.Prelude.{ℕ, List, None}
use Rattle.plp_config.specs.declared.config.Config.{Config}
use Rattle.file_run.specs.Work.{Work}
use Rattle.receive_run.specs.JoinedRun as joined
use Rattle.receive_run.specs.declared.stop.ReceiveRan.{ReceiveRan}
use Rattle.receive_run.specs.declared.stop.ReceiveStop.{ReceiveStop}

-- The file is nothing but records, the bytes are what they give back, and these are their slots.
abbrev pub HasAll : Config → ℕ → ReceiveRan → List ℕ → List ℕ → Type 0
HasAll c plp ran file bytes = joined.HasAll None c plp ran file bytes

abbrev pub receive_work : Config → ℕ → Work ReceiveRan ReceiveStop
receive_work c plp = joined.receive_work None c plp
