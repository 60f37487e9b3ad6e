-- What stands in the output after the records of a file.
use Rattle.std.specs.Prelude.{◌⊎◌, ℕ, ◌+◌, ◌-◌, List, [], ◌∷◌, length, Option, Some, None}
use Rattle.plp_config.specs.Plps.{spread}
use Rattle.plp_config.specs.declared.config.Config.{Config}
use Rattle.site_frame.specs.Placing.{RefusesPlace}
use Rattle.site_frame.specs.RecordFile.{IsNoRecord}
use Rattle.site_frame.specs.Whole.{BeginsWith, moment_of}
use Rattle.site_frame.specs.declared.fault.RecordWhy.{RecordWhy}
use Rattle.site_frame.specs.declared.reading.RecordView.{RecordView}
use Rattle.plp_receiver.specs.StandsFor.{slots_over}
use Rattle.receive_run.specs.JoinedReceived as joined
use Rattle.receive_run.specs.declared.stop.ReceiveRan.{ReceiveRan}

-- What a PLP is given back of the records of the frames from one on: nothing if there are none.
abbrev pub GivesBack : Config → ℕ → ℕ → List RecordView → List (List ℕ) → Type 0
GivesBack c plp first views packets = joined.GivesBack None c plp first views packets

-- The bytes are what stands in the output after these records, which are of successive frames: the packets that the PLP
-- is given back, one behind another.
abbrev pub Received : Config → ℕ → List RecordView → List ℕ → Type 0
Received c plp views bytes = joined.Received None c plp views bytes

-- the slot at which the output begins: those before it are over one interleaving frame before the first frame begins; 0
-- if there is
-- no record
abbrev pub first_slot : Config → ℕ → ℕ → List RecordView → ℕ
first_slot c plp first [] = 0
first_slot c plp first (view ∷ views) = slots_over c plp (first - spread c.plps plp)

-- that slot, and how many slots are given out after these records
abbrev pub ran_of : Config → ℕ → ℕ → List RecordView → List (List ℕ) → ReceiveRan
ran_of c plp first views packets = record { first = first_slot c plp first views; slots = length packets }

-- the frame that is expected after records of the frames from one on: any if there are none
abbrev pub expected_after : ℕ → List RecordView → Option ℕ
expected_after first [] = None
expected_after first (view ∷ views) = Some (first + length (view ∷ views))

-- The bytes begin with a record, and no frame leaves at its moment, or not the one that is expected.
abbrev pub IsMisplaced : Config → Option ℕ → List ℕ → RecordWhy → Type 0
IsMisplaced c expected bytes why = (view : RecordView) × (len : ℕ) × BeginsWith bytes view len
    × RefusesPlace c expected (moment_of view) why

-- Bytes are left, and for this reason they do not begin with the record of the frame that is expected.
abbrev pub RefusesNext : Config → Option ℕ → List ℕ → RecordWhy → Type 0
RefusesNext c expected bytes why = IsNoRecord bytes why ⊎ IsMisplaced c expected bytes why
