-- What stands in the output after the records of a file, if the packets of another PLP are joined with those of one, or
-- of none.
use Rattle.std.specs.Prelude.{◌≡◌, ℕ, List, [], ◌∷◌, Option}
use Rattle.std.specs.List.{concat}
use Rattle.plp_config.specs.declared.config.Config.{Config}
use Rattle.site_frame.specs.RecordFile.{IsOnGrid}
use Rattle.site_frame.specs.declared.reading.RecordView.{RecordView}
use Rattle.plp_receiver.specs.JoinedBack.{JoinedBackWith}

-- What a PLP is given back of the records of the frames from one on: nothing if there are none.
abbrev pub GivesBack : Option ℕ → Config → ℕ → ℕ → List RecordView → List (List ℕ) → Type 0
GivesBack joins c plp first [] packets = packets ≡ []
GivesBack joins c plp first (view ∷ views) packets = JoinedBackWith joins c plp first (view ∷ views) packets

-- The bytes are what stands in the output after these records, which are of successive frames: the packets that the PLP
-- is given back, one behind another.
pub record Received (joins : Option ℕ) (c : Config) (plp : ℕ) (views : List RecordView) (bytes : List ℕ) : Type 0 where
  pub first : ℕ
  pub successive : IsOnGrid c first views
  pub packets : List (List ℕ)
  pub back : GivesBack joins c plp first views packets
  pub bytes_are : bytes ≡ concat packets
