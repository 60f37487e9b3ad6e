-- What a PLP is given back together with the common PLP of its group.
use Rattle.std.specs.Prelude.{◌≡◌, ℕ, List, length, Option, Some, None}
use Rattle.plp_config.specs.declared.config.Config.{Config}
use Rattle.site_frame.specs.declared.reading.RecordView.{RecordView}
use Rattle.plp_receiver.specs.Epochs.{Readback}
use Rattle.common_plp.specs.Groups.{common_of}
use Rattle.common_plp.specs.Split.{joined}

-- What both PLPs are given back, of as many slots, joined slot by slot.
pub record JoinsReadbacks (c : Config) (common plp first : ℕ) (views : List RecordView) (packets : List (List ℕ)) :
    Type 0 where
  pub shared : List (List ℕ)
  pub back_shared : Readback c common first views shared
  pub own : List (List ℕ)
  pub back_own : Readback c plp first views own
  pub same_slots : length shared ≡ length own
  pub packets_are : packets ≡ joined shared own

-- What may be joined with a PLP: nothing, or the common PLP of its group.
abbrev pub MayJoin : Config → ℕ → Option ℕ → Type 0
MayJoin c plp joins = (common : ℕ) → joins ≡ Some common → common_of c plp ≡ Some common

-- Without a common PLP, what the PLP itself is given back.
abbrev pub JoinedBackWith : Option ℕ → Config → ℕ → ℕ → List RecordView → List (List ℕ) → Type 0
JoinedBackWith None c plp first views packets = Readback c plp first views packets
JoinedBackWith (Some common) c plp first views packets = JoinsReadbacks c common plp first views packets

-- What a PLP is given back of the records of the frames from one on, with what goes in the common PLP of its group, if
-- it has one:
-- one packet for each slot that is due.
unfoldable pub JoinedBack : Config → ℕ → ℕ → List RecordView → List (List ℕ) → Type 0
JoinedBack c plp first views packets = JoinedBackWith (common_of c plp) c plp first views packets
