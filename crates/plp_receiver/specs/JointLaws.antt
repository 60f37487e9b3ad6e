-- Laws of what a PLP is given back together with the common one of its group.
use Rattle.std.specs.Prelude.{◌≡◌, ◌<◌, ℕ, List, ◌++◌, length, Option}
use Rattle.plp_config.specs.Capacity.{IsPlan}
use Rattle.plp_config.specs.declared.config.Config.{Config}
use Rattle.site_frame.specs.declared.reading.RecordView.{RecordView}
use Rattle.plp_receiver.specs.JoinedBack.{MayJoin, JoinedBackWith}

-- Records give back one list of packets at most.
abbrev pub JoinedOnce : Type 0
JoinedOnce = (joins : Option ℕ) (c : Config) (plp first : ℕ) (views : List RecordView) (packets other : List (List ℕ))
    → JoinedBackWith joins c plp first views packets → JoinedBackWith joins c plp first views other → packets ≡ other

-- What the first records give back is a prefix of what more give back.
abbrev pub JoinedFront : Type 0
JoinedFront = (joins : Option ℕ) (c : Config) (plp first : ℕ) (views more : List RecordView)
    (packets all : List (List ℕ))
    → IsPlan c → plp < length c.plps → MayJoin c plp joins
    → JoinedBackWith joins c plp first views packets → JoinedBackWith joins c plp first (views ++ more) all
    → (others : List (List ℕ)) × (all ≡ packets ++ others)
