-- Laws of what a PLP is given back.
use Rattle.std.specs.Prelude.{◌≡◌, ◌<◌, ◌+◌, ℕ, List, [], ◌∷◌, ◌++◌, length, slice_get, option_map, Some}
use Rattle.std.specs.List.{range_with_len}
use Rattle.plp_config.specs.Capacity.{IsPlan}
use Rattle.plp_config.specs.Places.{FramesStandAlone}
use Rattle.plp_config.specs.Plps.{spread, StandsAlone}
use Rattle.plp_config.specs.declared.config.Config.{Config}
use Rattle.scheduler.specs.Shape.{FrameShape}
use Rattle.site_frame.specs.declared.reading.RecordView.{RecordView}
use Rattle.frame_groups.specs.Readable.{coming}
use Rattle.plp_receiver.specs.Epochs.{part_of, epoch_parts, epochs_in, Readback}

-- Records give back one list of packets at most.
abbrev pub ReadbackOnce : Type 0
ReadbackOnce = (c : Config) (plp first : ℕ) (views : List RecordView) (packets other : List (List ℕ))
    → Readback c plp first views packets → Readback c plp first views other → packets ≡ other

-- What the first records give back is a prefix of what more give back.
abbrev pub ReadbackFront : Type 0
ReadbackFront = (c : Config) (plp first : ℕ) (views more : List RecordView) (packets all : List (List ℕ)) → IsPlan c
    → plp < length c.plps
    → Readback c plp first views packets → Readback c plp first (views ++ more) all → (others : List (List ℕ))
    × (all ≡ packets ++ others)

-- The epochs that end are the frames, and what one tells is what its own record tells.
pub record TellsByFrames (c : Config) (plp first : ℕ) (views : List RecordView) : Type 0 where
  pub epochs : epochs_in (spread c.plps plp) first (length views) ≡ range_with_len first (length views)
  pub parts : (place : ℕ) (view : RecordView) → slice_get views place ≡ Some view
      → epoch_parts c plp first views (first + place) ≡ option_map (λ p. p ∷ []) (part_of c (first + place) view)

-- So it is with spread 1.
abbrev pub OneFrame : Type 0
OneFrame = (c : Config) (plp first : ℕ) (views : List RecordView) → StandsAlone c.plps plp
    → TellsByFrames c plp first views

-- And if each interleaving frame is carried by one frame, all blocks that a shape tells come with the frame.
abbrev pub AllCome : Type 0
AllCome = (c : Config) (n : ℕ) (shape : FrameShape) → FramesStandAlone c → length shape.counts ≡ length c.plps
    → coming c n shape ≡ shape.counts
