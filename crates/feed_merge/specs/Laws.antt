-- Laws of the frames that are picked.
use Rattle.std.specs.Prelude.{◌≡◌, ◌<◌, ◌≤◌, ℕ, true, List, [], ◌∷◌, ◌++◌, Some, option_to_list}
use Rattle.std.specs.List.{AllByRecursion}
use Rattle.plp_config.specs.Capacity.{IsPlan}
use Rattle.plp_config.specs.declared.config.Config.{Config}
use Rattle.plp_config.specs.declared.moment.TheConstants.{MOST_FRAMES}
use Rattle.t2mi_stream.specs.Received.{Fate}
use Rattle.record_laws.specs.Frames.{frame_of}
use Rattle.modulator.specs.StandsFor.{records_due}
use Rattle.stream_laws.specs.Streams.{Honest}
use Rattle.stream_laws.specs.SentFrames.{frames_stream, stream_bytes}
use Rattle.stream_laws.specs.Types.{TypesFit}
use Rattle.frame_groups.specs.Modulated.{FrameRecord}
use Rattle.feed_merge.specs.Picks.{Picked, pick_of, picks}

-- If both feeds are honest damage of the first n frames of one run, each picked frame is one of them, with the record
-- of its number.
abbrev pub PicksAreFrames : Type 0
PicksAreFrames = (c : Config) (inputs : ℕ → List (List ℕ)) (n from later : ℕ) (fates others : List Fate)
    → IsPlan c → TypesFit c
    → n ≤ MOST_FRAMES → Honest (frames_stream c inputs n) from fates → Honest (frames_stream c inputs n) later others
    → (m : ℕ) (p : Picked)
    → pick_of c (records_due c true (stream_bytes (frames_stream c inputs n) from fates))
    (records_due c true (stream_bytes (frames_stream c inputs n) later others)) m ≡ Some p
    → (m < n) × (p.frame.view ≡ frame_of c inputs m)

-- Each record is of a number below one.
abbrev pub AllBelow : ℕ → List FrameRecord → Type 0
AllBelow n records = AllByRecursion (λ x. x.number < n) records

-- The records of a number, of which a feed has one at most.
abbrev pub AreOf : ℕ → List FrameRecord → Type 0
AreOf n [] = Unit {0}
AreOf n (x ∷ []) = x.number ≡ n
AreOf n (x ∷ y ∷ records) = ⊥

-- If the records of a number come behind those of lower numbers, then so does the frame of that number, if it is
-- picked.
abbrev pub PicksGrow : Type 0
PicksGrow = (c : Config) (ra rb xs ys : List FrameRecord) (n : ℕ) → AllBelow n ra → AllBelow n rb → AreOf n xs
    → AreOf n ys
    → picks c (ra ++ xs) (rb ++ ys) ≡ picks c ra rb ++ option_to_list (pick_of c xs ys n)
