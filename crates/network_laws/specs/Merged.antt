-- What comes of the frames that are picked of two streams.
use Rattle.std.specs.Prelude.{◌≡◌, true, ℕ, ◌-◌, ◌<◌, List, [], ◌∷◌, map}
use Rattle.std.specs.List.{range_with_len, AllByRecursion}
use Rattle.plp_config.specs.Capacity.{IsPlan}
use Rattle.plp_config.specs.declared.config.Config.{Config}
use Rattle.plp_config.specs.declared.moment.TheConstants.{MOST_FRAMES}
use Rattle.ts_packet.specs.TsFile.{joined}
use Rattle.t2mi_stream.specs.Pipe.{pipe}
use Rattle.frame_groups.specs.Modulated.{FrameRecord}
use Rattle.record_laws.specs.Frames.{HasByteIds}
use Rattle.open_group.specs.Written.{content_view}
use Rattle.site_frame.specs.declared.reading.RecordView.{RecordView}
use Rattle.modulator.specs.StandsFor.{records_due}
use Rattle.stream_laws.specs.Remade.{NumberedView, remade_packets, AreSpaced}
use Rattle.stream_laws.specs.Coming.{view_at, end_after}
use Rattle.feed_merge.specs.Picks.{picks, frames_of}

-- the frames of two streams: each from the first that has it
abbrev pub merged : Config → List ℕ → List ℕ → List NumberedView
merged c a b = frames_of (picks c (records_due c true a) (records_due c true b))

-- the records that must come of frames, from the first number to the last
abbrev pub must_come : Config → List NumberedView → List RecordView
must_come c [] = []
must_come c (f ∷ fs) = map (view_at c (f ∷ fs)) (range_with_len f.number (end_after f.number (f ∷ fs) - f.number))

-- Records have numbers that frames may have.
abbrev pub AreNumbered : List FrameRecord → Type 0
AreNumbered records = AllByRecursion (λ x. x.number < MOST_FRAMES) records

-- So many records come of the units of the packets of these frames, if they are spaced.
abbrev pub MergedComesBack : Type 0
MergedComesBack = (c : Config) (a b : List ℕ) → IsPlan c → HasByteIds c → AreNumbered (records_due c true a)
    → AreNumbered (records_due c true b) → AreSpaced c (merged c a b)
    → map (λ x. content_view c x.number x.content)
    (records_due c true (joined (pipe c.pid (remade_packets c (merged c a b)))))
    ≡ must_come c (merged c a b)
