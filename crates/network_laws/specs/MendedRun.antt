-- What comes of the frames that are made of several streams, whatever these are.
use Rattle.std.specs.Prelude.{◌≡◌, ℕ, ◌+◌, ◌-◌, List, [], ◌∷◌, ◌++◌, map, if◌then◌else◌}
use Rattle.std.specs.List.{range_with_len}
use Rattle.plp_config.specs.Capacity.{IsPlan}
use Rattle.plp_config.specs.Emission.{emission}
use Rattle.plp_config.specs.declared.config.Config.{Config}
use Rattle.ts_packet.specs.TsFile.{joined}
use Rattle.frame_groups.specs.Modulated.{FrameRecord}
use Rattle.frame_groups.specs.Tests.{begins_superframe}
use Rattle.record_laws.specs.Frames.{HasByteIds}
use Rattle.site_frame.specs.declared.reading.RecordView.TheVariants.{Muted}
use Rattle.open_group.specs.Written.{packets_view, content_view}
use Rattle.modulator.specs.StandsFor.{records_of}
use Rattle.stream_laws.specs.Remade.{NumberedView}
use Rattle.mended_frames.specs.Feeds.{made_of_all, units_of}
use Rattle.mended_frames.specs.Mended.{Made}

-- the record of a frame that was made, and a muted one of its number
abbrev pub made_record : Config → Made → NumberedView
made_record c x = record { number = x.number; view = packets_view c x.number x.group.packets }

abbrev pub muted_record : Config → ℕ → NumberedView
muted_record c n = record { number = n; view = Muted (emission c n) }

-- the numbers between two frames, muted
abbrev pub muted_between : Config → ℕ → ℕ → List NumberedView
muted_between c m n = map (muted_record c) (range_with_len (m + 1) (n - (m + 1)))

-- frames behind another: each of them, and each other number muted
abbrev pub records_behind : Config → ℕ → List Made → List NumberedView
records_behind c m [] = []
records_behind c m (x ∷ made) = muted_between c m x.number ++ (made_record c x ∷ records_behind c x.number made)

-- the same from the first frame on that begins a superframe, to the last one
abbrev pub mended_records : Config → List Made → List NumberedView
mended_records c [] = []
mended_records c (x ∷ made) =
    if begins_superframe c x.number then made_record c x ∷ records_behind c x.number made else mended_records c made

-- the records that a modulator makes of bytes, with their numbers
abbrev pub due_record : Config → FrameRecord → NumberedView
due_record c x = record { number = x.number; view = content_view c x.number x.content }

abbrev pub modulated_records : Config → List ℕ → List NumberedView
modulated_records c bytes = map (due_record c) (records_of c bytes)

-- the bytes that are written of all frames that are made of so many streams
abbrev pub mended_bytes : Config → ℕ → (ℕ → List ℕ) → List ℕ
mended_bytes c k streams = joined (units_of c k streams)

-- Whatever the bytes of the streams are: what a modulator makes of what is written runs from the first frame that was
-- made and begins a superframe to the last one. Each frame that was made comes as it was made, under the number that
-- it was made for, and each other number is muted.
abbrev pub MendedComesBack : Type 0
MendedComesBack = (c : Config) (k : ℕ) (streams : ℕ → List ℕ) → IsPlan c → HasByteIds c
    → modulated_records c (mended_bytes c k streams) ≡ mended_records c (made_of_all c k streams)
