-- The records of a run, of which some frames are whole.
use Rattle.std.specs.Prelude.{ℕ, ◌-◌, ◌%◌, ◌==◌, ◌&&◌, Bool, Option, Some, None, List, [], map, find, if◌then◌else◌}
use Rattle.std.specs.List.{flat_map, range_with_len}
use Rattle.plp_config.specs.Emission.{emission}
use Rattle.plp_config.specs.declared.config.Config.{Config}
use Rattle.site_frame.specs.Whole.{record_bytes}
use Rattle.site_frame.specs.declared.reading.RecordView.{RecordView}
use Rattle.site_frame.specs.declared.reading.RecordView.TheVariants.{Muted}
use Rattle.record_laws.specs.Frames.{frame_of}

-- from a frame, if there is one, up to the frame before another
abbrev pub numbers_from : ℕ → Option ℕ → List ℕ
numbers_from end None = []
numbers_from end (Some first) = range_with_len first (end - first)

-- the frames that have a record: from the first whole one that begins a superframe (FRAME_IDX 0) to the last one of
-- which a packet is left, which is the one before `end`
abbrev pub record_numbers : Config → (ℕ → Bool) → ℕ → List ℕ
record_numbers c whole end = numbers_from end (find (λ n. whole n && (n % c.frames == 0)) (range_with_len 0 end))

-- the record of frame n: the frame, if it is whole, else muted
abbrev pub record_of : Config → (ℕ → List (List ℕ)) → (ℕ → Bool) → ℕ → RecordView
record_of c inputs whole n = if whole n then frame_of c inputs n else Muted (emission c n)

abbrev pub records : Config → (ℕ → List (List ℕ)) → (ℕ → Bool) → ℕ → List RecordView
records c inputs whole end = map (record_of c inputs whole) (record_numbers c whole end)

-- records as they stand in a file
abbrev pub file_bytes : List RecordView → List ℕ
file_bytes views = flat_map record_bytes views
