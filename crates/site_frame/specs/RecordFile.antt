-- A file of records that stand one behind another.
use Rattle.std.specs.Prelude.{◌≡◌, ◌≢◌, ◌⊎◌, ℕ, ◌+◌, ◌-◌, ◌<◌, ◌≤◌, List, [], ◌∷◌, length, map, take, drop, slice_index}
use Rattle.std.specs.List.{range_with_len}
use Rattle.plp_config.specs.Emission.{emission}
use Rattle.plp_config.specs.declared.config.Config.{Config}
use Rattle.plp_config.specs.declared.moment.TheConstants.{MOST_FRAMES}
use Rattle.site_frame.specs.Record.{head_len}
use Rattle.site_frame.specs.Whole.{BeginsWith, Follow, Refuses, moment_of}
use Rattle.site_frame.specs.declared.fault.RecordWhy.{RecordWhy}
use Rattle.site_frame.specs.declared.reading.RecordView.{RecordView}

-- The bytes are these records, one behind the other, and then the rest.
abbrev pub AreRecords : List ℕ → List RecordView → List ℕ → Type 0
AreRecords bytes [] rest = bytes ≡ rest
AreRecords bytes (view ∷ views) rest = (len : ℕ) × BeginsWith bytes view len × AreRecords (drop len bytes) views rest

-- Bytes are left where a record must begin, and for this reason none does.
abbrev pub IsNoRecord : List ℕ → RecordWhy → Type 0
IsNoRecord rest why = (rest ≢ []) × Refuses rest why

-- Some record begins with the head at the front of the bytes, and so many bytes follow it there.
abbrev pub Announces : List ℕ → ℕ → Type 0
Announces bytes len = (head_len ≤ length bytes) × Follow (take head_len bytes) len

-- Of a record that is under way so many bytes are lacking.
pub record IsBegun (bytes : List ℕ) (left : ℕ) : Type 0 where
  pub len : ℕ
  pub announces : Announces bytes len
  pub lacks : length bytes + left ≡ head_len + len

-- So many of the bytes are no more than a head, or no more than the record has of which the head stands there.
abbrev pub EndsWithin : List ℕ → ℕ → Type 0
EndsWithin bytes count = (count ≤ head_len) ⊎ ((len : ℕ) × Announces bytes len × (count ≤ head_len + len))

-- how many bytes of a file stand before a rest of it
abbrev pub bytes_before : List ℕ → List ℕ → ℕ
bytes_before file rest = length file - length rest

-- Each number of the file is that of a byte.
abbrev pub AreBytes : List ℕ → Type 0
AreBytes file = (k : ℕ) → slice_index file k < 256

-- Records are on the grid: the first one is of a frame, and each later one of the next frame; all are below 2^31.
pub record IsOnGrid (c : Config) (first : ℕ) (views : List RecordView) : Type 0 where
  pub moments : map moment_of views ≡ map (emission c) (range_with_len first (length views))
  pub small : first + length views ≤ MOST_FRAMES
