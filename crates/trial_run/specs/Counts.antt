-- What a trial counts.
use Rattle.std.specs.Prelude.{◌≡◌, ℕ, ◌&&◌, not, Bool, true, false, List, [], ◌∷◌, length, take, drop}
use Rattle.std.specs.List.{filter, list_any, range_with_len}
use Rattle.std.specs.Str.{bytes_eq}
use Rattle.site_frame.specs.Whole.{BeginsWith}
use Rattle.site_frame.specs.declared.reading.RecordView.{RecordView}
use Rattle.site_frame.specs.declared.reading.RecordView.TheVariants.{Frame, Muted}
use Rattle.t2mi_stream.specs.Units.{unit_at}
use Rattle.ts_packet.specs.Null.{is_null}
use Rattle.trial_run.specs.Losses.{unit_count}
use Rattle.trial_run.specs.declared.counts.Piece.{Piece}

-- how many of the first packets that stand in bytes are not null
unfoldable pub filled_of_first : List ℕ → ℕ → ℕ
filled_of_first bytes packets = length (filter (λ k. not (is_null (unit_at bytes k))) (range_with_len 0 packets))

-- how many of all packets are not null
abbrev pub filled_packets : List ℕ → ℕ
filled_packets bytes = filled_of_first bytes (unit_count bytes)

-- A record is of a frame, and not muted.
abbrev pub is_frame : RecordView → Bool
is_frame (Frame moment pre post blocks cells) = true
is_frame (Muted moment) = false

-- The bytes are records, one behind the other, and then the rest. Each piece has the bytes of one, and tells whether it
-- is of a frame.
abbrev pub AreCut : List ℕ → List Piece → List ℕ → Type 0
AreCut bytes [] rest = bytes ≡ rest
AreCut bytes (piece ∷ pieces) rest = (view : RecordView) × (len : ℕ) × BeginsWith bytes view len
    × (piece.is_frame ≡ is_frame view) × (piece.bytes.now ≡ take len bytes) × AreCut (drop len bytes) pieces rest

-- The bytes are those of one of these records.
abbrev pub stand_in : List Piece → List ℕ → Bool
stand_in others bytes = list_any (λ other. bytes_eq bytes other.bytes.now) others

-- A record is of a frame, and stands among others. Since it tells when its frame leaves, the others then have the same
-- record of that frame.
abbrev pub is_among : List Piece → Piece → Bool
is_among others piece = piece.is_frame && stand_in others piece.bytes.now

-- how many records are of frames and stand among others
unfoldable pub same_count : List Piece → List Piece → ℕ
same_count others pieces = length (filter (is_among others) pieces)
