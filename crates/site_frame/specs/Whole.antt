-- Records: how one is spelled, and why bytes begin with none.
use Rattle.std.specs.Prelude.{◌≡◌, ◌⊎◌, ℕ, ◌+◌, ◌*◌, ◌<◌, ◌≤◌, List, [], ◌∷◌, ◌++◌, length, take, drop, slice_index}
use Rattle.std.specs.Prelude.{sum_by}
use Rattle.std.specs.Prelude.{Option, Some, None, ◌==◌, if◌then◌else◌}
use Rattle.std.specs.List.{concat}
use Rattle.byteorder.specs.Endian.{big_number}
use Rattle.terms.specs.Bits.{bytes_for}
use Rattle.plp_config.specs.declared.config.TheConstants.{GREATEST_REST}
use Rattle.plp_config.specs.declared.moment.Moment.{Moment}
use Rattle.site_frame.specs.Record.{Block, frame_kind, muted_kind, head_len, pre_len, head_bytes, FitsMoment}
use Rattle.site_frame.specs.Reading.{◌>>=◌}
use Rattle.site_frame.specs.Rest.{FitsFrame, IsRest, rest_sections, parts_in}
use Rattle.site_frame.specs.declared.parts.FrameParts.{FrameParts}
use Rattle.site_frame.specs.declared.fault.RecordWhy.{RecordWhy}
use Rattle.site_frame.specs.declared.fault.RecordWhy.TheVariants.{Head, Kind, Length, Order, OffGrid}
use Rattle.site_frame.specs.declared.reading.RecordView.{RecordView}
use Rattle.site_frame.specs.declared.reading.RecordView.TheVariants.{Frame, Muted}

-- no rest is longer
abbrev pub greatest_rest : ℕ
greatest_rest = GREATEST_REST

-- that of a frame has L1-pre, and the numbers of the other parts
abbrev pub least_rest : ℕ
least_rest = pre_len + 4 + 2 + 4

-- the kind, the moment and the rest of a record
abbrev pub kind_of : RecordView → ℕ
kind_of (Frame moment pre post blocks cells) = frame_kind
kind_of (Muted moment) = muted_kind

abbrev pub moment_of : RecordView → Moment
moment_of (Frame moment pre post blocks cells) = moment
moment_of (Muted moment) = moment

abbrev pub HasRest : RecordView → List ℕ → Type 0
HasRest (Frame moment pre post blocks cells) rest =
    IsRest (record { pre = pre; post = post; blocks = blocks; cells = cells }) rest
HasRest (Muted moment) rest = rest ≡ []

-- The bytes are the record: its head, and its rest, whatever the bits and bytes hold that decide nothing.
pub record Spells (view : RecordView) (bytes : List ℕ) : Type 0 where
  pub fits : FitsMoment (moment_of view)
  pub rest : List ℕ
  pub parts : HasRest view rest
  pub small : length rest ≤ greatest_rest
  pub spelled : bytes ≡ head_bytes (kind_of view) (moment_of view) (length rest) ++ rest

-- The bytes begin with the record, which has so many.
pub record BeginsWith (bytes : List ℕ) (view : RecordView) (len : ℕ) : Type 0 where
  pub inside : len ≤ length bytes
  pub spells : Spells view (take len bytes)

-- ---- as it is written: zeros in what decides nothing

-- the sections of its rest
abbrev pub written_rest : RecordView → List (List ℕ)
written_rest (Frame moment pre post blocks cells) =
    rest_sections (record { pre = pre; post = post; blocks = blocks; cells = cells }) [] []
written_rest (Muted moment) = []

-- the sections of a record, in order: its head, which tells how many bytes the others have, and these
abbrev pub sections : RecordView → List (List ℕ)
sections view = head_bytes (kind_of view) (moment_of view) (length (concat (written_rest view))) ∷ written_rest view

abbrev pub record_bytes : RecordView → List ℕ
record_bytes view = concat (sections view)

-- how many bytes a block and a record have
abbrev pub block_size : Block → ℕ
block_size b = 4 + length b.bytes

abbrev pub record_len : RecordView → ℕ
record_len (Frame moment pre post blocks cells) =
    head_len + pre_len + (4 + bytes_for (length post)) + (2 + sum_by block_size blocks) + (4 + 4 * length cells)
record_len (Muted moment) = head_len

-- Each part of a record fits its numbers.
abbrev pub FitsRest : RecordView → Type 0
FitsRest (Frame moment pre post blocks cells) = FitsFrame
    (record { pre = pre; post = post; blocks = blocks; cells = cells })
FitsRest (Muted moment) = Unit {0}

pub record FitsRecord (view : RecordView) : Type 0 where
  pub moment : FitsMoment (moment_of view)
  pub rest : FitsRest view
  pub small : record_len view ≤ head_len + greatest_rest

-- ---- refusals

pub record HasHead (bytes : List ℕ) : Type 0 where
  pub whole : head_len ≤ length bytes
  pub first : slice_index bytes 0 ≡ 0x54
  pub second : slice_index bytes 1 ≡ 0x32
  pub third : slice_index bytes 2 ≡ 0x46
  pub fourth : slice_index bytes 3 ≡ 0x52
  pub zero0 : slice_index bytes 5 ≡ 0
  pub zero1 : slice_index bytes 6 ≡ 0
  pub zero2 : slice_index bytes 7 ≡ 0

abbrev pub HasKind : List ℕ → Type 0
HasKind bytes = (slice_index bytes 4 ≡ frame_kind) ⊎ (slice_index bytes 4 ≡ muted_kind)

-- what the head tells
abbrev pub told_moment : List ℕ → Moment
told_moment bytes = record { seconds = big_number 8 (drop 8 bytes); subseconds = big_number 4 (drop 16 bytes) }

abbrev pub told_len : List ℕ → ℕ
told_len bytes = big_number 4 (drop 20 bytes)

abbrev pub told_rest : List ℕ → List ℕ
told_rest bytes = take (told_len bytes) (drop head_len bytes)

-- The rest has the length that the head tells, and the parts of a record of its kind fill it.
pub record HasLength (bytes : List ℕ) : Type 0 where
  pub small : told_len bytes ≤ greatest_rest
  pub inside : head_len + told_len bytes ≤ length bytes
  pub view : RecordView
  pub kind : kind_of view ≡ slice_index bytes 4
  pub parts : HasRest view (told_rest bytes)

-- The first refusal from the front.
abbrev pub Refuses : List ℕ → RecordWhy → Type 0
Refuses bytes Head = ¬ (HasHead bytes)
Refuses bytes Kind = HasHead bytes × (¬ (HasKind bytes))
Refuses bytes Length = HasHead bytes × HasKind bytes × (¬ (HasLength bytes))
Refuses bytes Order = ⊥
Refuses bytes OffGrid = ⊥

-- ---- what the head alone tells

-- Some record begins with the head, and has so many bytes behind it.
pub record CanFollow (head : List ℕ) (rest : ℕ) : Type 0 where
  pub more : List ℕ
  pub view : RecordView
  pub begins : BeginsWith (head ++ more) view (head_len + rest)

-- So many bytes follow the head: some record begins with it, each that does has them, and if fewer follow, none does.
pub record Follow (head : List ℕ) (rest : ℕ) : Type 0 where
  pub some : CanFollow head rest
  pub small : rest ≤ greatest_rest
  pub exact : (more : List ℕ) (view : RecordView) (len : ℕ) → BeginsWith (head ++ more) view len → len ≡ head_len + rest
  pub fewer : (more : List ℕ) → length more < rest → Refuses (head ++ more) Length

-- No record begins with the head, whatever follows it.
abbrev pub RefusesHead : List ℕ → RecordWhy → Type 0
RefusesHead head why = (more : List ℕ) → Refuses (head ++ more) why

-- ---- what the reader takes

abbrev pub framed : Moment → FrameParts → Option RecordView
framed moment p = Some (Frame moment p.pre p.post p.blocks p.cells)

abbrev pub muted_in : Moment → List ℕ → Option RecordView
muted_in moment [] = Some (Muted moment)
muted_in moment (byte ∷ rest) = None

abbrev pub view_in : ℕ → Moment → List ℕ → Option RecordView
view_in kind moment rest = if kind == muted_kind then muted_in moment rest else (parts_in rest >>= framed moment)

pub record IsRead (bytes : List ℕ) (view : RecordView) (len : ℕ) : Type 0 where
  pub head : HasHead bytes
  pub kind : HasKind bytes
  pub small : told_len bytes ≤ greatest_rest
  pub inside : head_len + told_len bytes ≤ length bytes
  pub view-is : view_in (slice_index bytes 4) (told_moment bytes) (told_rest bytes) ≡ Some view
  pub end : len ≡ head_len + told_len bytes

abbrev pub IsBad : List ℕ → Type 0
IsBad bytes = (greatest_rest < told_len bytes) ⊎ (length bytes < head_len + told_len bytes)
    ⊎ (view_in (slice_index bytes 4) (told_moment bytes) (told_rest bytes) ≡ None)

abbrev pub IsRefused : List ℕ → RecordWhy → Type 0
IsRefused bytes Head = ¬ (HasHead bytes)
IsRefused bytes Kind = HasHead bytes × (¬ (HasKind bytes))
IsRefused bytes Length = HasHead bytes × HasKind bytes × IsBad bytes
IsRefused bytes Order = ⊥
IsRefused bytes OffGrid = ⊥

-- the head at the front is right, as far as it alone tells
pub record IsRight (bytes : List ℕ) (rest : ℕ) : Type 0 where
  pub head : HasHead bytes
  pub kind : HasKind bytes
  pub told : rest ≡ told_len bytes
  pub small : rest ≤ greatest_rest

-- a rest of its kind can have so many bytes
pub record IsRightAlone (bytes : List ℕ) (rest : ℕ) : Type 0 where
  pub right : IsRight bytes rest
  pub muted : slice_index bytes 4 ≡ muted_kind → rest ≡ 0
  pub frame : slice_index bytes 4 ≡ frame_kind → least_rest ≤ rest

-- The length that it tells is too great, a muted record has a rest, or a frame's is too short.
abbrev pub HasBadLength : List ℕ → Type 0
HasBadLength bytes =
    (greatest_rest < told_len bytes)
    ⊎ ((slice_index bytes 4 ≡ muted_kind) × (0 < told_len bytes))
    ⊎ ((slice_index bytes 4 ≡ frame_kind) × (told_len bytes < least_rest))

abbrev pub IsWrong : List ℕ → RecordWhy → Type 0
IsWrong bytes Head = ¬ (HasHead bytes)
IsWrong bytes Kind = HasHead bytes × (¬ (HasKind bytes))
IsWrong bytes Length = HasHead bytes × HasKind bytes × HasBadLength bytes
IsWrong bytes Order = ⊥
IsWrong bytes OffGrid = ⊥
