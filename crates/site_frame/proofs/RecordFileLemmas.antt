-- Records one behind another: one more, and the first of them.
use Rattle.std.proofs.Common.{◌≡◌, ℕ, ◌+◌, ◌≤◌, List, [], ◌∷◌, ◌++◌, length, take, drop, refl, ap, sym, subst, ◌∙◌}
use Rattle.std.proofs.Common.{arith}
use Rattle.std.proofs.Common.{length-append, length-drop}
use Rattle.std.proofs.lemmas.List.{take-append-le, take-append-drop, drop-append-le}
use Rattle.std.proofs.Math.ListN.{drop_of_length-le}
use Rattle.std.proofs.Math.Seq.{take-length}
use Rattle.site_frame.specs.Record.{head_len}
use Rattle.site_frame.specs.Whole.{BeginsWith, Follow}
use Rattle.site_frame.specs.declared.reading.RecordView.{RecordView}
use Rattle.site_frame.specs.RecordFile.{AreRecords, Announces}

-- a record that begins a front begins the whole
pub begins_on : (front more : List ℕ) (view : RecordView) (len : ℕ) → BeginsWith front view len
    → BeginsWith (front ++ more) view len
begins_on front more view len b = grind (arith, length-append, take-append-le)

-- records, and then more bytes
pub records_on : (file more rest : List ℕ) (views : List RecordView) → AreRecords file views rest
    → AreRecords (file ++ more) views (rest ++ more)
records_on file more rest [] e = ap (λ (l : List ℕ). l ++ more) e
records_on file more rest (v ∷ vs) (len, begins, others) = (
  len,
  begins_on file more v len begins,
  subst (λ (l : List ℕ). AreRecords l vs (rest ++ more)) (sym (drop-append-le len file more begins.inside))
      (records_on (drop len file) more rest vs others),
)

-- the records of a front of a file are its first ones
pub records_file : (file front more rest : List ℕ) (views : List RecordView) → file ≡ front ++ more
    → AreRecords front views rest
    → AreRecords file views (rest ++ more)
records_file file front more rest views is h =
    subst (λ (l : List ℕ). AreRecords l views (rest ++ more)) (sym is) (records_on front more rest views h)

-- one more record began what was left
pub records_more : (file rest : List ℕ) (views : List RecordView) (view : RecordView) (len : ℕ)
    → AreRecords file views rest
    → BeginsWith rest view len → AreRecords file (views ++ view ∷ []) (drop len rest)
records_more file rest [] view len e begins = (
  len,
  subst (λ (l : List ℕ). BeginsWith l view len) (sym e)
      begins,
  ap (drop len) e,
)
records_more file rest (v ∷ vs) view len (first, b, others) begins =
    (first, b, records_more (drop first file) rest vs view len others begins)

-- the first of the records leave something too
pub records_first : (file rest : List ℕ) (vs ws : List RecordView) → AreRecords file (vs ++ ws) rest → (mid : List ℕ)
    × AreRecords file vs mid
records_first file rest [] ws h = (file, refl)
records_first file rest (v ∷ vs) ws (len, begins, others) = let more = records_first (drop len file)
    rest vs ws others in
    (more.0, (len, begins, more.1))

-- a rest of a file is no longer than the file
pub rest_inside : (file rest : List ℕ) (views : List RecordView) → AreRecords file views rest
    → length rest ≤ length file
rest_inside file rest [] e = omega (arith, ap length e)
rest_inside file rest (v ∷ vs) (len, begins, others) =
    omega (arith, rest_inside (drop len file) rest vs others, length-drop len file)

-- a head alone announces what follows it
pub announces_head : (head : List ℕ) (len : ℕ) → length head ≡ head_len → Follow head len → Announces head len
announces_head head len size f =
    let all : take head_len head ≡ head = ap (λ (k : ℕ). take k head) (sym size) ∙ take-length head in
    (omega (arith, size), subst (λ (l : List ℕ). Follow l len) (sym all) f)

-- what a head announces it does whatever follows
pub announces_on : (bytes more : List ℕ) (len : ℕ) → Announces bytes len → Announces (bytes ++ more) len
announces_on bytes more len (long, follow) = (
  omega (arith, long, length-append bytes more),
  subst (λ (l : List ℕ). Follow l len) (sym (take-append-le head_len bytes more long)) follow,
)

-- a record that came whole has the bytes that its head tells
pub whole_len : (bytes : List ℕ) (view : RecordView) (len rest : ℕ) → Announces bytes rest → BeginsWith bytes view len
    → len ≡ head_len + rest
whole_len bytes view len rest a b =
    a.1.exact (drop head_len bytes) view len
    (subst (λ (l : List ℕ). BeginsWith l view len) (sym (take-append-drop head_len bytes)) b)

pub none_left : (bytes : List ℕ) (view : RecordView) (len rest : ℕ) → Announces bytes rest
    → length bytes ≡ head_len + rest
    → BeginsWith bytes view len → drop len bytes ≡ []
none_left bytes view len rest a whole b =
    drop_of_length-le bytes (let e = whole_len bytes view len rest a b in omega (arith, e, whole))
