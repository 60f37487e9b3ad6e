-- What the rows of a table tell, read and spelled.
use Rattle.std.proofs.Common.{◌≡◌, ℕ, zero, suc, ◌+◌, ◌-◌, ◌*◌, ◌<◌, ◌≤◌, Bool, List, [], ◌∷◌, ◌++◌, length, take, drop}
use Rattle.std.proofs.Common.{set}
use Rattle.std.proofs.Common.{replicate, Ok, Err, refl, ap, sym, subst, ◌∙◌, arith, append_assoc, length-append}
use Rattle.std.specs.Prelude.{slice_index}
use Rattle.std.specs.List.{All, flat_map}
use Rattle.std.proofs.lemmas.List.{take_more_set}
use Rattle.terms.specs.Bits.{field}
use Rattle.terms.proofs.BitLemmas.{length-field}
use Rattle.l1_signal.specs.declared.fault.L1Fault.{L1Fault}
use Rattle.l1_signal.specs.declared.fields.Field.{Field}
use Rattle.l1_signal.specs.Fields.{Row, Told, Ignored, fields, values, Reading, after, behind, made, each_read}
use Rattle.l1_signal.specs.Fields.{values_of}
use Rattle.l1_signal.specs.Fields.{spelling, Fits, Spells, row_bits, RowsFit, EachSpells}
use Rattle.l1_signal.proofs.ReadLemmas.{went, was_behind, next_read, stopped_read, all_read, values_back, was_read}
use Rattle.l1_signal.proofs.ReadLemmas.{fits_len}
use Rattle.l1_signal.proofs.ReadLemmas.{cleared}

-- the bits of a table
abbrev pub total : List Field → ℕ
total [] = 0
total (f ∷ fs) = f.width + total fs

pub length-fit : (fs : List Field) (vs : List ℕ) → Fits fs vs → length (spelling fs vs) ≡ total fs
unfolding Fits spelling
length-fit [] [] h = refl
length-fit [] (v ∷ vs) h = absurd h
length-fit (f ∷ fs) [] h = absurd h
length-fit (f ∷ fs) (v ∷ vs) h =
    omega (arith, length-append (field f.width v) (spelling fs vs), length-field f.width v, length-fit fs vs h.2)

pub length-values : {A : Type 0} (rows : List (Row A)) (x : A) (ignored : List ℕ)
    → length (spelling (fields rows) (values rows x ignored)) ≡ total (fields rows)
unfolding spelling
length-values [] x ignored = refl
length-values (Told number width demand value ∷ rows) x ignored =
    omega (
      arith,
      length-append (field width (value x)) (spelling (fields rows) (values rows x ignored)),
      length-field width (value x),
      length-values rows x ignored,
    )
length-values (Ignored number width ∷ rows) x ignored =
    let v = slice_index ignored 0 in
    omega (
      arith,
      length-append (field width v) (spelling (fields rows) (values rows x (drop 1 ignored))),
      length-field width v,
      length-values rows x (drop 1 ignored),
    )

-- how long a spelling is, and what is written
pub length-spells : {A : Type 0} (rows : List (Row A)) (x : A) (bits : List Bool) → Spells rows x bits
    → length bits ≡ total (fields rows)
length-spells rows x bits s = ap length s.spelled ∙ length-values rows x s.ignored

pub length-row_bits : {A : Type 0} (rows : List (Row A)) (x : A) → length (row_bits rows x) ≡ total (fields rows)
unfolding row_bits
length-row_bits rows x = length-values rows x []

pub written_spells : {A : Type 0} (rows : List (Row A)) (x : A) → RowsFit rows x → Spells rows x (row_bits rows x)
unfolding row_bits RowsFit
written_spells rows x fits = record { ignored = []; fits = fits; spelled = refl }

pub spells_fits : {A : Type 0} (rows : List (Row A)) (x : A) (bits : List Bool) → Spells rows x bits → RowsFit rows x
unfolding RowsFit
spells_fits rows x bits s = cleared rows x s.ignored s.fits

-- what is spelled is read: `again` says that a value is made of its own values
pub spelled_values : {A : Type 0} (rows : List (Row A)) (x : A) (bits rest : List Bool) (s : Spells rows x bits)
    → values_of (fields rows) (bits ++ rest) ≡ Ok (values rows x s.ignored, rest)
spelled_values rows x bits rest s = ap (λ (l : List Bool). values_of (fields rows) (l ++ rest)) s.spelled
    ∙ values_back (fields rows) (values rows x s.ignored) rest s.fits

pub spelled_back : {A : Type 0} (rows : List (Row A)) (at : List ℕ → A)
    → ((x : A) (ignored : List ℕ) → at (values rows x ignored) ≡ x) →
    (x : A) (bits rest : List Bool) → Spells rows x bits → made at (values_of (fields rows) (bits ++ rest)) ≡ Ok
    (x, rest)
spelled_back rows at again x bits rest s = ap (made at) (spelled_values rows x bits rest s)
    ∙ ap (λ (y : _). Ok (y, rest)) (again x s.ignored)

-- what is read is spelled so: `listed` says that the values are those of what is made of them
pub record Front {A : Type 0} (rows : List (Row A)) (x : A) (all rest : List Bool) : Type 0 where
  pub bits : List Bool
  pub spells : Spells rows x bits
  pub whole : all ≡ bits ++ rest

pub values_spelled : {A : Type 0} (rows : List (Row A)) (x : A) (ignored : List ℕ) (all : List Bool) (vs : List ℕ)
    (rest : List Bool) → values_of (fields rows) all ≡ Ok (vs, rest) → vs ≡ values rows x ignored →
    Front rows x all rest
values_spelled rows x ignored all vs rest e is =
    let s = was_read (fields rows) all vs rest e in
    record {
      bits = spelling (fields rows) (values rows x ignored);
      spells = record { ignored = ignored; fits = subst (Fits (fields rows)) is s.fits; spelled = refl };
      whole = s.spelled ∙ ap (λ (l : List ℕ). spelling (fields rows) l ++ rest) is;
    }

pub was_spelled : {A : Type 0} (rows : List (Row A)) (at : List ℕ → A) (ignored : List ℕ → List ℕ)
    → ((vs : List ℕ) → length vs ≡ length (fields rows) → vs ≡ values rows (at vs) (ignored vs)) →
    (all : List Bool) (x : A) (rest : List Bool) → made at (values_of (fields rows) all) ≡ Ok (x, rest)
    → Front rows x all rest
was_spelled rows at ignored listed all x rest e =
    let w = went (values_of (fields rows) all) (λ vs more. Ok (at vs, more)) (x, rest) e in
    let s = was_read (fields rows) all w.first w.rest w.read in
    let t : (at w.first, w.rest) ≡ (x, rest) = cc in
    let same : at w.first ≡ x = ap (λ (p : _ × List Bool). p.0) t in
    let end : w.rest ≡ rest = ap (λ (p : _ × List Bool). p.1) t in
    let is = listed w.first (fits_len (fields rows) w.first s.fits) in
    values_spelled rows x (ignored w.first) all w.first rest (w.read ∙ ap (λ (l : List Bool). Ok (w.first, l)) end)
    (is ∙ ap (λ (y : _). values rows y (ignored w.first)) same)

-- values that were read fit
pub read_fits : (fs : List Field) (all : List Bool) (vs : List ℕ) (rest : List Bool) → values_of fs all ≡ Ok (vs, rest)
    → Fits fs vs
read_fits fs all vs rest e = (was_read fs all vs rest e).fits

-- ---- several with such rows
pub next_each : {A : Type 0} (n i : ℕ) (read : List Bool → Reading A) (d : A) (out : List A) (bits rest : List Bool)
    (x : A)
    → i < n → i < length out → read bits ≡ Ok (x, rest) →
    behind (take i out) (each_read (replicate (n - i) read) bits) ≡ behind (take (i + 1) (set out i x))
    (each_read (replicate (n - (i + 1)) read) rest)
next_each n i read d out bits rest x lt inside e =
    let k : n - i ≡ suc (n - (i + 1)) = omega arith in
    next_read (replicate (n - i) read) (replicate (n - (i + 1)) read) read (take i out) bits rest x
    (ap (λ (m : ℕ). replicate m read) k) e
    ∙ ap (λ (l : List _). behind l (each_read (replicate (n - (i + 1)) read) rest)) (sym (take_more_set out i x inside))

pub stopped_each : {A : Type 0} (n i : ℕ) (read : List Bool → Reading A) (front : List A) (bits : List Bool)
    (fault : L1Fault)
    → i < n → read bits ≡ Err fault →
    behind front (each_read (replicate (n - i) read) bits) ≡ Err fault
stopped_each n i read front bits fault lt e =
    let k : n - i ≡ suc (n - (i + 1)) = omega arith in
    stopped_read (replicate (n - i) read) (replicate (n - (i + 1)) read) read front bits fault
    (ap (λ (m : ℕ). replicate m read) k) e

pub all_each : {A : Type 0} (n i : ℕ) (read : List Bool → Reading A) (out : List A) (bits : List Bool)
    → n ≤ i → length out ≤ i
    → behind (take i out) (each_read (replicate (n - i) read) bits) ≡ Ok (out, bits)
all_each n i read out bits le same =
    let k : n - i ≡ 0 = omega arith in
    all_read (replicate (n - i) read) i out bits (ap (λ (m : ℕ). replicate m read) k) same

pub each_back : {A : Type 0} (rows : List (Row A)) (read : List Bool → Reading A)
    → ((x : A) (bits rest : List Bool) → Spells rows x bits → read (bits ++ rest) ≡ Ok (x, rest)) →
    (xs : List A) (bits rest : List Bool) → EachSpells rows xs bits
    → each_read (replicate (length xs) read) (bits ++ rest)
    ≡ Ok (xs, rest)
unfolding each_read
each_back rows read back [] bits rest s = ap (λ (l : List Bool). Ok ([], l ++ rest)) s
each_back rows read back (x ∷ xs) bits rest s =
    ap (λ (l : List Bool). each_read (replicate (length (x ∷ xs)) read) l) (ap (λ (l : List Bool). l ++ rest) s.4
    ∙ append_assoc s.0 s.1 rest)
    ∙ ap (λ (r : Reading _). after r (λ y more. behind (y ∷ []) (each_read (replicate (length xs) read) more)))
    (back x s.0 (s.1 ++ rest) s.2)
    ∙ ap (behind (x ∷ [])) (each_back rows read back xs s.1 rest s.3)

pub record EachFront {A : Type 0} (rows : List (Row A)) (n : ℕ) (xs : List A) (all rest : List Bool) : Type 0 where
  pub bits : List Bool
  pub count : length xs ≡ n
  pub spell : EachSpells rows xs bits
  pub whole : all ≡ bits ++ rest

pub each_spelled : {A : Type 0} (rows : List (Row A)) (read : List Bool → Reading A)
    → ((all : List Bool) (x : A) (rest : List Bool) → read all ≡ Ok (x, rest) → Front rows x all rest) →
    (n : ℕ) (all : List Bool) (xs : List A) (rest : List Bool) → each_read (replicate n read) all ≡ Ok (xs, rest)
    → EachFront rows n xs all rest
unfolding each_read
each_spelled {A} rows read spelled zero all xs rest e =
    let t : ([], all) ≡ (xs, rest) = cc in
    let none : [] ≡ xs = ap (λ (p : List A × List Bool). p.0) t in
    record {
      bits = [];
      count = ap length (sym none);
      spell = subst (λ (l : List A). EachSpells rows l []) none refl;
      whole = ap (λ (p : List A × List Bool). p.1) t;
    }
each_spelled {A} rows read spelled (suc n) all xs rest e =
    let w = went (read all) (λ y more. behind (y ∷ []) (each_read (replicate n read) more)) (xs, rest) e in
    let f = spelled all w.first w.rest w.read in
    let b = was_behind (w.first ∷ []) (each_read (replicate n read) w.rest) xs rest w.more in
    let ih = each_spelled rows read spelled n w.rest b.more rest b.read in
    record {
      bits = f.bits ++ ih.bits;
      count = ap length b.all ∙ ap suc ih.count;
      spell = subst (λ (l : List A). EachSpells rows l (f.bits ++ ih.bits)) (sym b.all) (
        f.bits,
        ih.bits,
        f.spells,
        ih.spell,
        refl,
      );
      whole = f.whole ∙ ap (λ (l : List Bool). f.bits ++ l) ih.whole ∙ sym (append_assoc f.bits ih.bits rest);
    }

-- what holds of each one
all_cons : {A : Type 0} (P : A → Type 0) (x : A) (xs : List A) → P x → All P xs → All P (x ∷ xs)
all_cons P x xs one more zero d lt = one
all_cons P x xs one more (suc k) d lt = more k d (omega (arith, lt))

all_tail : {A : Type 0} (P : A → Type 0) (x : A) (xs : List A) → All P (x ∷ xs) → All P xs
all_tail P x xs all k d lt = let less : suc k < suc (length xs) = omega (arith, lt) in all (suc k) d less

all_head : {A : Type 0} (P : A → Type 0) (x : A) (xs : List A) → All P (x ∷ xs) → P x
all_head P x xs all = let less : 0 < suc (length xs) = omega arith in all 0 x less

pub each_fits : {A : Type 0} (rows : List (Row A)) (xs : List A) (bits : List Bool) → EachSpells rows xs bits
    → All (RowsFit rows) xs
each_fits rows [] bits s = λ k d lt. absurd (omega (arith, lt))
each_fits rows (x ∷ xs) bits s = all_cons (RowsFit rows) x xs (spells_fits rows x s.0 s.2) (each_fits rows xs s.1 s.3)

pub written_each : {A : Type 0} (rows : List (Row A)) (xs : List A) → All (RowsFit rows) xs
    → EachSpells rows xs (flat_map (row_bits rows) xs)
written_each rows [] fits = refl
written_each rows (x ∷ xs) fits = (
  row_bits rows x,
  flat_map (row_bits rows) xs,
  written_spells rows x (all_head (RowsFit rows) x xs fits),
  written_each rows xs (all_tail (RowsFit rows) x xs fits),
  refl,
)

pub length-each : {A : Type 0} (rows : List (Row A)) (xs : List A) (bits : List Bool) → EachSpells rows xs bits
    → length bits ≡ total (fields rows) * length xs
length-each rows [] bits s = let none : length bits ≡ 0 = ap length s in omega (arith, none)
length-each rows (x ∷ xs) bits s =
    let one = length-spells rows x s.0 s.2 in
    let more = length-each rows xs s.1 s.3 in
    let all = ap length s.4 ∙ length-append s.0 s.1 in
    let step : total (fields rows) * suc (length xs) ≡ total (fields rows) + total (fields rows) * length
    xs = omega arith in
    omega (arith, one, more, all, step)
