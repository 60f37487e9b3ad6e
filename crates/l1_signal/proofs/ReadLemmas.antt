-- What is read is spelled so, and what is spelled so is read.
use Rattle.std.proofs.Common.{◌≡◌, ℕ, suc, ◌+◌, ◌<◌, ◌≤◌, ◌^◌, Bool, true, false, List, [], ◌∷◌, ◌++◌, length, take}
use Rattle.std.proofs.Common.{drop, map}
use Rattle.std.proofs.Common.{get_or, set, Ok, Err, refl, ap, sym, subst, ◌∙◌, arith, rules, append_assoc, append-nil}
use Rattle.std.proofs.Common.{length-append}
use Rattle.std.specs.Prelude.{nat_lt}
use Rattle.std.proofs.lemmas.List.{take-append-drop, get_or-drop, drop-drop, drop_more, drop_all, take_all}
use Rattle.std.proofs.lemmas.List.{take_more_set}
use Rattle.std.proofs.lemmas.List.{length-take-le}
use Rattle.std.proofs.lemmas.Bool.{lt-ltb, le-ltb, ltb-false}
use Rattle.terms.specs.Bits.{field, number_of}
use Rattle.terms.proofs.BitLemmas.{length-field, number_of-field, field-number, number_of-lt, take-field, drop-field}
use Rattle.l1_signal.specs.declared.fault.L1Fault.{L1Fault}
use Rattle.l1_signal.specs.declared.fault.L1Fault.TheVariants.{Short, Unsupported}
use Rattle.l1_signal.specs.declared.fields.Field.{Field}
use Rattle.l1_signal.specs.Fields.{Row, Told, Ignored, fields, values, meets, Reading, after, behind, each_read}
use Rattle.l1_signal.specs.Fields.{field_read}
use Rattle.l1_signal.specs.Fields.{values_of, spelling, Fits, HasGiven}
use Rattle.l1_signal.specs.Places.{AreSmall}

-- ---- one field
pub field_short : (f : Field) (bits : List Bool) (left : ℕ) → left ≡ length bits → left < f.width
    → field_read f bits ≡ Err (Short left)
unfolding field_read
field_short f bits left e less = grind (arith, lt-ltb)

pub field_refused : (f : Field) (bits : List Bool) (value : ℕ) → f.width ≤ length bits
    → value ≡ number_of (take f.width bits)
    → meets f.demand value ≡ false → field_read f bits ≡ Err (Unsupported f.number)
unfolding field_read
field_refused f bits value long e refused = rw (le-ltb (length bits) f.width long, ← e, refused) refl

pub field_done : (f : Field) (bits : List Bool) (value : ℕ) → f.width ≤ length bits
    → value ≡ number_of (take f.width bits)
    → meets f.demand value ≡ true → field_read f bits ≡ Ok (value, drop f.width bits)
unfolding field_read
field_done f bits value long e met = rw (le-ltb (length bits) f.width long, ← e, met) refl

-- what the field read says
pub record IsField (f : Field) (bits : List Bool) (value : ℕ) (rest : List Bool) : Type 0 where
  pub fits : value < 2 ^ f.width
  pub met : meets f.demand value ≡ true
  pub spelled : bits ≡ field f.width value ++ rest

tested : (f : Field) (bits : List Bool) (cut met : Bool) (value : ℕ) (rest : List Bool)
    → nat_lt (length bits) f.width ≡ cut
    → meets f.demand (number_of (take f.width bits)) ≡ met →
    field_read f bits ≡ Ok (value, rest) → IsField f bits value rest
unfolding field_read
tested f bits true met value rest c m e = absurd (let h = rw c at e in cc)
tested f bits false false value rest c m e = absurd (let h = rw (c, m) at e in cc)
tested f bits false true value rest c m e =
    let h = rw (c, m) at e in
    let t : (number_of (take f.width bits), drop f.width bits) ≡ (value, rest) = cc in
    let v : number_of (take f.width bits) ≡ value = ap (λ (x : ℕ × List Bool). x.0) t in
    let r : drop f.width bits ≡ rest = ap (λ (x : ℕ × List Bool). x.1) t in
    let size = length-take-le f.width bits (ltb-false (length bits) f.width c) in
    let below : number_of (take f.width bits) < 2 ^ f.width = subst (λ (k : ℕ). number_of (take f.width bits) < 2 ^ k)
    size
    (number_of-lt (take f.width bits)) in
    record {
      fits = rw (← v) below;
      met = rw (← v) m;
      spelled = sym (take-append-drop f.width bits) ∙ rw (← v, ← r, field-number f.width (take f.width bits) size) refl;
    }

pub is_field : (f : Field) (bits : List Bool) (value : ℕ) (rest : List Bool) → field_read f bits ≡ Ok (value, rest)
    → IsField f bits value rest
is_field f bits value rest e = tested f bits _ _ value rest refl refl e

field_back : (f : Field) (value : ℕ) (rest : List Bool) → value < 2 ^ f.width → meets f.demand value ≡ true
    → field_read f (field f.width value ++ rest) ≡ Ok (value, rest)
field_back f value rest fits met =
    grind (arith, length-append, length-field, take-field, number_of-field, field_done, drop-field)

-- ---- one reading after another
pub record Went {A B : Type 0} (r : Reading A) (next : A → List Bool → Reading B) (y : B × List Bool) : Type 0 where
  pub first : A
  pub rest : List Bool
  pub read : r ≡ Ok (first, rest)
  pub more : next first rest ≡ Ok y

pub went : {A B : Type 0} (r : Reading A) (next : A → List Bool → Reading B) (y : B × List Bool) → after r next ≡ Ok y
    → Went r next y
went (Ok x) next y e = record { first = x.0; rest = x.1; read = refl; more = e }
went (Err f) next y e = absurd (cc)

pub record Behind {A : Type 0} (front : List A) (r : Reading (List A)) (y : List A) (rest : List Bool) : Type 0 where
  pub more : List A
  pub read : r ≡ Ok (more, rest)
  pub all : y ≡ front ++ more

pub was_behind : {A : Type 0} (front : List A) (r : Reading (List A)) (y : List A) (rest : List Bool)
    → behind front r ≡ Ok (y, rest) → Behind front r y rest
was_behind front (Ok x) y rest e =
    let t : (front ++ x.0, x.1) ≡ (y, rest) = cc in
    record {
      more = x.0;
      read = ap (λ (l : List Bool). Ok (x.0, l)) (ap (λ (p : List _ × List Bool). p.1) t);
      all = sym (ap (λ (p : List _ × List Bool). p.0) t);
    }
was_behind front (Err f) y rest e = absurd (cc)

-- ---- readings in order
behind_more : {A : Type 0} (front : List A) (x : A) (r : Reading (List A)) → behind front (behind (x ∷ []) r)
    ≡ behind (front ++ x ∷ []) r
behind_more front x (Ok r) = ap (λ (l : List _). Ok (l, r.1)) (sym (append_assoc front (x ∷ []) r.0))
behind_more front x (Err e) = refl

pub next_read : {A : Type 0} (reads more : List (List Bool → Reading A)) (read : List Bool → Reading A) (front : List A)
    (bits rest : List Bool) (x : A) → reads ≡ read ∷ more → read bits ≡ Ok (x, rest) →
    behind front (each_read reads bits) ≡ behind (front ++ x ∷ []) (each_read more rest)
unfolding each_read
next_read reads more read front bits rest x is e = rw (is, e) (behind_more front x (each_read more rest))

pub stopped_read : {A : Type 0} (reads more : List (List Bool → Reading A)) (read : List Bool → Reading A)
    (front : List A)
    (bits : List Bool) (fault : L1Fault) → reads ≡ read ∷ more → read bits ≡ Err fault →
    behind front (each_read reads bits) ≡ Err fault
unfolding each_read
stopped_read reads more read front bits fault is e = rw (is, e) refl

pub all_read : {A : Type 0} (reads : List (List Bool → Reading A)) (i : ℕ) (out : List A) (bits : List Bool)
    → reads ≡ []
    → length out ≤ i → behind (take i out) (each_read reads bits) ≡ Ok (out, bits)
unfolding each_read
all_read reads i out bits is le = rw is (ap (λ (l : List _). Ok (l, bits)) (append-nil (take i out)
    ∙ take_all i out le))

-- ---- the fields of a table
pub values_back : (fs : List Field) (vs : List ℕ) (rest : List Bool) → Fits fs vs
    → values_of fs (spelling fs vs ++ rest)
    ≡ Ok (vs, rest)
unfolding values_of each_read Fits spelling
values_back [] [] rest h = refl
values_back [] (v ∷ vs) rest h = absurd h
values_back (f ∷ fs) [] rest h = absurd h
values_back (f ∷ fs) (v ∷ vs) rest h =
    ap (values_of (f ∷ fs)) (append_assoc (field f.width v) (spelling fs vs) rest)
    ∙ ap (λ (r : Reading ℕ). after r (λ x l. behind (x ∷ []) (values_of fs l)))
    (field_back f v (spelling fs vs ++ rest) h.0 h.1)
    ∙ ap (behind (v ∷ [])) (values_back fs vs rest h.2)

pub record Spelled (fs : List Field) (bits : List Bool) (vs : List ℕ) (rest : List Bool) : Type 0 where
  pub fits : Fits fs vs
  pub spelled : bits ≡ spelling fs vs ++ rest

pub was_read : (fs : List Field) (bits : List Bool) (vs : List ℕ) (rest : List Bool) → values_of fs bits ≡ Ok (vs, rest)
    → Spelled fs bits vs rest
unfolding values_of each_read Fits spelling
was_read [] bits vs rest e =
    let t : ([], bits) ≡ (vs, rest) = cc in
    let v : [] ≡ vs = ap (λ (x : List ℕ × List Bool). x.0) t in
    record { fits = subst (Fits []) v tt; spelled = ap (λ (x : List ℕ × List Bool). x.1) t }
was_read (f ∷ fs) bits vs rest e =
    let w = went (field_read f bits) (λ x l. behind (x ∷ []) (values_of fs l)) (vs, rest) e in
    let one = is_field f bits w.first w.rest w.read in
    let b = was_behind (w.first ∷ []) (values_of fs w.rest) vs rest w.more in
    let ih = was_read fs w.rest b.more rest b.read in
    record {
      fits = subst (Fits (f ∷ fs)) (sym b.all) (one.fits, one.met, ih.fits);
      spelled = one.spelled ∙ ap (λ (l : List Bool). field f.width w.first ++ l) ih.spelled
          ∙ sym (append_assoc (field f.width w.first) (spelling fs b.more) rest)
          ∙ ap (λ (l : List ℕ). spelling (f ∷ fs) l ++ rest) (sym b.all);
    }

pub fits_len : (fs : List Field) (vs : List ℕ) → Fits fs vs → length vs ≡ length fs
unfolding Fits
fits_len [] [] h = refl
fits_len [] (v ∷ vs) h = absurd h
fits_len (f ∷ fs) [] h = absurd h
fits_len (f ∷ fs) (v ∷ vs) h = ap suc (fits_len fs vs h.2)

-- values that fit, by place
head_of : (all : List ℕ) (i v : ℕ) (vs : List ℕ) → drop i all ≡ v ∷ vs → (get_or all i 0 ≡ v) × (drop (i + 1) all ≡ vs)
head_of all i v vs e =
    let z : i + 0 ≡ i = omega arith in (
      ap (λ (k : ℕ). get_or all k 0) (sym z) ∙ sym (get_or-drop i all 0 0) ∙ ap (λ (l : List ℕ). get_or l 0 0) e,
      sym (drop-drop 1 i all) ∙ ap (drop 1) e,
    )

small_from : (i : ℕ) (fs : List Field) (vs all : List ℕ) → Fits fs vs → drop i all ≡ vs → AreSmall i fs all
unfolding Fits
small_from i [] vs all h e = tt
small_from i (f ∷ fs) [] all h e = absurd h
small_from i (f ∷ fs) (v ∷ vs) all h e =
    let p = head_of all i v vs e in
    (rw p.0 h.0, small_from (i + 1) fs vs all h.2 p.1)

pub are_small : (fs : List Field) (vs : List ℕ) → Fits fs vs → AreSmall 0 fs vs
are_small fs vs h = small_from 0 fs vs vs h refl

-- values that fit do so with zeros in the rows that are ignored
pub pow_pos : (w : ℕ) → 0 < 2 ^ w
pow_pos w = search rules

pub cleared : {A : Type 0} (rows : List (Row A)) (x : A) (ignored : List ℕ) → Fits (fields rows) (values rows x ignored)
    → Fits (fields rows) (values rows x [])
unfolding Fits
cleared [] x ignored h = tt
cleared (Told number width demand value ∷ rows) x ignored h = (h.0, h.1, cleared rows x ignored h.2)
cleared (Ignored number width ∷ rows) x ignored h = (pow_pos width, refl, cleared rows x (drop 1 ignored) h.2)

-- ---- what a source has given
pub given_on : {a b c : List Bool} → HasGiven a b → HasGiven b c → HasGiven a c
given_on {a} {b} {c} p q = (p.0 ++ q.0, p.1 ∙ ap (λ (l : List Bool). p.0 ++ l) q.1 ∙ sym (append_assoc p.0 q.0 c))

-- ---- the fields of a table, one at a time
fields_from : (fs : List Field) (i : ℕ) (d : Field) → i < length fs
    → map field_read (drop i fs) ≡ field_read (get_or fs i d)
    ∷ map field_read (drop (i + 1) fs)
fields_from fs i d lt = ap (map field_read) (drop_more fs i d lt)

pub next_field : (fs : List Field) (i : ℕ) (d : Field) (out : List ℕ) (bits rest : List Bool) (value : ℕ)
    → i < length fs
    → i < length out → field_read (get_or fs i d) bits ≡ Ok (value, rest) →
    behind (take i out) (values_of (drop i fs) bits) ≡ behind (take (i + 1) (set out i value))
    (values_of (drop (i + 1) fs) rest)
unfolding values_of
next_field fs i d out bits rest value lt inside e = grind (arith, next_read, fields_from, take_more_set)

pub stopped_field : (fs : List Field) (i : ℕ) (d : Field) (front : List ℕ) (bits : List Bool) (fault : L1Fault)
    → i < length fs
    → field_read (get_or fs i d) bits ≡ Err fault →
    behind front (values_of (drop i fs) bits) ≡ Err fault
unfolding values_of
stopped_field fs i d front bits fault lt e = grind (arith, stopped_read, fields_from)

pub all_fields : (fs : List Field) (i : ℕ) (out : List ℕ) (bits : List Bool) → length fs ≤ i → length out ≤ i
    → behind (take i out) (values_of (drop i fs) bits) ≡ Ok (out, bits)
unfolding values_of
all_fields fs i out bits le same = all_read (map field_read (drop i fs)) i out bits
    (ap (map field_read) (drop_all i fs le)) same
