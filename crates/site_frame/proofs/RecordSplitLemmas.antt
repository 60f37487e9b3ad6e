-- A file of bytes is some records, and then nothing or what is no record; and that in one way.
use Rattle.std.proofs.Common.{◌≡◌, ◌⊎◌, ℕ, zero, suc, ◌+◌, ◌<◌, ◌≤◌, inl, inr, ⊎_elim, List, [], ◌∷◌, ◌++◌, length}
use Rattle.std.proofs.Common.{take, drop}
use Rattle.std.proofs.Common.{refl, ap, sym, subst, ◌∙◌, arith, length-drop}
use Rattle.std.proofs.lemmas.List.{take-append-drop, length-take-le, get_or-drop}
use Rattle.site_frame.specs.Laws.{OneRecord, NoRefusal, SpelledOrRefused}
use Rattle.site_frame.specs.RecordFile.{AreRecords, IsNoRecord, AreBytes}
use Rattle.site_frame.specs.Whole.{BeginsWith, Refuses}
use Rattle.site_frame.specs.declared.fault.RecordWhy.{RecordWhy}
use Rattle.site_frame.specs.declared.fault.RecordWhy.TheVariants.{Head}
use Rattle.site_frame.specs.declared.reading.RecordView.{RecordView}
use Rattle.site_frame.proofs.RecordFrontLemmas.{short_refused}

-- No record begins what is left.
abbrev pub Stuck : List ℕ → Type 0
Stuck rest = (why : RecordWhy) × Refuses rest why

-- so it is if nothing is left
pub stuck_nil : Stuck []
stuck_nil = (Head, short_refused [] (omega arith))

stuck_begins : NoRefusal → (rest : List ℕ) (view : RecordView) (len : ℕ) → Stuck rest → BeginsWith rest view len → ⊥
stuck_begins never rest view len stuck b =
    never view (take len rest) (drop len rest) stuck.0 b.spells
    (subst (λ (bytes : List ℕ). Refuses bytes stuck.0) (sym (take-append-drop len rest)) stuck.1)

pub same_front : OneRecord → (bytes : List ℕ) (v w : RecordView) (n m : ℕ) → BeginsWith bytes v n → BeginsWith bytes w m
    → (v ≡ w) × (n ≡ m)
same_front one bytes v w n m b d =
    let same = one v w (take n bytes) (take m bytes) (drop n bytes) (drop m bytes) b.spells d.spells
    (take-append-drop n bytes ∙ sym (take-append-drop m bytes)) in
    (same.0, sym (length-take-le n bytes b.inside) ∙ ap length same.1 ∙ length-take-le m bytes d.inside)

-- One list of records comes before what no record begins.
pub same_records : OneRecord → NoRefusal → (file rest more : List ℕ) (vs ws : List RecordView) → AreRecords file vs rest
    → AreRecords file ws more → Stuck rest → Stuck more → (vs ≡ ws) × (rest ≡ more)
same_records one never file rest more [] [] h k s t = (refl, sym h ∙ k)
same_records one never file rest more [] (w ∷ ws) h (len, begins, others) s t =
    absurd (stuck_begins never rest w len s (subst (λ (bytes : List ℕ). BeginsWith bytes w len) h begins))
same_records one never file rest more (v ∷ vs) [] (len, begins, others) k s t =
    absurd (stuck_begins never more v len t (subst (λ (bytes : List ℕ). BeginsWith bytes v len) k begins))
same_records one never file rest more (v ∷ vs) (w ∷ ws) (n, b, left) (m, d, right) s t =
    let same = same_front one file v w n m b d in
    let others =
    same_records one never (drop n file) rest more vs ws left
    (subst (λ (k : ℕ). AreRecords (drop k file) ws more) (sym same.1) right) s t in
    (ap (λ (r : RecordView). r ∷ vs) same.0 ∙ ap (λ (rs : List RecordView). w ∷ rs) others.0, others.1)

-- With records behind which none begins, a file begins with no others: with the first of these.
pub records_within : OneRecord → NoRefusal → (file rest more : List ℕ) (vs ws : List RecordView)
    → AreRecords file vs rest
    → AreRecords file ws more → Stuck rest → (others : List RecordView) × (vs ≡ ws ++ others)
records_within one never file rest more vs [] h k s = (vs, refl)
records_within one never file rest more [] (w ∷ ws) h (len, begins, others) s =
    absurd (stuck_begins never rest w len s (subst (λ (bytes : List ℕ). BeginsWith bytes w len) h begins))
records_within one never file rest more (v ∷ vs) (w ∷ ws) (n, b, left) (m, d, right) s =
    let same = same_front one file v w n m b d in
    let others =
    records_within one never (drop n file) rest more vs ws left
    (subst (λ (k : ℕ). AreRecords (drop k file) ws more) (sym same.1) right) s in
    (others.0, ap (λ (r : RecordView). r ∷ vs) same.0 ∙ ap (λ (rs : List RecordView). w ∷ rs) others.1)

-- Some records, and what no record begins behind them.
pub record Stops (file : List ℕ) : Type 0 where
  pub views : List RecordView
  pub rest : List ℕ
  pub records : AreRecords file views rest
  pub stuck : (rest ≡ []) ⊎ ((why : RecordWhy) × IsNoRecord rest why)

pub bytes_behind : (len : ℕ) (file : List ℕ) → AreBytes file → AreBytes (drop len file)
bytes_behind len file h k = rw get_or-drop (h (len + k))

-- a record has bytes
pub some_bytes : (bytes : List ℕ) (view : RecordView) (len : ℕ) → BeginsWith bytes view len → 0 < len
some_bytes bytes view zero b = let e = ap length b.spells.spelled in absurd (omega (arith, e))
some_bytes bytes view (suc len) b = omega arith

pub stops : NoRefusal → SpelledOrRefused → (fuel : ℕ) (file : List ℕ) → AreBytes file → length file ≤ fuel → Stops file
stops never decides fuel [] bytes enough = record { views = []; rest = []; records = refl; stuck = inl refl }
stops never decides zero (x ∷ file) bytes enough = absurd (omega (arith, enough))
stops never decides (suc fuel) (x ∷ file) bytes enough =
    ⊎_elim
    (λ (b : (view : RecordView) × ((len : ℕ) × BeginsWith (x ∷ file) view len)).
    let some = some_bytes (x ∷ file) b.0 b.1.0 b.1.1 in
    let inside = b.1.1.inside in
    let s = stops never decides fuel (drop b.1.0 (x ∷ file)) (bytes_behind b.1.0 (x ∷ file) bytes)
    (omega (arith, enough, some, inside, length-drop b.1.0 (x ∷ file))) in
    record { views = b.0 ∷ s.views; rest = s.rest; records = (b.1.0, b.1.1, s.records); stuck = s.stuck })
    (λ (r : (why : RecordWhy) × Refuses (x ∷ file) why).
    record { views = []; rest = x ∷ file; records = refl; stuck = inr (r.0, ((λ none. cc), r.1)) })
    (decides (x ∷ file) bytes)
