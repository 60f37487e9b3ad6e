-- Two files decide how a run over them ends.
use Rattle.std.proofs.Common.{◌≡◌, ◌≢◌, ◌⊎◌, ℕ, ◌-◌, ◌<◌, ◌≤◌, List, [], ◌∷◌, ◌++◌, length, take, refl, ap, ap₂, sym}
use Rattle.std.proofs.Common.{subst, ◌∙◌, inl, inr, arith, append-nil, append_assoc}
use Rattle.std.specs.Prelude.{Result, Ok, Err}
use Rattle.std.proofs.lemmas.Bool.{cases_lt}
use Rattle.plp_config.specs.Capacity.{IsPlan}
use Rattle.plp_config.specs.Laws.{CountRises, NoneAtZero, SlotLength}
use Rattle.plp_config.specs.declared.config.Config.{Config}
use Rattle.plp_config.specs.declared.moment.TheConstants.{MOST_FRAMES}
use Rattle.ts_packet.specs.TsFile.{packets_in, left_in, HasBad, joined}
use Rattle.frame_groups.specs.Modulated.{FrameRecord}
use Rattle.modulator.specs.StandsFor.{records_of}
use Rattle.feed_merge.specs.Laws.{AllBelow}
use Rattle.feed_merge.specs.Picks.{above_all}
use Rattle.feed_merge.specs.Fed.{AreEarly}
use Rattle.feed_merge.proofs.NumberLemmas.{above_append, below_append}
use Rattle.swap_run.specs.Laws.{MustRun, OneRun, RunEnds}
use Rattle.swap_run.specs.SwapRun.{WantBad, SwapsAll, HasNone, MeetsBad, HasLate, slots_of, units_of, complete_of}
use Rattle.swap_run.specs.SwapRun.{counted}
use Rattle.swap_run.specs.declared.stop.SwapRan.{SwapRan}
use Rattle.swap_run.specs.declared.stop.SwapStop.{SwapStop}
use Rattle.swap_run.specs.declared.stop.SwapStop.TheVariants.{NoSuperframe, InputRefused, TooManyFrames}
use Rattle.swap_run.proofs.GoLemmas.{slots_rise}
use Rattle.swap_run.proofs.WantLemmas.{none_over}
use Rattle.feed_merge.proofs.EarlyLemmas.{some_is}

-- ---- records that are early, and one that is late

-- one of those that stand below a number
below_at : (n : ℕ) (xs : List FrameRecord) (y : FrameRecord) (ys : List FrameRecord) → AllBelow n (xs ++ y ∷ ys)
    → y.number < n
below_at n [] y ys all = all.0
below_at n (x ∷ xs) y ys all = below_at n xs y ys all.1

not_late : (xs : List FrameRecord) (y : FrameRecord) (ys : List FrameRecord) → AreEarly (xs ++ y ∷ ys)
    → MOST_FRAMES ≤ y.number → ⊥
not_late xs y ys early late = let less = below_at MOST_FRAMES xs y ys early in absurd (omega (arith, less, late))

abbrev first_of : FrameRecord → List FrameRecord → FrameRecord
first_of x [] = x
first_of x (y ∷ ys) = y

abbrev behind_first : List FrameRecord → List FrameRecord
behind_first [] = []
behind_first (x ∷ xs) = xs

-- Early records at the front of a list stand before one that is late.
in_front : (xs ys bs : List FrameRecord) (l : FrameRecord) (ls : List FrameRecord) → AreEarly xs
    → MOST_FRAMES ≤ l.number
    → xs ++ ys ≡ bs ++ l ∷ ls → (more : List FrameRecord) × (bs ≡ xs ++ more)
in_front [] ys bs l ls early late e = (bs, refl)
in_front (x ∷ xs) ys [] l ls early late e =
    let less = early.0 in
    let same = ap (λ (zs : List FrameRecord). (first_of x zs).number) e in
    absurd (omega (arith, less, late, same))
in_front (x ∷ xs) ys (b ∷ bs) l ls early late e =
    let r = in_front xs ys bs l ls early.1 late (ap behind_first e) in
    (r.0, ap₂ (λ (z : FrameRecord) (zs : List FrameRecord). z ∷ zs) (sym (ap (first_of x) e)) r.1)

-- ---- a bad packet, and who wants it

bad_or_not : (file : List ℕ) → HasBad file ⊎ (¬ (HasBad file))
bad_or_not file = go (left_in file)
  where
    go : (xs : List ℕ) → (xs ≢ []) ⊎ (¬ (xs ≢ []))
    go [] = inr (λ some. some refl)
    go (x ∷ xs) = inl (λ e. absurd (let n = ap length e in omega (arith, n)))

want_or_not : (c : Config) (plp : ℕ) (file : List ℕ) (records : List FrameRecord)
    → WantBad c plp file records ⊎ (¬ (WantBad c plp file records))
want_or_not c plp file records =
    elim (bad_or_not file) [
      | inr none ↦ inr (λ want. none want.0)
      | inl bad ↦ elim (cases_lt (length (packets_in file)) (slots_of c plp records)) [
        | inl less ↦ inl (bad, less)
        | inr more ↦ inr (λ want. let less = want.1 in absurd (omega (arith, less, more)))
      ]
    ]

-- Before the first frame no slot is over.
nobody_wants : NoneAtZero → SlotLength → (c : Config) (plp : ℕ) (file : List ℕ) → IsPlan c → plp < length c.plps
    → ¬ (WantBad c plp file [])
nobody_wants none slot c plp file plan lt want =
    let s = slot c plp plan.rules lt in
    let over = none_over none slot c plp (omega (arith, s.0, s.2)) in
    let less = want.1 in
    absurd (omega (arith, over, less))

-- More records want as much.
want_more : CountRises → SlotLength → (c : Config) (plp : ℕ) (file : List ℕ) (xs bs more : List FrameRecord) → IsPlan c
    → plp < length c.plps → bs ≡ xs ++ more → WantBad c plp file xs → WantBad c plp file bs
want_more rises slot c plp file xs bs more plan lt e want =
    let above = ap above_all e ∙ above_append xs more in
    let up = slots_rise rises slot c plp (above_all xs - 1) (above_all bs - 1) plan lt (omega (arith, above)) in
    let less = want.1 in
    (want.0, omega (arith, up, less))

-- ---- one ending at most

module _ (rises : CountRises) (slot : SlotLength) (c : Config) (plp : ℕ) (files : ℕ → List ℕ) (plan : IsPlan c)
    (lt : plp < length c.plps) where
  all_late : (ran : SwapRan) (bytes other : List ℕ) → SwapsAll c plp files ran bytes → HasLate c plp files other → ⊥
  all_late ran bytes other a h = not_late h.before h.late h.after (subst AreEarly h.parts a.early) h.number

  none_late : (bytes other : List ℕ) → HasNone c files bytes → HasLate c plp files other → ⊥
  none_late bytes other n h = go h.before (sym n.none ∙ h.parts)
    where
      go : (before : List FrameRecord) → [] ≡ before ++ h.late ∷ h.after → ⊥
      go [] e = some_is h.late h.after (sym e)
      go (x ∷ before) e = some_is x (before ++ h.late ∷ h.after) (sym e)

  bad_late : (packet : ℕ) (bytes other : List ℕ) → MeetsBad c plp files packet bytes → HasLate c plp files other → ⊥
  bad_late packet bytes other m h = go m.after m.parts m.early m.wanted
    where
      go : (after : List FrameRecord) → records_of c (files 0) ≡ m.before ++ after → AreEarly (m.before ++ take 1 after)
          → (after ≢ [] → WantBad c plp (files 1) (m.before ++ take 1 after)) → ⊥
      go [] parts early wanted =
          not_late h.before h.late h.after (subst AreEarly (sym parts ∙ h.parts) early) h.number
      go (x ∷ after) parts early wanted =
          let f = in_front (m.before ++ x ∷ []) after h.before h.late h.after early h.number
          (append_assoc m.before (x ∷ []) after ∙ sym parts ∙ h.parts) in
          h.unwanted (want_more rises slot c plp (files 1) (m.before ++ x ∷ []) h.before f.0 plan lt
          f.1 (wanted (some_is x after)))

  one : (result other : Result SwapRan SwapStop) → MustRun c plp files result → MustRun c plp files other
      → result ≡ other
  one (Ok ran) (Ok other) a b = ap Ok (a.1.ran_is ∙ sym b.1.ran_is)
  one (Ok ran) (Err NoSuperframe) a b = absurd (a.1.some b.1.none)
  one (Ok ran) (Err (InputRefused packet)) a b = absurd (a.1.whole b.1.bad)
  one (Ok ran) (Err TooManyFrames) a b = absurd (all_late ran a.0 b.0 a.1 b.1)
  one (Err NoSuperframe) (Ok other) a b = absurd (b.1.some a.1.none)
  one (Err NoSuperframe) (Err NoSuperframe) a b = refl
  one (Err NoSuperframe) (Err (InputRefused packet)) a b = absurd (b.1.some a.1.none)
  one (Err NoSuperframe) (Err TooManyFrames) a b = absurd (none_late a.0 b.0 a.1 b.1)
  one (Err (InputRefused packet)) (Ok other) a b = absurd (b.1.whole a.1.bad)
  one (Err (InputRefused packet)) (Err NoSuperframe) a b = absurd (a.1.some b.1.none)
  one (Err (InputRefused packet)) (Err (InputRefused other)) a b =
      ap (λ (n : ℕ). Err (InputRefused n)) (a.1.number ∙ sym b.1.number)
  one (Err (InputRefused packet)) (Err TooManyFrames) a b = absurd (bad_late packet a.0 b.0 a.1 b.1)
  one (Err TooManyFrames) (Ok other) a b = absurd (all_late other b.0 a.0 b.1 a.1)
  one (Err TooManyFrames) (Err NoSuperframe) a b = absurd (none_late b.0 a.0 b.1 a.1)
  one (Err TooManyFrames) (Err (InputRefused packet)) a b = absurd (bad_late packet b.0 a.0 b.1 a.1)
  one (Err TooManyFrames) (Err TooManyFrames) a b = refl

pub one_run : CountRises → SlotLength → OneRun
one_run rises slot c plp files result other plan lt a b = one rises slot c plp files plan lt result other a b

-- ---- and one at least

abbrev HasEnd : Config → ℕ → (ℕ → List ℕ) → Type 0
HasEnd c plp files = (result : Result SwapRan SwapStop) × MustRun c plp files result

module _ (c : Config) (plp : ℕ) (files : ℕ → List ℕ) where
  -- A frame wants the bad packet, or all were sent.
  refused : (before after : List FrameRecord) → records_of c (files 0) ≢ [] → HasBad (files 1)
      → records_of c (files 0) ≡ before ++ after → AreEarly (before ++ take 1 after)
      → ¬ (WantBad c plp (files 1) before)
      → (after ≢ [] → WantBad c plp (files 1) (before ++ take 1 after)) → HasEnd c plp files
  refused before after some bad parts early unwanted wanted =
      let packet : ℕ = length (packets_in (files 1)) in
      let bytes : List ℕ = joined (complete_of c plp files before) in
      let meets : MeetsBad c plp files packet bytes =
      record {
        some = some;
        bad = bad;
        number = refl;
        before = before;
        after = after;
        parts = parts;
        early = early;
        unwanted = unwanted;
        wanted = wanted;
        output = refl;
      } in
      (Err (InputRefused packet), (bytes, meets))

  -- all were sent
  sent : (before : List FrameRecord) → records_of c (files 0) ≢ [] → records_of c (files 0) ≡ before ++ []
      → AreEarly before → ¬ (WantBad c plp (files 1) before) → HasEnd c plp files
  sent before some parts early unwanted =
      elim (bad_or_not (files 1)) [
        | inl bad ↦ refused before [] some bad parts (subst AreEarly (sym (append-nil before)) early) unwanted
            (λ more. absurd (more refl))
        | inr none ↦ ends none
      ]
    where
      ends : ¬ (HasBad (files 1)) → HasEnd c plp files
      ends none =
          let ran : SwapRan = counted c plp (records_of c (files 0)) (packets_in (files 1))
          (length (units_of c plp files)) in
          let bytes : List ℕ = joined (units_of c plp files) in
          let all : SwapsAll c plp files ran bytes =
          record {
            some = some;
            early = subst AreEarly (sym (parts ∙ append-nil before)) early;
            whole = none;
            output = refl;
            ran_is = refl;
          } in
          (Ok ran, (bytes, all))

  -- no frame may have its number
  late_at : (before : List FrameRecord) (x : FrameRecord) (after : List FrameRecord)
      → records_of c (files 0) ≡ before ++ x ∷ after → AreEarly before → ¬ (WantBad c plp (files 1) before)
      → MOST_FRAMES ≤ x.number → HasEnd c plp files
  late_at before x after parts early unwanted number =
      let bytes : List ℕ = joined (complete_of c plp files before) in
      let has : HasLate c plp files bytes =
      record {
        before = before;
        late = x;
        after = after;
        parts = parts;
        early = early;
        number = number;
        unwanted = unwanted;
        output = refl;
      } in
      (Err TooManyFrames, (bytes, has))

  -- record by record
  walk : records_of c (files 0) ≢ [] → (before after : List FrameRecord) → records_of c (files 0) ≡ before ++ after
      → AreEarly before → ¬ (WantBad c plp (files 1) before) → HasEnd c plp files
  walk some before [] parts early unwanted = sent before some parts early unwanted
  walk some before (x ∷ after) parts early unwanted =
      elim (cases_lt x.number MOST_FRAMES) [
        | inr more ↦ late_at before x after parts early unwanted more
        | inl less ↦ elim (want_or_not c plp (files 1) (before ++ x ∷ [])) [
          | inl want ↦ refused before (x ∷ after) some want.0 parts
              (below_append MOST_FRAMES before (x ∷ []) early (less, tt)) unwanted (λ _. want)
          | inr none ↦ walk some (before ++ x ∷ []) after (parts ∙ sym (append_assoc before (x ∷ []) after))
              (below_append MOST_FRAMES before (x ∷ []) early (less, tt)) none
        ]
      ]

pub run_ends : NoneAtZero → SlotLength → RunEnds
run_ends none slot c plp files plan lt = go (records_of c (files 0)) refl
  where
    go : (records : List FrameRecord) → records_of c (files 0) ≡ records → HasEnd c plp files
    go [] e = let has : HasNone c files [] = record { none = e; empty = refl } in (Err NoSuperframe, ([], has))
    go (x ∷ xs) e =
        walk c plp files (λ empty. some_is x xs (sym e ∙ empty)) [] (x ∷ xs) e tt
        (nobody_wants none slot c plp (files 1) plan lt)
