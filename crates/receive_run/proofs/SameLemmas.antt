-- Records of one file: of two lists with which it begins one is a front of the other, and records of successive frames
-- are not refused.
use Rattle.std.proofs.Common.{◌≡◌, ℕ, suc, ◌+◌, ◌≤◌, List, [], ◌∷◌, ◌++◌, length, map, take, drop, Option, Some, None}
use Rattle.std.proofs.Common.{refl, ap, ap₂, sym, subst, ◌∙◌, inl, inr, ⊎_elim, arith, append-nil}
use Rattle.std.specs.Prelude.{◌⊎◌}
use Rattle.std.specs.List.{range_with_len}
use Rattle.std.proofs.lemmas.List.{take-append-drop}
use Rattle.plp_config.specs.Emission.{emission}
use Rattle.plp_config.specs.Rules.{AllRules}
use Rattle.plp_config.specs.declared.config.Config.{Config}
use Rattle.plp_config.specs.declared.moment.Moment.{Moment}
use Rattle.plp_config.specs.declared.moment.TheConstants.{MOST_FRAMES}
use Rattle.site_frame.specs.Laws.{OneRecord, NoRefusal, OneFrame}
use Rattle.site_frame.specs.Placing.{IsFrameOf, RefusesPlace}
use Rattle.site_frame.specs.RecordFile.{AreRecords, IsOnGrid}
use Rattle.site_frame.specs.Whole.{BeginsWith, Spells, Refuses, moment_of}
use Rattle.site_frame.specs.declared.fault.RecordWhy.{RecordWhy}
use Rattle.site_frame.specs.declared.fault.RecordWhy.TheVariants as why
use Rattle.site_frame.specs.declared.reading.RecordView.{RecordView}
use Rattle.site_frame.specs.FeedLaws.{NoneWaits}
use Rattle.site_frame.specs.FeedStandsFor.{coming_of}
use Rattle.file_run.specs.Events.{Event, fed, has_ended}
use Rattle.receive_run.specs.AsMachine.{Judged, Shown}
use Rattle.receive_run.specs.Received.{expected_after, RefusesNext}
use Rattle.receive_run.specs.declared.machine.ReceiverMachine.{ReceiverMachine}
use Rattle.site_frame.proofs.RecordSplitLemmas.{same_front}

-- ---- records

-- nothing begins with a record
pub begins_nothing : (view : RecordView) (len : ℕ) → BeginsWith [] view len → ⊥
begins_nothing view len b =
    let inside = b.inside in
    let none : len ≡ 0 = omega (arith, inside) in
    let s : Spells view [] = subst (λ (n : ℕ). Spells view (take n [])) none b.spells in
    let e = ap length s.spelled in
    absurd (omega (arith, e))

-- what comes of a file behind some records, of more
abbrev pub GoesOn : List RecordView → List ℕ → List RecordView → List ℕ → Type 0
GoesOn vs rest ws more = (others : List RecordView) × (ws ≡ vs ++ others) × AreRecords rest others more

pub comparable : OneRecord → (file rest more : List ℕ) (vs ws : List RecordView) → AreRecords file vs rest
    → AreRecords file ws more → GoesOn vs rest ws more ⊎ GoesOn ws more vs rest
comparable one file rest more [] ws h k = inl (ws, refl, subst (λ (l : List ℕ). AreRecords l ws more) h k)
comparable one file rest more (v ∷ vs) [] h k = inr (
  v ∷ vs,
  refl,
  subst (λ (l : List ℕ). AreRecords l (v ∷ vs) rest)
      k h,
)
comparable one file rest more (v ∷ vs) (w ∷ ws) (n, b, left) (m, d, right) =
    let same = same_front one file v w n m b d in
    ⊎_elim
    (λ (g : GoesOn vs rest ws more). inl (
      g.0,
      ap₂ (λ (x : RecordView) (l : List RecordView). x ∷ l)
          (sym same.0) g.1,
      g.2,
    ))
    (λ (g : GoesOn ws more vs rest). inr (g.0, ap₂ (λ (x : RecordView) (l : List RecordView). x ∷ l) same.0 g.1, g.2))
    (comparable one (drop n file) rest more vs ws left (subst (λ (k : ℕ). AreRecords (drop k file) ws more)
    (sym same.1) right))

-- ---- successive frames

pub successive_parts : (c : Config) (first : ℕ) (v : RecordView) (vs : List RecordView) → IsOnGrid c first (v ∷ vs)
    → IsFrameOf c (moment_of v) first × IsOnGrid c (first + 1) vs
successive_parts c first v vs a =
    let m : moment_of v ∷ map moment_of vs ≡ emission c first ∷ map (emission c)
    (range_with_len (first + 1) (length vs)) =
    a.moments in
    let here : moment_of v ≡ emission c first = cc in
    let others : map moment_of vs ≡ map (emission c) (range_with_len (first + 1) (length vs)) = cc in
    let s = a.small in
    (record { small = omega (arith, s); emission-is = here }, record { moments = others; small = omega (arith, s) })

pub successive_join : (c : Config) (first : ℕ) (v : RecordView) (vs : List RecordView) → IsFrameOf c (moment_of v) first
    → IsOnGrid c (first + 1) vs → IsOnGrid c first (v ∷ vs)
successive_join c first v vs f a = record {
  moments = ap₂ (λ (m : Moment) (l : List Moment). m ∷ l) f.emission-is a.moments;
  small = (let s = a.small in omega (arith, s));
}

pub successive_none : (c : Config) (first : ℕ) → first ≤ MOST_FRAMES → IsOnGrid c first []
successive_none c first l = record { moments = refl; small = omega (arith, l) }

pub successive_front : (c : Config) (first : ℕ) (vs ws : List RecordView) → IsOnGrid c first (vs ++ ws)
    → IsOnGrid c first vs
successive_front c first [] ws a = successive_none c first (let s = a.small in omega (arith, s))
successive_front c first (v ∷ vs) ws a = let p = successive_parts c first v (vs ++ ws) a in
    successive_join c first v vs p.0 (successive_front c (first + 1) vs ws p.1)

pub frame_at : (c : Config) (first : ℕ) (vs : List RecordView) (o : RecordView) (os : List RecordView)
    → IsOnGrid c first (vs ++ o ∷ os) → IsFrameOf c (moment_of o) (first + length vs)
frame_at c first [] o os a = subst (IsFrameOf c (moment_of o)) (let e : first ≡ first + 0 = omega arith in e)
    (successive_parts c first o os a).0
frame_at c first (v ∷ vs) o os a =
    subst (IsFrameOf c (moment_of o)) (let e : first + 1 + length vs ≡ first + suc (length vs) = omega arith in e)
    (frame_at c (first + 1) vs o os (successive_parts c first v (vs ++ o ∷ os) a).1)

pub same_first : OneFrame → (c : Config) → AllRules c → (first second : ℕ) (w : RecordView) (vs ws : List RecordView)
    → IsOnGrid c first (w ∷ vs) → IsOnGrid c second (w ∷ ws) → first ≡ second
same_first frame c rules first second w vs ws a b = frame c (moment_of w) first second rules
    (successive_parts c first w vs a).0
    (successive_parts c second w ws b).0

-- ---- the record of the next frame is not refused

-- it is expected
is_expected : OneFrame → (c : Config) → AllRules c → (first second : ℕ) (vs : List RecordView) (o : RecordView)
    (os : List RecordView) (why : RecordWhy) → IsOnGrid c second (vs ++ o ∷ os) → IsOnGrid c first vs
    → RefusesPlace c (expected_after first vs) (moment_of o) why → ⊥
is_expected frame c rules first second vs o os why.Head b a p = absurd p
is_expected frame c rules first second vs o os why.Kind b a p = absurd p
is_expected frame c rules first second vs o os why.Length b a p = absurd p
is_expected frame c rules first second vs o os why.OffGrid b a p = let f = frame_at c second vs o os b in
    p (second + length vs) f.small f.emission-is
is_expected frame c rules first second [] o os why.Order b a p = p.order tt
is_expected frame c rules first second (w ∷ ws) o os why.Order b a p =
    let f = frame_at c second (w ∷ ws) o os b in
    let same = same_first frame c rules first second w ws (ws ++ o ∷ os) a b in
    let number = frame c (moment_of o) p.frame (second + length (w ∷ ws)) rules p.of f in
    p.order (omega (arith, same, number))

pub next_not_refused : OneRecord → NoRefusal → OneFrame → (c : Config) → AllRules c
    → (first second : ℕ) (vs : List RecordView) (o : RecordView) (os : List RecordView) (bytes : List ℕ)
    (why : RecordWhy)
    (len : ℕ)
    → IsOnGrid c second (vs ++ o ∷ os) → IsOnGrid c first vs → BeginsWith bytes o len
    → RefusesNext c (expected_after first vs) bytes why → ⊥
next_not_refused one never frame c rules first second vs o os bytes why len b a begins (inl none) =
    never o (take len bytes) (drop len bytes) why begins.spells
    (subst (λ (l : List ℕ). Refuses l why) (sym (take-append-drop len bytes)) none.1)
next_not_refused one never frame c rules first second vs o os bytes why len b a begins (inr p) =
    let same = same_front one bytes p.0 o p.1 len p.2 begins in
    is_expected frame c rules first second vs o os why b a
    (subst (λ (v : RecordView). RefusesPlace c (expected_after first vs) (moment_of v) why) same.0 p.3)

-- nor is nothing
pub nothing_not_refused : (c : Config) (expected : Option ℕ) (why : RecordWhy) → RefusesNext c expected [] why → ⊥
nothing_not_refused c expected why (inl none) = none.0 refl
nothing_not_refused c expected why (inr p) = begins_nothing p.0 p.1 p.2

-- ---- two machines to which the same was fed took the same records

-- what a machine has before it does not begin with the record of the next frame
nothing_comes : OneRecord → NoRefusal → OneFrame → NoneWaits → (joins : Option ℕ) (c : Config) (plp : ℕ) → AllRules c
    → (second : ℕ) (m : ReceiverMachine) (events : List Event) (s : Shown joins c plp m events) (o : RecordView)
    (os : List RecordView)
    (len : ℕ) → IsOnGrid c second (s.views ++ o ∷ os) → BeginsWith s.feed.rest o len → ⊥
nothing_comes one never frame waits joins c plp rules second m events s o os len b begins = go m.misplaced s.judged
  where
    go : (misplaced : Option RecordWhy)
        → Judged c (expected_after s.first s.views) misplaced (coming_of m.feed) s.feed.rest → ⊥
    go None seen =
        waits m.feed s.views (fed 0 events) (has_ended 0 events) s.feed seen m.room.coming o len begins
    go (Some why) (whole, place) =
        next_not_refused one never frame c rules s.first second s.views o os s.feed.rest why len b s.successive
        begins (inr place)

pub same_views : OneRecord → NoRefusal → OneFrame → NoneWaits → (joins : Option ℕ) (c : Config) (plp : ℕ) → AllRules c
    → (second : ℕ) (vs : List RecordView) (m : ReceiverMachine) (events : List Event) (s : Shown joins c plp m events)
    → AreRecords (fed 0 events) vs [] → IsOnGrid c second vs → s.views ≡ vs
same_views one never frame waits joins c plp rules second vs m events s h b =
    go (comparable one (fed 0 events) [] s.feed.rest vs s.views h s.feed.records)
  where
    go : GoesOn vs [] s.views s.feed.rest ⊎ GoesOn s.views s.feed.rest vs [] → s.views ≡ vs
    go (inl ([], is, more)) = is ∙ append-nil vs
    go (inl (o ∷ os, is, (len, begins, more))) = absurd (begins_nothing o len begins)
    go (inr ([], is, more)) = sym (is ∙ append-nil s.views)
    go (inr (o ∷ os, is, (len, begins, more))) =
        absurd (nothing_comes one never frame waits joins c plp rules second m events s o os len (subst
        (IsOnGrid c second) is b) begins)
