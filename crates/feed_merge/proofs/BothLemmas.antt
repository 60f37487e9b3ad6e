-- What is known of two files by what two feeds were fed of them.
use Rattle.std.proofs.Common.{◌≡◌, ◌≢◌, ◌⊎◌, ℕ, ◌<◌, ◌≤◌, ◌==◌, Bool, true, false, List, [], ◌∷◌, length, take}
use Rattle.std.proofs.Common.{Option, Some, None, refl, ap, ap₂, sym, subst, ◌∙◌, inl, inr, arith, eqb-true}
use Rattle.std.proofs.lemmas.Bool.{true≢false, eqb-false}
use Rattle.std.proofs.lemmas.List.{take-append-le}
use Rattle.plp_config.specs.declared.config.Config.{Config}
use Rattle.plp_config.specs.declared.moment.TheConstants.{MOST_FRAMES}
use Rattle.frame_groups.specs.Modulated.{FrameRecord}
use Rattle.frame_groups.specs.declared.waiting.Waiting.{Waiting}
use Rattle.modulator.specs.Laws.{DueFront, DueFollow}
use Rattle.modulator.specs.StandsFor.{records_due, records_of}
use Rattle.feed_merge.specs.Picks.{above_all}
use Rattle.file_run.specs.Events.{Event, fed, has_ended}
use Rattle.file_run.specs.FileRun.{AreFed, IsFed}
use Rattle.file_run.specs.Work.{AreWhole, AreWithin}
use Rattle.file_run.proofs.WorkLemmas.{are_whole}
use Rattle.feed_merge.specs.FeedStandsFor.{waiting_of}
use Rattle.feed_merge.specs.FeedStandsFor as feed
use Rattle.feed_merge.specs.declared.feed.FrameFeed.{FrameFeed}
use Rattle.feed_merge.specs.Both.{IsPast, AreFedWith, IsDueBelow}
use Rattle.feed_merge.specs.Fed.{AreEarly, end_by, ReadsAhead, IsFedWith, IsBehind, NoneComes}
use Rattle.feed_merge.specs.Reading.{is_idle, least_of, reach_by}
use Rattle.feed_merge.proofs.BothFeedLemmas.{ends_at}
use Rattle.feed_merge.proofs.FilesLemmas.{two}
use Rattle.feed_merge.proofs.HeldLemmas.{all_of, split_of, end_of}
use Rattle.feed_merge.proofs.LeastLemmas.{least_first, least_second}
use Rattle.feed_merge.proofs.NumberLemmas.{above_append, below_of, nothing_above}
use Rattle.feed_merge.proofs.SplitLemmas.{IsSplit, late_waits}
use Rattle.feed_merge.proofs.StepLemmas.{Wants, First, Second, IsLate}
use Rattle.feed_merge.proofs.WantLemmas.{fed_count}

module _ (c : Config) (events : List Event) (held_a held_b : Bool) (next : ℕ) (a b : FrameFeed)
    (ga gb : List FrameRecord)
    (s : AreFedWith c events held_a held_b next a b ga gb) where
  pub above_a : above_all ga ≤ next
  above_a = let n = s.next_is in omega (arith, n)

  pub above_b : above_all gb ≤ next
  above_b = let n = s.next_is in omega (arith, n)

  -- no record was given
  pub none_given : (next == 0) ≡ true → (ga ≡ []) × (gb ≡ [])
  none_given zero =
      let n = s.next_is in
      let z = eqb-true next 0 zero in
      (nothing_above ga (omega (arith, n, z)), nothing_above gb (omega (arith, n, z)))

-- ---- by the files

module _ (front : DueFront) (follow : DueFollow) (c : Config) (events : List Event) (held_a held_b : Bool)
    (next : ℕ) (a b : FrameFeed)
    (ga gb : List FrameRecord) (s : AreFedWith c events held_a held_b next a b ga gb) (files : ℕ
    → List ℕ) (places : List ℕ)
    (are : AreFed 2 files places events) where
  -- what follows in a file is no lower
  pub split_a : (n : ℕ) → IsPast held_a n a ga → IsSplit c (files 0) ga n
  split_a n past = split_of front follow c a (files 0) _ _ _ ga (are 0 (omega arith)) held_a n s.of_a past

  pub split_b : (n : ℕ) → IsPast held_b n b gb → IsSplit c (files 1) gb n
  split_b n past = split_of front follow c b (files 1) _ _ _ gb (are 1 (omega arith)) held_b n s.of_b past

  -- no input was read further than by what is read ahead, if by fewer bytes than were fed no record is due of a number
  -- or a higher one
  pub ends_before : (low : ℕ) → IsDueBelow c low (fed 0 events) → IsDueBelow c low (fed 1 events) → (input taken : ℕ)
      → input < 2
      → taken < length (fed input events) → end_by c (files input) taken ≤ low
  ends_before low x y input taken lt =
      two (λ (input : ℕ). taken < length (fed input events) → end_by c (files input) taken ≤ low)
      (λ less. by (files 0) _ _ _ (are 0 (omega arith)) x less) (λ less. by (files 1) _ _ _ (are 1 (omega arith))
      y less) input lt
    where
      by : (file : List ℕ) (place : ℕ) (bytes : List ℕ) (ended : Bool) → IsFed file place bytes ended
          → IsDueBelow c low bytes
          → taken < length bytes → above_all (records_due c false (take taken file)) ≤ low
      by file place bytes ended f due less =
          let same = ap (λ (l : List ℕ). above_all (records_due c false l))
          (ap (take taken) f.parts ∙ take-append-le taken bytes f.more (omega (arith, less))) in
          let d = due taken less in
          omega (arith, same, d)

  pub reads_ahead : (low n : ℕ) → IsDueBelow c low (fed 0 events) → IsDueBelow c low (fed 1 events) → low ≤ n
      → AreWithin 2 places (reach_by a b) → ReadsAhead c n files places
  reads_ahead low n x y le near input taken lt less =
      let within = near input lt in
      let count = fed_count c events held_a held_b next a b ga gb s input lt in
      let d = ends_before low x y input taken lt (omega (arith, less, within, count)) in
      omega (arith, d, le)

  -- ---- both have ended

  module _ (none_a : NoneComes a) (none_b : NoneComes b) where
    pub all_a : records_of c (files 0) ≡ ga
    all_a = all_of front follow c a (files 0) _ _ _ ga (are 0 (omega arith)) held_a s.of_a none_a

    pub all_b : records_of c (files 1) ≡ gb
    all_b = all_of front follow c b (files 1) _ _ _ gb (are 1 (omega arith)) held_b s.of_b none_b

    pub whole_all : length places ≡ 2 → AreWhole files places
    whole_all all =
        are_whole 2 files places events all are
        (two (λ (input : ℕ). has_ended input events ≡ true) (sym (end_of c a _ _ ga held_a s.of_a) ∙ none_a.ended)
        (sym (end_of c b _ _ gb held_b s.of_b) ∙ none_b.ended))

    pub early_all : (input : ℕ) → input < 2 → AreEarly (records_of c (files input))
    early_all =
        let e = s.early in
        let n = s.next_is in
        two (λ (input : ℕ). AreEarly (records_of c (files input)))
        (subst AreEarly (sym all_a) (below_of MOST_FRAMES ga (omega (arith, n, e))))
        (subst AreEarly (sym all_b) (below_of MOST_FRAMES gb (omega (arith, n, e))))

    pub none_all : (next == 0) ≡ true → (input : ℕ) → input < 2 → records_of c (files input) ≡ []
    none_all zero =
        let none = none_given c events held_a held_b next a b ga gb s zero in
        two (λ (input : ℕ). records_of c (files input) ≡ []) (all_a ∙ none.0) (all_b ∙ none.1)

    pub some_all : (next == 0) ≡ false → (records_of c (files 0) ≢ []) ⊎ (records_of c (files 1) ≢ [])
    some_all some = go ga gb refl refl
      where
        go : (xs ys : List FrameRecord) → ga ≡ xs → gb ≡ ys → (records_of c (files 0) ≢ [])
            ⊎ (records_of c (files 1) ≢ [])
        go [] [] x y =
            let n = s.next_is in
            let p = ap above_all x in
            let q = ap above_all y in
            absurd (eqb-false next 0 some (omega (arith, n, p, q)))
        go [] (y ∷ ys) x is = inr (λ none. absurd (let e = ap length (sym (all_b ∙ is) ∙ none) in omega (arith, e)))
        go (x ∷ xs) ys is y = inl (λ none. absurd (let e = ap length (sym (all_a ∙ is) ∙ none) in omega (arith, e)))

-- ---- while records are read

-- By fewer bytes than were fed, no record is due but those that were given.
pub due_below : (c : Config) (f : FrameFeed) (bytes : List ℕ) (ended : Bool) (given : List FrameRecord) (low : ℕ)
    → above_all given ≤ low
    → IsFedWith c f bytes ended given → IsDueBelow c low bytes
due_below c f bytes ended given low above h = λ k lt.
    let p = h.stands.front k lt in
    let size = ap above_all p.1 in
    let same = ap (λ (n : Config). above_all (records_due n false (take k bytes))) h.network in
    omega (arith, above, size, same, above_append (records_due (feed.config_of f) false (take k bytes)) p.0)

module _ (front : DueFront) (follow : DueFollow) (c : Config) (events : List Event) (next : ℕ) (a b : FrameFeed)
    (ga gb : List FrameRecord) (s : AreFedWith c events false false next a b ga gb) (files : ℕ
    → List ℕ) (places : List ℕ)
    (are : AreFed 2 files places events) where
  -- the records that are due by what was taken of the input that is wanted are those up to the next number
  pub ends_next : (input : ℕ) → Wants (waiting_of a) (feed.has_ended a) (waiting_of b) (feed.has_ended b) input
      → end_by c (files input) (length (fed input events)) ≡ next
  ends_next input (First at idle) = subst (λ (i : ℕ). end_by c (files i) (length (fed i events)) ≡ next) at
      (ends_at c next (files 0) _ a _ _ ga (are 0 (omega arith)) s.of_a s.behind_a
      (above_a c events false false next a b ga gb s)
      idle.none idle.going)
  ends_next input (Second at idle) = subst (λ (i : ℕ). end_by c (files i) (length (fed i events)) ≡ next) at
      (ends_at c next (files 1) _ b _ _ gb (are 1 (omega arith)) s.of_b s.behind_b
      (above_b c events false false next a b ga gb s)
      idle.none idle.going)

  -- ---- a late record waits

  module _ (l : IsLate (waiting_of a) (feed.has_ended a) (waiting_of b) (feed.has_ended b)) where
    low_a : (w : Waiting) → waiting_of a ≡ Some w → MOST_FRAMES ≤ w.frame
    low_a w is = let x = least_first (waiting_of a) (waiting_of b) l.least l.is w is in let y = l.late in
        omega (arith, x, y)

    low_b : (w : Waiting) → waiting_of b ≡ Some w → MOST_FRAMES ≤ w.frame
    low_b w is = let x = least_second (waiting_of a) (waiting_of b) l.least l.is w is in let y = l.late in
        omega (arith, x, y)

    late_behind : (f : FrameFeed) (given : List FrameRecord) → ((w : Waiting) → waiting_of f ≡ Some w
        → MOST_FRAMES ≤ w.frame)
        → is_idle (waiting_of f) (feed.has_ended f) ≡ false → IsBehind MOST_FRAMES f given
    late_behind f given low busy = record {
      waits = low;
      idle = λ none going.
          let i : is_idle (waiting_of f) (feed.has_ended f) ≡ true = ap₂ is_idle none going in absurd
          (true≢false (sym i ∙ busy));
    }

    -- so what follows in either file is late
    pub late_a : IsBehind MOST_FRAMES a ga
    late_a = late_behind a ga low_a l.first

    pub late_b : IsBehind MOST_FRAMES b gb
    late_b = late_behind b gb low_b l.second

    pub late_is : (¬ (AreEarly (records_of c (files 0)))) ⊎ (¬ (AreEarly (records_of c (files 1))))
    late_is = go (waiting_of a) (waiting_of b) refl refl
      where
        go : (v w : Option Waiting) → waiting_of a ≡ v → waiting_of b ≡ w
            → (¬ (AreEarly (records_of c (files 0)))) ⊎ (¬ (AreEarly (records_of c (files 1))))
        go (Some v) w x y = inl (late_waits front follow c a (files 0) _ _ _ ga (are 0 (omega arith))
            s.of_a v x (low_a v x))
        go None (Some w) x y = inr (late_waits front follow c b (files 1) _ _ _ gb (are 1 (omega arith))
            s.of_b w y (low_b w y))
        go None None x y = absurd (let z : None ≡ Some l.least = sym (ap₂ least_of x y) ∙ l.is in cc)
