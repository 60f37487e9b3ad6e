-- What is said of the frames of one number more.
use Rattle.std.proofs.Common.{◌≡◌, ℕ, zero, suc, ◌+◌, ◌-◌, ◌<◌, ◌≤◌, ◌==◌, Bool, List, [], ◌∷◌, ◌++◌, max}
use Rattle.std.proofs.Common.{Option, None, refl, ap, ap₂, sym, ◌∙◌, arith, append-nil}
use Rattle.std.specs.Prelude.{option_to_list}
use Rattle.std.specs.List.{flat_map, range_with_len}
use Rattle.std.specs.Option.{option_or}
use Rattle.std.proofs.lemmas.Bool.{ne_eqb}
use Rattle.std.proofs.lemmas.List.Concat.{flat_map-append}
use Rattle.std.proofs.lemmas.List.Folds.{find-append}
use Rattle.terms.proofs.RangeLemmas.{range_append, places_more, flat_same}
use Rattle.plp_config.specs.declared.config.Config.{Config}
use Rattle.frame_groups.specs.Modulated.{FrameRecord, Numbered}
use Rattle.feed_merge.specs.Laws.{AllBelow, AreOf}
use Rattle.feed_merge.specs.Picks.{above_all}
use Rattle.feed_merge.proofs.GrowLemmas.{or_none, below_more, above_is, above_least, all_push}
use Rattle.compare_run.specs.Comparing.{record_at, Answered, answered_by, answered_at, answers_below, answers}
use Rattle.compare_run.specs.AnswerLaws.{frames_by, AnswersGrow}

abbrev pub has_number : ℕ → FrameRecord → Bool
has_number n x = x.number == n

-- no record below a number has a number that is no less
pub none_found : (n m : ℕ) (records : List FrameRecord) → AllBelow n records → n ≤ m → record_at m records ≡ None
none_found n m [] h l = refl
none_found n m (x ∷ records) h l =
    let below = h.0 in
    rw (ne_eqb x.number m (λ e. absurd (omega (arith, e, below, l)))) (none_found n m records h.1 l)

-- nor have those of one number another
pub none_of : (n m : ℕ) (xs : List FrameRecord) → AreOf n xs → m < n → record_at m xs ≡ None
none_of n m [] h l = refl
none_of n m (x ∷ []) h l = rw (ne_eqb x.number m (λ e. absurd (omega (arith, e, h, l)))) refl
none_of n m (x ∷ y ∷ xs) h l = absurd h

-- behind others
pub at_front : (m : ℕ) (records more : List FrameRecord) → record_at m more ≡ None
    → record_at m (records ++ more) ≡ record_at m records
at_front m records more none =
    find-append (has_number m) records more ∙ ap (option_or (record_at m records)) none ∙ or_none (record_at m records)

at_back : (n : ℕ) (records xs : List FrameRecord) → AllBelow n records → record_at n (records ++ xs) ≡ record_at n xs
at_back n records xs h =
    find-append (has_number n) records xs
    ∙ ap (λ (o : Option FrameRecord). option_or o (record_at n xs)) (none_found n n records h (omega arith))

-- ---- numbers that none has

nothing : (f : ℕ → List Answered) (a n : ℕ) → ((k : ℕ) → a ≤ k → f k ≡ []) → flat_map f (range_with_len a n) ≡ []
nothing f a zero h = refl
nothing f a (suc n) h =
    ap₂ (λ (x y : List Answered). x ++ y) (h a (omega arith)) (nothing f (a + 1) n (λ k le. h k (omega (arith, le))))

-- by the same groups
module _ (c : Config) (ga gb : List Numbered) where
  abbrev pub listed : List FrameRecord → List FrameRecord → ℕ → List Answered
  listed ra rb n = option_to_list (answered_at c (frames_by ra ga) (frames_by rb gb) n)

  abbrev pub below : List FrameRecord → List FrameRecord → ℕ → List Answered
  below ra rb end = answers_below c (frames_by ra ga) (frames_by rb gb) end

  -- what is said of a number depends on its records
  pub listed_same : (n : ℕ) (ra rb sa sb : List FrameRecord) → record_at n ra ≡ record_at n sa
      → record_at n rb ≡ record_at n sb
      → listed ra rb n ≡ listed sa sb n
  listed_same n ra rb sa sb a b = ap₂ (λ (o p : Option FrameRecord). option_to_list (answered_by c n ga gb o p)) a b

  listed_none : (ra rb : List FrameRecord) (n m : ℕ) → AllBelow n ra → AllBelow n rb → n ≤ m → listed ra rb m ≡ []
  listed_none ra rb n m a b l =
      ap₂ (λ (o p : Option FrameRecord). option_to_list (answered_by c m ga gb o p)) (none_found n m ra a l)
      (none_found n m rb b l)

  -- the frames below a number, with records behind those that have none of them
  pub before_more : (ra rb xs ys : List FrameRecord) (n : ℕ) → ((m : ℕ) → m < n → record_at m xs ≡ None)
      → ((m : ℕ) → m < n → record_at m ys ≡ None) → below (ra ++ xs) (rb ++ ys) n ≡ below ra rb n
  before_more ra rb xs ys n a b =
      flat_same (listed (ra ++ xs) (rb ++ ys)) (listed ra rb) 0 n
      (λ k le lt. listed_same k (ra ++ xs) (rb ++ ys) ra rb (at_front k ra xs (a k (omega (arith, lt))))
      (at_front k rb ys (b k (omega (arith, lt)))))

  -- the frames below a number that is above all, or below another such
  longer : (ra rb : List FrameRecord) (n more : ℕ) → AllBelow n ra → AllBelow n rb
      → below ra rb (n + more) ≡ below ra rb n
  longer ra rb n more a b =
      ap (flat_map (listed ra rb)) (range_append 0 n more)
      ∙ flat_map-append (listed ra rb) (range_with_len 0 n) (range_with_len (0 + n) more)
      ∙ ap (λ (l : List Answered). below ra rb n ++ l)
      (nothing (listed ra rb) (0 + n) more (λ k le. listed_none ra rb n k a b (omega (arith, le))))
      ∙ append-nil (below ra rb n)

  -- all are those below a number that none reaches
  pub all_below : (ra rb : List FrameRecord) (n : ℕ) → AllBelow n ra → AllBelow n rb
      → answers c (frames_by ra ga) (frames_by rb gb) ≡ answers_below c (frames_by ra ga) (frames_by rb gb) n
  unfolding answers
  all_below ra rb n a b =
      let end : ℕ = max (above_all ra) (above_all rb) in
      let inside : end ≤ n = omega (arith, above_least n ra a, above_least n rb b) in
      let sum : end + (n - end) ≡ n = omega (arith, inside) in
      sym (longer ra rb end (n - end) (below_more (above_all ra) end ra (omega arith) (above_is ra))
      (below_more (above_all rb) end rb (omega arith) (above_is rb)))
      ∙ ap (below ra rb) sum

-- ---- one number more

pub answers_grow : AnswersGrow
answers_grow c ga gb ra rb xs ys n a b x y =
    all_below c ga gb (ra ++ xs) (rb ++ ys) (n + 1) (all_push n ra xs a x) (all_push n rb ys b y)
    ∙ ap (flat_map (listed c ga gb (ra ++ xs) (rb ++ ys))) (places_more n)
    ∙ flat_map-append (listed c ga gb (ra ++ xs) (rb ++ ys)) (range_with_len 0 n) (n ∷ [])
    ∙ ap₂ (λ (p q : List Answered). p ++ q)
    (before_more c ga gb ra rb xs ys n (λ k lt. none_of n k xs x lt) (λ k lt. none_of n k ys y lt)
    ∙ sym (all_below c ga gb ra rb n a b))
    (append-nil (listed c ga gb (ra ++ xs) (rb ++ ys) n)
    ∙ listed_same c ga gb n (ra ++ xs) (rb ++ ys) xs ys (at_back n ra xs a) (at_back n rb ys b))

pub answers_nothing : (c : Config) (ga gb : List Numbered) → answers c (frames_by [] ga) (frames_by [] gb) ≡ []
unfolding answers
answers_nothing c ga gb = refl
