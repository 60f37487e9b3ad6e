-- What records tell of epochs, record by record.
use Rattle.std.proofs.Common.{◌≡◌, ◌≢◌, ℕ, suc, ◌+◌, ◌-◌, ◌*◌, ◌/◌, ◌%◌, ◌<◌, ◌≤◌, ◌==◌, ◌&&◌, Bool, true, false}
use Rattle.std.proofs.Common.{List, [], ◌∷◌, ◌++◌, length, drop, Option, Some, None, refl, ap, ◌∙◌, sym, subst}
use Rattle.std.proofs.Common.{arith, inl, inr, cond, length-append}
use Rattle.std.specs.Prelude.{not}
use Rattle.std.specs.List.{AllZip, range_with_len}
use Rattle.std.proofs.lemmas.Bool.{cases_lt, ne_eqb, lt-leb, le-leb, eq-eqb}
use Rattle.std.proofs.lemmas.List.{length-drop, drop_all, drop-append-le, take-append-le, take_all}
use Rattle.std.proofs.lemmas.List.Folds.{list_all-append}
use Rattle.std.proofs.lemmas.Nat.{div-add-mod', le-div}
use Rattle.std.proofs.Math.Bool.{and-true}
use Rattle.std.proofs.Math.Nat.{div-mul-le_self, mul-le-mul_right}
use Rattle.terms.proofs.RangeLemmas.{range_more}
use Rattle.plp_receiver.proofs.TimeLemmas.{next_epoch, same_epoch}
use Rattle.plp_receiver.specs.SlotEpochs.{Epoch}
use Rattle.plp_config.specs.declared.config.Config.{Config}
use Rattle.site_frame.specs.declared.reading.RecordView.{RecordView}
use Rattle.plp_receiver.specs.Parts.{Part, count_of}
use Rattle.plp_config.specs.Plps.{spread}
use Rattle.plp_receiver.specs.Epochs.{part_of, with_part, parts_of, agree, agreeing, epoch_parts, Tells, epochs_in}
use Rattle.plp_receiver.specs.Epochs.{TellAll}
use Rattle.plp_receiver.specs.Holds.{Holds, seen_from, seen, is_begun, joined}
use Rattle.plp_receiver.specs.declared.held.HeldBlocks.{HeldBlocks}
use Rattle.plp_receiver.proofs.ListLemmas.{zip_more, zip_over}

-- ---- one part more
abbrev more : Option (List Part) → Option Part → Option (List Part)
more None part = None
more (Some parts) None = None
more (Some parts) (Some q) = Some (parts ++ q ∷ [])

with_none : (o : Option Part) → with_part o (Some []) ≡ more (Some []) o
with_none None = refl
with_none (Some p) = refl

with_more : (o : Option Part) (parts : Option (List Part)) (q : Option Part)
    → with_part o (more parts q) ≡ more (with_part o parts) q
with_more None parts q = refl
with_more (Some p) None q = refl
with_more (Some p) (Some parts) None = refl
with_more (Some p) (Some parts) (Some q) = refl

parts_more : (c : Config) (n : ℕ) (views : List RecordView) (v : RecordView) → parts_of c n (views ++ v ∷ [])
    ≡ more (parts_of c n views) (part_of c (n + length views) v)
unfolding parts_of
parts_more c n [] v =
    let e : n ≡ n + 0 = omega arith in
    with_none (part_of c n v) ∙ ap (λ (k : ℕ). more (Some []) (part_of c k v)) e
parts_more c n (w ∷ views) v =
    let e : n + 1 + length views ≡ n + suc (length views) = omega arith in
    ap (with_part (part_of c n w)) (parts_more c (n + 1) views v)
    ∙ with_more (part_of c n w) (parts_of c (n + 1) views) (part_of c (n + 1 + length views) v)
    ∙ ap (λ (k : ℕ). more (with_part (part_of c n w) (parts_of c (n + 1) views)) (part_of c k v)) e

agreeing_more : (plp : ℕ) (parts : Option (List Part)) (q : Option Part) → agreeing plp (more parts q)
    ≡ joined plp (agreeing plp parts) q
agreeing_more plp None q = refl
agreeing_more plp (Some []) None = refl
agreeing_more plp (Some []) (Some q) = refl
agreeing_more plp (Some (p ∷ parts)) None = go (agree plp (p ∷ parts))
  where
    go : (b : Bool) → None ≡ joined plp (cond {A = Option (List Part)} b (Some (p ∷ parts)) None) None
    go true = refl
    go false = refl
agreeing_more plp (Some (p ∷ parts)) (Some q) =
    ap (λ (b : Bool). cond {A = Option (List Part)} b (Some (p ∷ parts ++ q ∷ [])) None)
    (list_all-append (λ (x : Part). count_of plp x == count_of plp p) parts (q ∷ []))
    ∙ go (agree plp (p ∷ parts))
  where
    go : (a : Bool) → cond {A = Option (List Part)} (a && ((count_of plp q == count_of plp p) && true))
        (Some (p ∷ parts ++ q ∷ [])) None
        ≡ joined plp (cond {A = Option (List Part)} a (Some (p ∷ parts)) None) (Some q)
    go true = ap (λ (b : Bool). cond {A = Option (List Part)} b (Some (p ∷ parts ++ q ∷ [])) None)
        (and-true (count_of plp q == count_of plp p))
    go false = refl

pub begun_joined : (plp : ℕ) (parts : Option (List Part)) (part : Option Part) → is_begun (joined plp parts part) ≡ true
begun_joined plp None part = refl
begun_joined plp (Some parts) None = none parts
  where
    none : (ps : List Part) → is_begun (joined plp (Some ps) None) ≡ true
    none [] = refl
    none (p ∷ ps) = refl
begun_joined plp (Some []) (Some q) = refl
begun_joined plp (Some (p ∷ parts)) (Some q) = go (count_of plp q == count_of plp p)
  where
    go : (b : Bool) → is_begun (cond {A = Option (List Part)} b (Some (p ∷ parts ++ q ∷ [])) None) ≡ true
    go true = refl
    go false = refl

-- ---- the epoch under way
pub seen_more : (c : Config) (plp first : ℕ) (views : List RecordView) (v : RecordView) (from : ℕ)
    → from ≤ first + length views
    → seen_from c plp first (views ++ v ∷ []) from ≡ joined plp (seen_from c plp first views from)
    (part_of c (first + length views) v)
seen_more c plp first views v from l =
    grind (arith, cases_lt, lt-leb, drop-append-le, length-drop, le-leb, parts_more, agreeing_more)

no_parts : (c : Config) (n : ℕ) → parts_of c n [] ≡ Some []
unfolding parts_of
no_parts c n = refl

-- before its first record nothing is seen of it
pub none_seen : (c : Config) (plp first : ℕ) (views : List RecordView) (from : ℕ) → from ≡ first + length views
    → seen_from c plp first views from ≡ Some []
none_seen c plp first views from e = grind (arith, le-leb, drop_all, no_parts)

begun_parts : (c : Config) (plp n : ℕ) (v : RecordView) (views : List RecordView)
    → is_begun (agreeing plp (parts_of c n (v ∷ views))) ≡ true
unfolding parts_of
begun_parts c plp n v views = grind (arith, Option)

-- behind it something is
some_seen : (c : Config) (plp first : ℕ) (views : List RecordView) (from : ℕ) → from < first + length views
    → is_begun (seen_from c plp first views from) ≡ true
some_seen c plp first views from l =
    elim (cases_lt from first) [
      | inl lt ↦ rw (lt-leb first from lt)
      | inr ge ↦ rw (le-leb first from ge)
          (go (drop (from - first) views) (omega (arith, l, ge, length-drop (from - first) views)))
    ]
  where
    go : (xs : List RecordView) → 1 ≤ length xs → is_begun (agreeing plp (parts_of c from xs)) ≡ true
    go [] m = absurd (omega (arith, m))
    go (x ∷ xs) m = begun_parts c plp from x xs

module _ (c : Config) (plp first : ℕ) (views : List RecordView) where
  abbrev s : ℕ
  s = spread c.plps plp

  abbrev n : ℕ
  n = first + length views

  module _ (some : 1 ≤ s) where
    whole : n / s * s + n % s ≡ n
    whole = div-add-mod' n s

    pub seen_begun : is_begun (seen c plp first views) ≡ not (n % s == 0)
    seen_begun = grind (arith, cases_lt, some_seen, whole, ne_eqb, none_seen, eq-eqb)

    module _ (v : RecordView) where
      abbrev longer : List RecordView
      longer = views ++ v ∷ []

      next : first + length longer ≡ n + 1
      next = omega (arith, length-append views (v ∷ []))

      pub seen_joined : seen_from c plp first longer (n / s * s) ≡ joined plp (seen c plp first views) (part_of c n v)
      seen_joined = seen_more c plp first views v (n / s * s) (omega (arith, whole))

      -- the epoch goes on
      pub seen_on : (n + 1) % s ≢ 0 → seen c plp first longer ≡ joined plp (seen c plp first views) (part_of c n v)
      seen_on ne = grind (arith, next, same_epoch, seen_joined)

      -- it has ended
      pub seen_anew : (n + 1) % s ≡ 0 → seen c plp first longer ≡ Some []
      seen_anew z = grind (arith, div-add-mod', next, none_seen)

      pub ended_parts : (n + 1) % s ≡ 0 → epoch_parts c plp first longer (n / s)
          ≡ joined plp (seen c plp first views) (part_of c n v)
      ended_parts z =
          grind (arith, next_epoch, div-add-mod', cases_lt, lt-leb, take_all, length-drop, next, seen_joined)

  -- an epoch that had ended before
  pub same_parts : (others : List RecordView) (m : ℕ) → m * s + s ≤ n
      → epoch_parts c plp first (views ++ others) m ≡ epoch_parts c plp first views m
  same_parts others m l = grind (arith, cases_lt, lt-leb, drop-append-le, take-append-le, length-drop)

  ended : (m k : ℕ) → m < first / s + (k / s - first / s) → first / s ≤ k / s → m * s + s ≤ k
  ended m k l low = grind (arith, mul-le-mul_right, div-mul-le_self)

  -- what was told of them
  pub told_before : (others : List RecordView) (told : List Epoch) → first / s ≤ n / s
      → AllZip (λ m e. Tells c plp (epoch_parts c plp first views m) e) (epochs_in s first (length views)) told
      → AllZip (λ m e. Tells c plp (epoch_parts c plp first (views ++ others) m) e) (epochs_in s first (length views))
      told
  told_before others told low z = grind (arith, zip_over, Option, same_parts, ended)

  pub told_after : (others : List RecordView) (told : List Epoch) → first / s ≤ n / s
      → AllZip (λ m e. Tells c plp (epoch_parts c plp first (views ++ others) m) e) (epochs_in s first (length views))
      told
      → AllZip (λ m e. Tells c plp (epoch_parts c plp first views m) e) (epochs_in s first (length views)) told
  told_after others told low z = grind (arith, zip_over, Option, same_parts, ended)

-- a later frame is of no earlier epoch
pub epoch_rises : (s a b : ℕ) → 1 ≤ s → a ≤ b → a / s ≤ b / s
epoch_rises s a b l m = le-div (a / s) b s (omega (arith, l)) (omega (arith, m, div-mul-le_self a s))

-- before a record came
pub none_told : (c : Config) (plp first : ℕ) → TellAll c plp first [] []
unfolding TellAll
none_told c plp first = grind arith

pub first_seen : (c : Config) (plp first : ℕ) → 1 ≤ spread c.plps plp → (h : HeldBlocks) → h.there ≡ false
    → Holds c plp (seen c plp first []) h
first_seen c plp first some h lost = grind (arith, div-add-mod', cases_lt, lt-leb, none_seen, Option)

module _ (c : Config) (plp first : ℕ) (views : List RecordView) (v : RecordView) (some : 1 ≤ spread c.plps plp)
    (told : List Epoch) (tells : TellAll c plp first views told) where
  abbrev rate : ℕ
  rate = spread c.plps plp

  abbrev number : ℕ
  number = first + length views

  low : first / rate ≤ number / rate
  low = epoch_rises rate first number some (omega arith)

  count : first + length (views ++ v ∷ []) ≡ number + 1
  count = omega (arith, length-append views (v ∷ []))

  -- one record more, with which no epoch ends
  pub told_on : (number + 1) % rate ≢ 0 → TellAll c plp first (views ++ v ∷ []) told
  unfolding TellAll
  told_on ne = grind (arith, count, same_epoch, told_before, low)

  -- with which one ends
  pub told_more : (number + 1) % rate ≡ 0 → (e : Epoch)
      → Tells c plp (joined plp (seen c plp first views) (part_of c number v)) e
      → TellAll c plp first (views ++ v ∷ []) (told ++ e ∷ [])
  unfolding TellAll
  told_more z e t =
      let next : (first + length (views ++ v ∷ [])) / rate ≡ number / rate + 1 = ap (λ (k : ℕ). k / rate) count
      ∙ next_epoch rate number some z in
      let n : ℕ = number / rate - first / rate in
      let last : first / rate + n ≡ number / rate = omega (arith, low) in
      let longer : (first + length (views ++ v ∷ [])) / rate - first / rate ≡ n + 1 = omega (arith, next, low) in
      let R : ℕ → Epoch → Type 0 = λ m x. Tells c plp (epoch_parts c plp first (views ++ v ∷ []) m) x in
      let here : R (first / rate + n) e =
      subst (λ (m : ℕ). R m e) (sym last)
      (subst (λ (o : Option (List Part)). Tells c plp o e) (sym (ended_parts c plp first views some v z)) t) in
      subst (λ (k : ℕ). AllZip R (range_with_len (first / rate) k) (told ++ e ∷ [])) (sym longer)
      (subst (λ (l : List ℕ). AllZip R l (told ++ e ∷ [])) (sym (range_more (first / rate) n))
      (zip_more R (range_with_len (first / rate) n) told (first / rate + n) e
      (told_before c plp first views (v ∷ []) told low tells) here))
