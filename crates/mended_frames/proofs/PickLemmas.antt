-- Picking, step by step.
use Rattle.std.proofs.Common.{◌≡◌, ◌⊎◌, inl, inr, ℕ, zero, suc, ◌+◌, ◌<◌, ◌≤◌, ◌==◌, ◌||◌, Bool, true, false, cond}
use Rattle.std.proofs.Common.{List, [], ◌∷◌, ◌++◌, length, Option, Some, None, refl, ap, ap₂, sym, subst, ◌∙◌}
use Rattle.std.proofs.Common.{⊎_elim, arith}
use Rattle.std.specs.Prelude.{min, nat_lt}
use Rattle.std.specs.List.{flat_map, range_with_len}
use Rattle.std.proofs.lemmas.Bool.{cond-true, eq-eqb, cases_lt}
use Rattle.std.proofs.lemmas.Option.{same_Some}
use Rattle.terms.proofs.OptionLemmas.{none_some}
use Rattle.frame_groups.specs.Groups.{Group}
use Rattle.feed_events.specs.FeedEvents.{FeedEvent}
use Rattle.feed_events.specs.FeedEvents.FeedEvent.{Has, Silent}
use Rattle.mended_frames.specs.Picks.{Coming, Picked, Taking, picked_of, waits_by, one_waits, number_next, lesser}
use Rattle.mended_frames.specs.Picks.{least_next, is_number, group_next}
use Rattle.mended_frames.specs.Picks.{groups_next, behind, all_behind, pick_next, picked_from, events_in, picks_from}

-- ---- feeds that are the same

-- So many feeds are the same.
abbrev pub AreSame : ℕ → (ℕ → Coming) → (ℕ → Coming) → Type 0
AreSame k f g = (i : ℕ) → i < k → f i ≡ g i

fewer : (k : ℕ) (f g : ℕ → Coming) → AreSame (suc k) f g → AreSame k f g
fewer k f g s = λ i l. s i (omega (arith, l))

waits_same : (k : ℕ) (f g : ℕ → Coming) → AreSame k f g → one_waits k f ≡ one_waits k g
waits_same zero f g s = refl
waits_same (suc k) f g s =
    ap₂ (λ (t : Bool) (x : Coming). t || waits_by x.events x.over) (waits_same k f g (fewer k f g s))
    (s k (omega arith))

least_same : (k : ℕ) (f g : ℕ → Coming) → AreSame k f g → least_next k f ≡ least_next k g
least_same zero f g s = refl
least_same (suc k) f g s =
    ap₂ (λ (o : Option ℕ) (x : Coming). lesser o (number_next x.events)) (least_same k f g (fewer k f g s))
    (s k (omega arith))

events_same : (k : ℕ) (f g : ℕ → Coming) → AreSame k f g → events_in k f ≡ events_in k g
events_same zero f g s = refl
events_same (suc k) f g s =
    ap₂ (λ (n : ℕ) (x : Coming). n + length x.events) (events_same k f g (fewer k f g s)) (s k (omega arith))

behind_same : (number : Option ℕ) (silent : Bool) (k : ℕ) (f g : ℕ → Coming) → AreSame k f g
    → AreSame k (all_behind number silent f) (all_behind number silent g)
behind_same number silent k f g s = λ i l.
    ap (λ (x : Coming). record { events = behind number silent x.events; over = x.over }) (s i l)

range_same : (n a k : ℕ) (f g : ℕ → Coming) → ((i : ℕ) → a ≤ i → i < a + k → f i ≡ g i)
    → flat_map (λ i. group_next n (f i).events) (range_with_len a k) ≡ flat_map (λ i. group_next n (g i).events)
    (range_with_len a k)
range_same n a zero f g s = refl
range_same n a (suc k) f g s =
    ap₂ (λ (x : Coming) (l : List Group). group_next n x.events ++ l) (s a (omega arith) (omega arith))
    (range_same n (a + 1) k f g (λ i l h. s i (omega (arith, l)) (omega (arith, h))))

groups_same : (n k : ℕ) (f g : ℕ → Coming) → AreSame k f g → groups_next n k f ≡ groups_next n k g
groups_same n k f g s = range_same n 0 k f g (λ i l h. s i (omega (arith, h)))

module _ {S X : Type 0} (t : Taking S X) where
  pick_same : (o : Option ℕ) (k : ℕ) (s : S) (f g : ℕ → Coming) (rest : S → (ℕ → Coming) → List X) → AreSame k f g
      → ((s : S) (f g : ℕ → Coming) → AreSame k f g → rest s f ≡ rest s g)
      → pick_next t o k s f rest ≡ pick_next t o k s g rest
  pick_same None k s f g rest same r = r s (all_behind None true f) (all_behind None true g)
      (behind_same None true k f g same)
  pick_same (Some n) k s f g rest same r =
      go (nat_lt n (t.low s)) (ap (λ (gs : List Group). record { number = n; groups = gs }) (groups_same n k f g same))
    where
      go : (u : Bool) → picked_of n k f ≡ picked_of n k g
          → cond u (rest s (all_behind (Some n) false f))
          (t.made s (picked_of n k f) ++ rest (t.behind s (picked_of n k f)) (all_behind (Some n) true f))
          ≡ cond u (rest s (all_behind (Some n) false g))
          (t.made s (picked_of n k g) ++ rest (t.behind s (picked_of n k g)) (all_behind (Some n) true g))
      go true e = r s (all_behind (Some n) false f) (all_behind (Some n) false g)
          (behind_same (Some n) false k f g same)
      go false e =
          ap (λ (p : Picked). t.made s p ++ rest (t.behind s p) (all_behind (Some n) true f)) e
          ∙ ap (λ (l : List X). t.made s (picked_of n k g) ++ l)
          (r (t.behind s (picked_of n k g)) (all_behind (Some n) true f) (all_behind (Some n) true g)
          (behind_same (Some n) true k f g same))

  picked_same : (steps k : ℕ) (s : S) (f g : ℕ → Coming) → AreSame k f g
      → picked_from t steps k s f ≡ picked_from t steps k s g
  picked_same zero k s f g same = refl
  picked_same (suc steps) k s f g same =
      ap₂ (λ (u : Bool) (o : Option ℕ). cond u [] (pick_next t o k s f (λ s feeds. picked_from t steps k s feeds)))
      (waits_same k f g same) (least_same k f g same)
      ∙ ap (λ (l : List X). cond (one_waits k g) [] l)
      (pick_same (least_next k g) k s f g (λ s feeds. picked_from t steps k s feeds) same
      (λ s f g same. picked_same steps k s f g same))

  pub picks_same : (k : ℕ) (s : S) (f g : ℕ → Coming) → AreSame k f g → picks_from t k s f ≡ picks_from t k s g
  picks_same k s f g same =
      ap (λ (n : ℕ). picked_from t n k s f) (events_same k f g same) ∙ picked_same (events_in k g) k s f g same

-- ---- each step passes an event

pub behind_less : (number : Option ℕ) (silent : Bool) (es : List FeedEvent)
    → length (behind number silent es) ≤ length es
behind_less number silent [] = omega arith
behind_less number silent (Has x ∷ es) = go (is_number number x.number)
  where
    go : (t : Bool) → length (cond t es (Has x ∷ es)) ≤ length (Has x ∷ es)
    go true = omega arith
    go false = omega arith
behind_less number true (Silent ∷ es) = omega arith
behind_less number false (Silent ∷ es) = omega arith

pub all_less : (number : Option ℕ) (silent : Bool) (k : ℕ) (f : ℕ → Coming)
    → events_in k (all_behind number silent f) ≤ events_in k f
all_less number silent zero f = omega arith
all_less number silent (suc k) f =
    let a = all_less number silent k f in
    let b = behind_less number silent (f k).events in
    omega (arith, a, b)

-- the least number is one of a feed, and that feed passes it
pub passes_number : (silent : Bool) (n : ℕ) (es : List FeedEvent) → number_next es ≡ Some n
    → length (behind (Some n) silent es) < length es
passes_number silent n [] e = none_some n e
passes_number silent n (Has x ∷ es) e =
    subst (λ (l : List FeedEvent). length l < length (Has x ∷ es))
    (sym (cond-true (n == x.number) es (Has x ∷ es) (eq-eqb n x.number (sym (same_Some x.number n e))))) (omega arith)
passes_number silent n (Silent ∷ es) e = none_some n e

pub lesser_is : (a b : Option ℕ) (n : ℕ) → lesser a b ≡ Some n → (a ≡ Some n) ⊎ (b ≡ Some n)
lesser_is None b n e = inr e
lesser_is (Some m) None n e = inl e
lesser_is (Some l) (Some m) n e = go (min_is l m)
  where
    go : (min l m ≡ l) ⊎ (min l m ≡ m) → (Some l ≡ Some n) ⊎ (Some m ≡ Some n)
    go (inl a) = inl (ap Some (sym a) ∙ e)
    go (inr a) = inr (ap Some (sym a) ∙ e)

    min_is : (l m : ℕ) → (min l m ≡ l) ⊎ (min l m ≡ m)
    min_is l m = ⊎_elim (λ (a : l < m). inl (omega (arith, a))) (λ (a : m ≤ l). inr (omega (arith, a))) (cases_lt l m)

pub passes_least : (silent : Bool) (n k : ℕ) (f : ℕ → Coming) → least_next k f ≡ Some n
    → events_in k (all_behind (Some n) silent f) < events_in k f
passes_least silent n zero f e = none_some n e
passes_least silent n (suc k) f e =
    go (λ a. passes_least silent n k f a) (lesser_is (least_next k f) (number_next (f k).events) n e)
  where
    go : (least_next k f ≡ Some n → events_in k (all_behind (Some n) silent f) < events_in k f)
        → (least_next k f ≡ Some n) ⊎ (number_next (f k).events ≡ Some n)
        → events_in (suc k) (all_behind (Some n) silent f) < events_in (suc k) f
    go rest (inl a) = let x = rest a in let y = behind_less (Some n) silent (f k).events in omega (arith, x, y)
    go rest (inr b) = let x = all_less (Some n) silent k f in let y = passes_number silent n (f k).events
        b in omega (arith, x, y)

-- ---- silences

pub lesser_none : (a b : Option ℕ) → lesser a b ≡ None → (a ≡ None) × (b ≡ None)
lesser_none None b e = (refl, e)
lesser_none (Some m) None e = none_some m (sym e)
lesser_none (Some m) (Some n) e = none_some (min m n) (sym e)

passes_one : (es : List FeedEvent) → number_next es ≡ None → (length es ≡ 0)
    ⊎ (length (behind None true es) < length es)
passes_one [] e = inl refl
passes_one (Has x ∷ es) e = none_some x.number (sym e)
passes_one (Silent ∷ es) e = inr (omega arith)

passes_silence : (k : ℕ) (f : ℕ → Coming) → least_next k f ≡ None
    → (events_in k f ≡ 0) ⊎ (events_in k (all_behind None true f) < events_in k f)
passes_silence zero f e = inl refl
passes_silence (suc k) f e =
    let n = lesser_none (least_next k f) (number_next (f k).events) e in
    go (passes_silence k f n.0) (passes_one (f k).events n.1)
  where
    go : (events_in k f ≡ 0) ⊎ (events_in k (all_behind None true f) < events_in k f)
        → (length (f k).events ≡ 0) ⊎ (length (behind None true (f k).events) < length (f k).events)
        → (events_in (suc k) f ≡ 0) ⊎ (events_in (suc k) (all_behind None true f) < events_in (suc k) f)
    go (inl a) (inl b) = inl (omega (arith, a, b))
    go (inl a) (inr b) = let x = all_less None true k f in inr (omega (arith, x, b))
    go (inr a) b = let y = behind_less None true (f k).events in inr (omega (arith, a, y))

-- ---- so many steps are enough

-- behind what is next there are fewer events
behind_next : (k : ℕ) (f : ℕ → Coming) (o : Option ℕ) (silent : Bool) → least_next k f ≡ o → (o ≡ None → silent ≡ true)
    → (n : ℕ) → events_in k f ≤ suc n → events_in k (all_behind o silent f) ≤ n
behind_next k f None silent e s n l =
    subst (λ (t : Bool). events_in k (all_behind None t f) ≤ n) (sym (s refl)) (go (passes_silence k f e))
  where
    go : (events_in k f ≡ 0) ⊎ (events_in k (all_behind None true f) < events_in k f)
        → events_in k (all_behind None true f) ≤ n
    go (inl a) = let x = all_less None true k f in omega (arith, a, x)
    go (inr a) = omega (arith, a, l)
behind_next k f (Some m) silent e s n l = let x = passes_least silent m k f e in omega (arith, x, l)

least_nothing : (k : ℕ) (f : ℕ → Coming) → events_in k f ≡ 0 → least_next k f ≡ None
least_nothing zero f e = refl
least_nothing (suc k) f e = ap₂ lesser (least_nothing k f (omega (arith, e))) (none (f k).events (omega (arith, e)))
  where
    none : (es : List FeedEvent) → length es ≡ 0 → number_next es ≡ None
    none [] e = refl
    none (x ∷ es) e = absurd (omega (arith, e))

module _ {S X : Type 0} (t : Taking S X) where
  rest_same : (o : Option ℕ) (k : ℕ) (s : S) (f : ℕ → Coming) (a b : S → (ℕ → Coming) → List X)
      → ((silent : Bool) → (o ≡ None → silent ≡ true) → (s : S) → a s (all_behind o silent f) ≡ b s
      (all_behind o silent f))
      → pick_next t o k s f a ≡ pick_next t o k s f b
  rest_same None k s f a b e = e true (λ _. refl) s
  rest_same (Some n) k s f a b e = go (nat_lt n (t.low s))
    where
      go : (u : Bool)
          → cond u (a s (all_behind (Some n) false f))
          (t.made s (picked_of n k f) ++ a (t.behind s (picked_of n k f)) (all_behind (Some n) true f))
          ≡ cond u (b s (all_behind (Some n) false f))
          (t.made s (picked_of n k f) ++ b (t.behind s (picked_of n k f)) (all_behind (Some n) true f))
      go true = e false (λ x. none_some n (sym x)) s
      go false = ap (λ (l : List X). t.made s (picked_of n k f) ++ l)
          (e true (λ _. refl) (t.behind s (picked_of n k f)))

  nothing : (a k : ℕ) (s : S) (f : ℕ → Coming) → events_in k f ≡ 0 → picked_from t a k s f ≡ []
  nothing zero k s f e = refl
  nothing (suc a) k s f e =
      let x = all_less None true k f in
      ap (λ (o : Option ℕ). cond (one_waits k f) [] (pick_next t o k s f (λ s feeds. picked_from t a k s feeds)))
      (least_nothing k f e)
      ∙ ap (λ (l : List X). cond (one_waits k f) [] l) (nothing a k s (all_behind None true f) (omega (arith, e, x)))
      ∙ both (one_waits k f)
    where
      both : (u : Bool) → cond {A = List X} u [] [] ≡ []
      both true = refl
      both false = refl

  enough : (a b k : ℕ) (s : S) (f : ℕ → Coming) → events_in k f ≤ a → events_in k f ≤ b
      → picked_from t a k s f ≡ picked_from t b k s f
  enough zero b k s f x y = sym (nothing b k s f (omega (arith, x)))
  enough (suc a) zero k s f x y = nothing (suc a) k s f (omega (arith, y))
  enough (suc a) (suc b) k s f x y =
      ap (λ (l : List X). cond (one_waits k f) [] l)
      (rest_same (least_next k f) k s f (λ s feeds. picked_from t a k s feeds) (λ s feeds. picked_from t b k s feeds)
      (λ silent q s. enough a b k s (all_behind (least_next k f) silent f)
      (behind_next k f (least_next k f) silent refl q a x) (behind_next k f (least_next k f) silent refl q b y)))

  -- ---- the laws

  pub picks_wait : (k : ℕ) (s : S) (f : ℕ → Coming) → one_waits k f ≡ true → picks_from t k s f ≡ []
  picks_wait k s f w = go (events_in k f)
    where
      go : (n : ℕ) → picked_from t n k s f ≡ []
      go zero = refl
      go (suc n) = ap (λ (u : Bool). cond u [] (pick_next t (least_next k f) k s f
          (λ s feeds. picked_from t n k s feeds))) w

  pub picks_over : (k : ℕ) (s : S) (f : ℕ → Coming) → events_in k f ≡ 0 → picks_from t k s f ≡ []
  picks_over k s f e = nothing (events_in k f) k s f e

  pub picks_on : (k : ℕ) (s : S) (f : ℕ → Coming) → one_waits k f ≡ false → 0 < events_in k f
      → picks_from t k s f ≡ pick_next t (least_next k f) k s f (λ s feeds. picks_from t k s feeds)
  picks_on k s f w some = go (events_in k f) refl
    where
      go : (n : ℕ) → events_in k f ≡ n → picked_from t n k s f
          ≡ pick_next t (least_next k f) k s f (λ s feeds. picks_from t k s feeds)
      go zero e = absurd (omega (arith, e, some))
      go (suc n) e =
          ap (λ (u : Bool). cond u [] (pick_next t (least_next k f) k s f (λ s feeds. picked_from t n k s feeds))) w
          ∙ rest_same (least_next k f) k s f (λ s feeds. picked_from t n k s feeds) (λ s feeds. picks_from t k s feeds)
          (λ silent q s.
          let less = behind_next k f (least_next k f) silent refl q n (omega (arith, e)) in
          enough n (events_in k (all_behind (least_next k f) silent f)) k s (all_behind (least_next k f) silent f) less
          (omega arith))
