-- What holds of the events of feeds holds of what is next of them, and of what is made.
use Rattle.std.proofs.Common.{◌≡◌, ◌⊎◌, inl, inr, ℕ, zero, suc, ◌+◌, ◌<◌, ◌≤◌, ◌==◌, Bool, true, false, List, [], ◌∷◌}
use Rattle.std.proofs.Common.{◌++◌, Option, Some, None, refl, sym, ⊎_elim, arith}
use Rattle.std.specs.Prelude.{nat_lt, option_to_list, find}
use Rattle.std.specs.List.{flat_map, range_with_len, AllByRecursion}
use Rattle.std.proofs.lemmas.Bool.{cond_both, eqb-true, cases_eq, cases_Bool}
use Rattle.std.proofs.lemmas.Option.{same_Some}
use Rattle.terms.proofs.AllLemmas.{all_append}
use Rattle.terms.proofs.OptionLemmas.{none_some}
use Rattle.plp_config.specs.declared.config.Config.{Config}
use Rattle.frame_groups.specs.Groups.{Group}
use Rattle.frame_groups.specs.Modulated.{Numbered}
use Rattle.feed_events.specs.FeedEvents.{FeedEvent}
use Rattle.feed_events.specs.FeedEvents.FeedEvent.{Has, Silent}
use Rattle.mended_frames.specs.Picks.{Coming, number_next, least_next, is_number, group_next, groups_next, behind}
use Rattle.mended_frames.specs.Picks.{all_behind, one_waits, picked_of, pick_next, picked_from}
use Rattle.mended_frames.specs.Mended.{Made, made_of, past_with, low_of, taking}
use Rattle.mended_frames.proofs.PickLemmas.{lesser_is}

-- ---- one of a list

-- One of a list is so.
abbrev pub OneOf : {X : Type 0} → (X → Type 0) → List X → Type 0
OneOf P [] = ⊥
OneOf P (x ∷ xs) = P x ⊎ OneOf P xs

pub one_before : {X : Type 0} (P : X → Type 0) (xs ys : List X) → OneOf P xs → OneOf P (xs ++ ys)
one_before P [] ys h = absurd h
one_before P (x ∷ xs) ys (inl h) = inl h
one_before P (x ∷ xs) ys (inr h) = inr (one_before P xs ys h)

pub one_behind : {X : Type 0} (P : X → Type 0) (xs ys : List X) → OneOf P ys → OneOf P (xs ++ ys)
one_behind P [] ys h = h
one_behind P (x ∷ xs) ys h = inr (one_behind P xs ys h)

-- and of the lists that are made of the numbers of a range
pub one_among : {X : Type 0} (P : X → Type 0) (f : ℕ → List X) (w n a : ℕ) → a ≤ w → w < a + n → OneOf P (f w)
    → OneOf P (flat_map f (range_with_len a n))
one_among P f w zero a low high h = absurd (omega arith)
one_among P f w (suc n) a low high h = elim (cases_eq a w) [
  | inl e ↦ one_before P (f a) (flat_map f (range_with_len (a + 1) n)) (rw e h)
  | inr ne ↦ one_behind P (f a) (flat_map f (range_with_len (a + 1) n))
      (one_among P f w n (a + 1) (omega arith) (omega arith) h)
]

-- what is found passes the test, and has what all have
pub found : {X : Type 0} (P : X → Type 0) (test : X → Bool) (xs : List X) (x : X) → AllByRecursion P xs
    → find test xs ≡ Some x → P x × (test x ≡ true)
found P test [] x h e = none_some x e
found P test (y ∷ xs) x h e = elim (cases_Bool (test y)) [
  | inl t ↦ rw (← (same_Some y x (rw t at e))) (h.0, t)
  | inr t ↦ found P test xs x h.1 (rw t at e)
]

-- ---- what is next

-- what all events are is so of those behind some
pub behind_all : (P : FeedEvent → Type 0) (number : Option ℕ) (silent : Bool) (events : List FeedEvent)
    → AllByRecursion P events → AllByRecursion P (behind number silent events)
behind_all P number silent [] h = tt
behind_all P number silent (Has x ∷ events) h =
    cond_both {A = List FeedEvent} (is_number number x.number) _ _ (AllByRecursion P) (λ t. h.1) (λ t. h)
behind_all P number true (Silent ∷ events) h = h.1
behind_all P number false (Silent ∷ events) h = h

-- what the first packets of a feed are tells of its next number, and of the least of so many feeds
module _ (P : List FeedEvent → Type 0) where
  abbrev pub Feeds : ℕ → (ℕ → Coming) → Type 0
  Feeds k feeds = (i : ℕ) → i < k → P (feeds i).events

  module _ (Q : ℕ → Type 0) (each : (x : Numbered) (events : List FeedEvent) → P (Has x ∷ events) → Q x.number) where
    next_is : (events : List FeedEvent) (n : ℕ) → P events → number_next events ≡ Some n → Q n
    next_is [] n h e = none_some n e
    next_is (Has x ∷ events) n h e = rw (sym (same_Some x.number n e)) (each x events h)
    next_is (Silent ∷ events) n h e = none_some n e

    pub least_is : (k n : ℕ) (feeds : ℕ → Coming) → Feeds k feeds → least_next k feeds ≡ Some n → Q n
    least_is zero n feeds h e = none_some n e
    least_is (suc k) n feeds h e = ⊎_elim
        (λ (a : least_next k feeds ≡ Some n). least_is k n feeds (λ i l. h i (omega arith)) a)
        (λ (b : number_next (feeds k).events ≡ Some n). next_is (feeds k).events n (h k (omega arith)) b)
        (lesser_is (least_next k feeds) (number_next (feeds k).events) n e)

  -- and of the groups of a number that are next
  module _ (Q : Group → Type 0) (n : ℕ)
      (each : (x : Numbered) (events : List FeedEvent) → P (Has x ∷ events) → n ≡ x.number → Q x.group) where
    next_groups : (events : List FeedEvent) → P events → AllByRecursion Q (group_next n events)
    next_groups [] h = tt
    next_groups (Has x ∷ events) h =
        cond_both {A = List Group} (n == x.number) _ _ (AllByRecursion Q)
        (λ t. (each x events h (eqb-true n x.number t), tt)) (λ t. tt)
    next_groups (Silent ∷ events) h = tt

    groups_from : (k j a : ℕ) (feeds : ℕ → Coming) → Feeds k feeds → a + j ≤ k
        → AllByRecursion Q (flat_map (λ i. group_next n (feeds i).events) (range_with_len a j))
    groups_from k zero a feeds h l = tt
    groups_from k (suc j) a feeds h l =
        all_append Q (group_next n (feeds a).events)
        (flat_map (λ i. group_next n (feeds i).events) (range_with_len (a + 1) j))
        (next_groups (feeds a).events (h a (omega arith))) (groups_from k j (a + 1) feeds h (omega arith))

    pub all_groups : (k : ℕ) (feeds : ℕ → Coming) → Feeds k feeds → AllByRecursion Q (groups_next n k feeds)
    all_groups k feeds h = groups_from k k 0 feeds h (omega arith)

-- ---- what is made

one_made : (M : Made → Type 0) (o : Option Made) (rest : List Made) → ((x : Made) → o ≡ Some x → M x)
    → AllByRecursion M rest → AllByRecursion M (option_to_list o ++ rest)
one_made M None rest f h = h
one_made M (Some x) rest f h = (f x refl, h)

-- if what is made of the least number is so, all that is made is
module _ (c : Config) (k : ℕ) (P : FeedEvent → Type 0) (M : Made → Type 0)
    (own : (n : ℕ) (past : List Numbered) (feeds : ℕ → Coming) → Feeds (AllByRecursion P) k feeds
    → least_next k feeds ≡ Some n → (x : Made) → made_of c past (picked_of n k feeds) ≡ Some x → M x) where
  abbrev picks : ℕ → List Numbered → (ℕ → Coming) → List Made
  picks steps past feeds = picked_from (taking c) steps k past feeds

  pick_made : (o : Option ℕ) (steps : ℕ) (past : List Numbered) (feeds : ℕ → Coming) → Feeds (AllByRecursion P) k feeds
      → least_next k feeds ≡ o
      → ((past : List Numbered) (feeds : ℕ → Coming) → Feeds (AllByRecursion P) k feeds
      → AllByRecursion M (picks steps past feeds))
      → AllByRecursion M (pick_next (taking c) o k past feeds (λ past feeds. picks steps past feeds))
  pick_made None steps past feeds h e more =
      more past (all_behind None true feeds) (λ i l. behind_all P None true (feeds i).events (h i l))
  pick_made (Some n) steps past feeds h e more =
      let o : Option Made = made_of c past (picked_of n k feeds) in
      cond_both {A = List Made} (nat_lt n (low_of past)) _ _ (AllByRecursion M)
      (λ t. more past (all_behind (Some n) false feeds) (λ i l. behind_all P (Some n) false (feeds i).events (h i l)))
      (λ t. one_made M o (picks steps (past_with past o) (all_behind (Some n) true feeds)) (own n past feeds h e)
      (more (past_with past o) (all_behind (Some n) true feeds)
      (λ i l. behind_all P (Some n) true (feeds i).events (h i l))))

  pub all_made : (steps : ℕ) (past : List Numbered) (feeds : ℕ → Coming) → Feeds (AllByRecursion P) k feeds
      → AllByRecursion M (picks steps past feeds)
  all_made zero past feeds h = tt
  all_made (suc steps) past feeds h =
      cond_both {A = List Made} (one_waits k feeds) _ _ (AllByRecursion M) (λ t. tt)
      (λ t. pick_made (least_next k feeds) steps past feeds h refl (λ past feeds h. all_made steps past feeds h))
