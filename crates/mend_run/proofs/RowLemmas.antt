-- Feeds in a row.
use Rattle.std.proofs.Common.{◌≡◌, ◌≢◌, ◌⊎◌, inl, inr, ⊎_elim, ℕ, zero, suc, ◌+◌, ◌<◌, ◌≤◌, ◌==◌, true, false}
use Rattle.std.proofs.Common.{List, [], ◌∷◌, ◌++◌}
use Rattle.std.proofs.Common.{length, Option, Some, None, refl, ap, sym, subst, ◌∙◌, arith, length-append}
use Rattle.std.specs.Prelude.{slice_get, slice_set, option_map, IfSome, IfNone}
use Rattle.std.specs.Option.{option_map_or}
use Rattle.std.proofs.lemmas.Bool.{true≢false, cases_lt, eqb-true, eqb-false}
use Rattle.std.proofs.lemmas.Option.{slice_get_within, slice_get_past, same_Some}
use Rattle.terms.proofs.CaseLemmas.{bool_cases}
use Rattle.terms.proofs.OptionLemmas.{none_some}
use Rattle.plp_config.specs.declared.config.Config.{Config}
use Rattle.feed_events.specs.FeedEvents.{FeedEvent}
use Rattle.feed_events.specs.StandsFor.{head_of, fed_of, is_known}
use Rattle.feed_events.specs.declared.course.Head.{Head}
use Rattle.feed_events.specs.declared.course.Head.TheVariants as head
use Rattle.mended_frames.specs.Heads.{head_at}
use Rattle.mended_frames.specs.Picks.{Coming}
use Rattle.mended_frames.proofs.RowLemmas.{set_here, set_there, set_len}
use Rattle.mended_frames.specs.StandsFor.{Feed, pooled_of, AreOf}
use Rattle.file_run.specs.Events.{Event, fed}
use Rattle.file_run.specs.Events as events
use Rattle.mend_run.specs.Row.{Goes, FeedHas, HaveCome, AllGo, LastCame, GoOn, AllKnown, first_waiting}

-- ---- places

-- two rows of one length have something at the same places
pub get_too : {X Y : Type 0} (xs : List X) (ys : List Y) (i : ℕ) (y : Y) → length ys ≡ length xs
    → slice_get ys i ≡ Some y
    → (x : X) × (slice_get xs i ≡ Some x)
get_too [] ys i y len e = absurd (let l = slice_get_within ys i y e in omega (arith, l, len))
get_too (x ∷ xs) [] i y len e = none_some y e
get_too (x ∷ xs) (z ∷ ys) zero y len e = (x, refl)
get_too (x ∷ xs) (z ∷ ys) (suc i) y len e = get_too xs ys i y (omega (arith, len)) e

pub get_at : {X : Type 0} (xs : List X) (i : ℕ) → i < length xs → (x : X) × (slice_get xs i ≡ Some x)
get_at [] i l = absurd (omega (arith, l))
get_at (x ∷ xs) zero l = (x, refl)
get_at (x ∷ xs) (suc i) l = get_at xs i (omega (arith, l))

-- what is there behind one more
pub get_pushed : {X : Type 0} (xs : List X) (x : X) (i : ℕ) (y : X) → slice_get (xs ++ x ∷ []) i ≡ Some y
    → (slice_get xs i ≡ Some y) ⊎ (x ≡ y)
get_pushed [] x zero y e = inr (same_Some x y e)
get_pushed [] x (suc i) y e = none_some y e
get_pushed (z ∷ xs) x zero y e = inl e
get_pushed (z ∷ xs) x (suc i) y e = get_pushed xs x i y e

-- one was changed
pub get_set : {X : Type 0} (xs : List X) (i j : ℕ) (x y : X) → slice_get (slice_set xs i x) j ≡ Some y
    → ((j ≡ i) × (x ≡ y)) ⊎ ((j ≢ i) × (slice_get xs j ≡ Some y))
get_set xs i j x y e = bool_cases (i == j)
    (λ same. let at : i ≡ j = eqb-true i j same in
    let len = slice_get_within (slice_set xs i x) j y e in
    inl (
      sym at,
      same_Some x y (sym (set_here xs i x (omega (arith, len, at, set_len xs i x)))
          ∙ ap (slice_get (slice_set xs i x)) at ∙ e),
    ))
    (λ other. let apart : i ≢ j = eqb-false i j other in
    inr (λ z. apart (sym z), sym (set_there xs i j x apart) ∙ e))

-- ---- what is known

pub known_at : (feeds : List Feed) (i : ℕ) (f : Feed) → slice_get feeds i ≡ Some f → head_at feeds i ≡ head_of f
known_at feeds i f is = ap (λ (o : Option Feed). option_map_or head_of o head.Over) is

pub past_over : (feeds : List Feed) (i : ℕ) → length feeds ≤ i → head_at feeds i ≡ head.Over
past_over feeds i l = ap (λ (o : Option Feed). option_map_or head_of o head.Over) (slice_get_past feeds i l)

-- the first feed that waits
pub record IsFirst (feeds : List Feed) (i : ℕ) : Type 0 where
  pub there : head_at feeds i ≡ head.Unknown
  pub inside : i < length feeds
  pub before : (j : ℕ) → j < i → is_known (head_at feeds j) ≡ true

unknown_is : (h : Head) → is_known h ≡ false → h ≡ head.Unknown
unknown_is head.Unknown e = refl
unknown_is (head.Frame n) e = absurd (true≢false e)
unknown_is head.Silent e = absurd (true≢false e)
unknown_is head.Over e = absurd (true≢false e)

first_here : (f : Feed) (feeds : List Feed) (i : ℕ) → is_known (head_of f) ≡ false → Some 0 ≡ Some i
    → IsFirst (f ∷ feeds) i
first_here f feeds i unknown e =
    subst (IsFirst (f ∷ feeds)) (same_Some 0 i e) (record {
      there = unknown_is (head_of f) unknown;
      inside = omega arith;
      before = λ j l. absurd (omega (arith, l));
    })

known_before : (f : Feed) (feeds : List Feed) → is_known (head_of f) ≡ true → (j : ℕ) → IsFirst feeds j
    → (m : ℕ) → m < suc j
    → is_known (head_at (f ∷ feeds) m) ≡ true
known_before f feeds known j rest zero l = known
known_before f feeds known j rest (suc m) l = rest.before m (omega (arith, l))

first_behind : (f : Feed) (feeds : List Feed) (i : ℕ) → is_known (head_of f) ≡ true → (o : Option ℕ)
    → ((j : ℕ) → o ≡ Some j → IsFirst feeds j) → option_map suc o ≡ Some i → IsFirst (f ∷ feeds) i
first_behind f feeds i known None rest e = none_some i e
first_behind f feeds i known (Some j) rest e =
    let r = rest j refl in
    subst (IsFirst (f ∷ feeds)) (same_Some (suc j) i e) (record {
      there = r.there;
      inside = (let l = r.inside in omega (arith, l));
      before = known_before f feeds known j r;
    })

pub first_some : (feeds : List Feed) (i : ℕ) → first_waiting feeds ≡ Some i → IsFirst feeds i
first_some [] i e = none_some i e
first_some (f ∷ feeds) i e = bool_cases (is_known (head_of f))
    (λ known. first_behind f feeds i known (first_waiting feeds) (λ j is. first_some feeds j is) (rw known at e))
    (λ unknown. first_here f feeds i unknown (rw unknown at e))

none_behind : (f : Feed) (feeds : List Feed) → is_known (head_of f) ≡ true → (o : Option ℕ)
    → (o ≡ None → AllKnown feeds) → option_map suc o ≡ None → AllKnown (f ∷ feeds)
none_behind f feeds known None rest e zero = known
none_behind f feeds known None rest e (suc i) = rest refl i
none_behind f feeds known (Some j) rest e i = none_some (suc j) (sym e)

pub first_none : (feeds : List Feed) → first_waiting feeds ≡ None → AllKnown feeds
first_none [] e i = ap is_known (past_over [] i (omega arith))
first_none (f ∷ feeds) e i = bool_cases (is_known (head_of f))
    (λ known. none_behind f feeds known (first_waiting feeds) (λ is. first_none feeds is) (rw known at e) i)
    (λ unknown. none_some 0 (sym (rw unknown at e)))

-- what is told is the first
not_known : (h : Head) → is_known h ≡ true → h ≡ head.Unknown → ⊥
not_known h known e = true≢false (sym known ∙ ap is_known e)

waiting_some : (feeds : List Feed) (i : ℕ) (o : Option ℕ) → head_at feeds i ≡ head.Unknown
    → ((j : ℕ) → j < i → is_known (head_at feeds j) ≡ true) → first_waiting feeds ≡ o → Some i ≡ o
waiting_some feeds i None there before e = absurd (not_known (head_at feeds i) (first_none feeds e i) there)
waiting_some feeds i (Some j) there before e =
    let f = first_some feeds j e in
    ap Some (order (cases_lt i j) (cases_lt j i) f)
  where
    order : (i < j) ⊎ (j ≤ i) → (j < i) ⊎ (i ≤ j) → IsFirst feeds j → i ≡ j
    order (inl a) b f = absurd (not_known (head_at feeds i) (f.before i a) there)
    order (inr a) (inl b) f = absurd (not_known (head_at feeds j) (before j b) f.there)
    order (inr a) (inr b) f = omega (arith, a, b)

waiting_none : (feeds : List Feed) (o : Option ℕ) → AllKnown feeds → first_waiting feeds ≡ o → None ≡ o
waiting_none feeds None known e = refl
waiting_none feeds (Some j) known e = absurd (not_known (head_at feeds j) (known j) (first_some feeds j e).there)

pub waiting_is : (feeds : List Feed) (o : Option ℕ) → IfSome o (λ i. (i < length feeds)
    × (head_at feeds i ≡ head.Unknown))
    → IfSome o (λ i. (j : ℕ) → j < i → is_known (head_at feeds j) ≡ true)
    → IfNone o ((i : ℕ) → is_known (head_at feeds i) ≡ true)
    → o ≡ first_waiting feeds
waiting_is feeds None some first none = waiting_none feeds (first_waiting feeds) none refl
waiting_is feeds (Some i) some first none = waiting_some feeds i (first_waiting feeds) some.1 first refl

-- ---- a feed took bytes, or its input ended

-- one feed was changed, whose input has more; the others were not
module _ (c : Config) (k : ℕ) (old : List Feed) (input : ℕ) (f g : Feed) (before done : List Event) (gone : ℕ
    → List FeedEvent)
    (is : slice_get old input ≡ Some f)
    (others : (i : ℕ) → i ≢ input → (fed i done ≡ fed i before) × (events.has_ended i done ≡ events.has_ended i before))
    (has : FeedHas c f (fed input before) (events.has_ended input before) (gone input)
    → FeedHas c g (fed input done) (events.has_ended input done) (gone input))
    (back : (x y : Coming) → Goes c g (fed input done) (gone input) x y
    → Goes c f (fed input before) (gone input) x y)
    (last : HaveCome c k old before gone → LastCame c k before done gone) where
  abbrev new : List Feed
  new = slice_set old input g

  come_at : (h : HaveCome c k old before gone) (i : ℕ) (e : Feed) → ((i ≡ input) × (g ≡ e))
      ⊎ ((i ≢ input) × (slice_get old i ≡ Some e))
      → FeedHas c e (fed i done) (events.has_ended i done) (gone i)
  come_at h i e (inl a) =
      rw (a.0, ← a.1) (has (h.each input f is))
  come_at h i e (inr a) =
      let o = others i a.0 in
      rw (o.0, o.1) (h.each i e a.1)

  goes_at : (xs ys : ℕ → Coming) → AllGo c new done gone xs ys → (i : ℕ) (e : Feed) → slice_get old i ≡ Some e
      → Goes c e (fed i before) (gone i) (xs i) (ys i)
  goes_at xs ys all i e there = bool_cases (i == input)
      (λ same. let at : i ≡ input = eqb-true i input same in
      let inside = slice_get_within old i e there in
      let one : f ≡ e = same_Some f e (sym is ∙ ap (slice_get old) (sym at) ∙ there) in
      rw (at, ← one) (back (xs input) (ys input) (all input g (set_here old input g (omega (arith, inside, at))))))
      (λ other. let apart : i ≢ input = eqb-false i input other in
      let o = others i apart in
      rw o.0 at
      (all i e (set_there old input i g (λ z. apart (sym z)) ∙ there)))

  pub go_on : HaveCome c k old before gone → GoOn c k old new before done gone
  go_on h = record {
    come = record {
      count = set_len old input g ∙ h.count;
      each = λ i e there. come_at h i e (get_set old input i g e there);
    };
    back = goes_at;
    last = last h;
  }

-- how many bytes were fed of each is no less
pub fed_set : (feeds : List Feed) (input : ℕ) (f g : Feed) → slice_get feeds input ≡ Some f → fed_of f ≤ fed_of g
    → (i : ℕ) (e h : Feed) → slice_get feeds i ≡ Some e → slice_get (slice_set feeds input g) i ≡ Some h
    → fed_of e ≤ fed_of h
fed_set feeds input f g is more i e h old new = ⊎_elim
    (λ (a : (i ≡ input) × (g ≡ h)).
    let one : f ≡ e = same_Some f e (sym is ∙ ap (slice_get feeds) (sym a.0) ∙ old) in
    rw (← one, ← a.1) more)
    (λ (a : (i ≢ input) × (slice_get feeds i ≡ Some h)). rw (← same_Some h e (sym a.1 ∙ old)) (omega arith))
    (get_set feeds input i g h new)

pub of_set : (feeds : List Feed) (input : ℕ) (f g : Feed) → slice_get feeds input ≡ Some f
    → (pooled_of g).network ≡ (pooled_of f).network → (c : Config) → AreOf c feeds → AreOf c (slice_set feeds input g)
of_set feeds input f g is same c are i h there = ⊎_elim
    (λ (a : (i ≡ input) × (g ≡ h)). rw (← a.1) (same ∙ are input f is))
    (λ (a : (i ≢ input) × (slice_get feeds i ≡ Some h)). are i h a.1)
    (get_set feeds input i g h there)

-- one more, of which nothing came
pub come_pushed : (c : Config) (k : ℕ) (feeds : List Feed) (f : Feed) → HaveCome c k feeds [] (λ i. [])
    → FeedHas c f [] false []
    → HaveCome c (k + 1) (feeds ++ f ∷ []) [] (λ i. [])
come_pushed c k feeds f h has = record {
  count = (let l = length-append feeds (f ∷ []) in let n = h.count in omega (arith, l, n));
  each = λ i g is. ⊎_elim (λ (a : slice_get feeds i ≡ Some g). h.each i g a)
      (λ (a : f ≡ g). rw (← a) has) (get_pushed feeds f i g is);
}

pub of_pushed : (c : Config) (feeds : List Feed) (f : Feed) → AreOf c feeds → FeedHas c f [] false []
    → AreOf c (feeds ++ f ∷ [])
of_pushed c feeds f are has i g is = ⊎_elim (λ (a : slice_get feeds i ≡ Some g). are i g a)
    (λ (a : f ≡ g). rw (← a) has.network) (get_pushed feeds f i g is)
