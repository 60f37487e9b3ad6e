-- What feeds show, and what is known of them.
use Rattle.std.proofs.Common.{◌≡◌, ◌≢◌, ℕ, zero, suc, ◌<◌, ◌≤◌, ◌||◌, Bool, true, false, List, [], ◌∷◌}
use Rattle.std.proofs.Common.{◌++◌, length, Option, Some, None, refl, ap, ap₂, sym, subst, ◌∙◌, ⊎_elim, arith}
use Rattle.std.proofs.lemmas.Bool.{true≢false, cond-true, cond-false, cases_lt, or_left, or_right}
use Rattle.terms.proofs.OptionLemmas.{none_some}
use Rattle.frame_groups.specs.Groups.{Group}
use Rattle.feed_events.specs.FeedEvents.{FeedEvent}
use Rattle.feed_events.specs.FeedEvents.FeedEvent.{Has, Silent}
use Rattle.feed_events.specs.StandsFor.{is_known}
use Rattle.feed_events.specs.Under.{head_events}
use Rattle.feed_events.specs.declared.course.Head.{Head}
use Rattle.feed_events.specs.declared.course.Head.TheVariants as head
use Rattle.mended_frames.specs.Heads.{number_at, least_head, is_passed, Begins}
use Rattle.mended_frames.specs.Picks.{Coming, waits_by, one_waits, number_next, lesser, least_next, is_number, behind}
use Rattle.mended_frames.specs.Picks.{events_in}

-- So it is of so many feeds.
abbrev pub AllBegin : ℕ → (ℕ → Head) → (ℕ → Coming) → Type 0
AllBegin k heads feeds = (i : ℕ) → i < k → Begins (heads i) (feeds i)

abbrev pub AllKnown : ℕ → (ℕ → Head) → Type 0
AllKnown k heads = (i : ℕ) → i < k → is_known (heads i) ≡ true

one_begins : (h : Head) (x : Coming) → is_known h ≡ true → Begins h x → (number_next x.events ≡ number_at h)
    × (waits_by x.events x.over ≡ false)
one_begins head.Unknown x known b = absurd (true≢false (sym known))
one_begins (head.Frame n) x known b = (ap number_next b.2, ap (λ (l : List FeedEvent). waits_by l x.over) b.2)
one_begins head.Silent x known b = (ap number_next b.1, ap (λ (l : List FeedEvent). waits_by l x.over) b.1)
one_begins head.Over x known b = (ap number_next b.0, ap₂ waits_by b.0 b.1)

pub least_known : (k : ℕ) (heads : ℕ → Head) (feeds : ℕ → Coming) → AllKnown k heads → AllBegin k heads feeds
    → least_next k feeds ≡ least_head k heads
least_known zero heads feeds known b = refl
least_known (suc k) heads feeds known b =
    ap₂ lesser (least_known k heads feeds (λ i l. known i (omega (arith, l))) (λ i l. b i (omega (arith, l))))
    (one_begins (heads k) (feeds k) (known k (omega arith)) (b k (omega arith))).0

pub none_waits : (k : ℕ) (heads : ℕ → Head) (feeds : ℕ → Coming) → AllKnown k heads → AllBegin k heads feeds
    → one_waits k feeds ≡ false
none_waits zero heads feeds known b = refl
none_waits (suc k) heads feeds known b =
    ap₂ (λ (s t : Bool). s || t)
    (none_waits k heads feeds (λ i l. known i (omega (arith, l))) (λ i l. b i (omega (arith, l))))
    (one_begins (heads k) (feeds k) (known k (omega arith)) (b k (omega arith))).1

-- a feed waits of which nothing more is known
pub it_waits : (k : ℕ) (feeds : ℕ → Coming) (i : ℕ) → i < k → (feeds i).events ≡ [] → (feeds i).over ≡ false
    → one_waits k feeds ≡ true
it_waits zero feeds i l e o = absurd (omega (arith, l))
it_waits (suc k) feeds i l e o = ⊎_elim
    (λ (a : i < k). or_left (one_waits k feeds) (waits_by (feeds k).events (feeds k).over) (it_waits k feeds i a e o))
    (λ (a : k ≤ i).
    let at : i ≡ k = omega (arith, a, l) in
    or_right (one_waits k feeds) (waits_by (feeds k).events (feeds k).over)
    (ap₂ waits_by (ap (λ (j : ℕ). (feeds j).events) (sym at) ∙ e) (ap (λ (j : ℕ). (feeds j).over) (sym at) ∙ o)))
    (cases_lt i k)

-- what is passed is what was shown
pub behind_shown : (number : Option ℕ) (silent : Bool) (h : Head) (g : Option Group) (more : List FeedEvent)
    → is_passed number silent h ≡ true → (number_at h ≡ None → silent ≡ true)
    → (some : (n : ℕ) → h ≡ head.Frame n → (x : Group) × (g ≡ Some x))
    → behind number silent (head_events h g ++ more) ≡ more
behind_shown number silent head.Unknown g more p s some = absurd (true≢false (sym p))
behind_shown number silent (head.Frame n) None more p s some = absurd (no_group (some n refl).1)
  where
    no_group : {x : Group} → None ≡ Some x → ⊥
    no_group {x} e = none_some x e
behind_shown number silent (head.Frame n) (Some x) more p s some =
    cond-true (is_number number n) more (Has (record { number = n; group = x }) ∷ more) p
behind_shown number silent head.Silent g more p s some = cond-true silent more (Silent ∷ more) p
behind_shown number silent head.Over g more p s some = absurd (true≢false (sym p))

-- and what is not passed stays
pub behind_kept : (number : Option ℕ) (silent : Bool) (h : Head) (x : Coming) → is_known h ≡ true
    → is_passed number silent h ≡ false
    → Begins h x → behind number silent x.events ≡ x.events
behind_kept number silent head.Unknown x known p b = absurd (true≢false (sym known))
behind_kept number silent (head.Frame n) x known p b =
    ap (behind number silent) b.2
    ∙ cond-false (is_number number n) b.1 (Has (record { number = n; group = b.0 }) ∷ b.1) p
    ∙ sym b.2
behind_kept number silent head.Silent x known p b =
    ap (behind number silent) b.1 ∙ cond-false silent b.0 (Silent ∷ b.0) p ∙ sym b.1
behind_kept number silent head.Over x known p b = ap (behind number silent) b.0 ∙ sym b.0

-- some feed has an event, if a number or a silence is next
some_events : (h : Head) (x : Coming) → Begins h x → h ≢ head.Unknown → h ≢ head.Over → 0 < length x.events
some_events head.Unknown x b u o = absurd (u refl)
some_events (head.Frame n) x b u o = subst (λ (l : List FeedEvent). 0 < length l) (sym b.2) (omega arith)
some_events head.Silent x b u o = subst (λ (l : List FeedEvent). 0 < length l) (sym b.1) (omega arith)
some_events head.Over x b u o = absurd (o refl)

pub events_some : (k : ℕ) (heads : ℕ → Head) (feeds : ℕ → Coming) → AllBegin k heads feeds → (i : ℕ) → i < k
    → heads i ≢ head.Unknown → heads i ≢ head.Over → 0 < events_in k feeds
events_some zero heads feeds b i l u o = absurd (omega (arith, l))
events_some (suc k) heads feeds b i l u o = ⊎_elim
    (λ (a : i < k). let x = events_some k heads feeds (λ j m. b j (omega (arith, m))) i a u o in omega (arith, x))
    (λ (a : k ≤ i).
    let at : i ≡ k = omega (arith, a, l) in
    let x = subst (λ (j : ℕ). 0 < length (feeds j).events) at (some_events (heads i) (feeds i) (b i l) u o) in
    omega (arith, x))
    (cases_lt i k)

-- none has, if all are over
pub events_none : (k : ℕ) (heads : ℕ → Head) (feeds : ℕ → Coming) → AllBegin k heads feeds
    → ((i : ℕ) → i < k → heads i ≡ head.Over) → events_in k feeds ≡ 0
events_none zero heads feeds b over = refl
events_none (suc k) heads feeds b over =
    let x = events_none k heads feeds (λ j m. b j (omega (arith, m))) (λ j m. over j (omega (arith, m))) in
    let y = ap (λ (l : List FeedEvent). length l) (subst (λ (h : Head). Begins h (feeds k)) (over k (omega arith))
    (b k (omega arith))).0 in
    omega (arith, x, y)
