-- What is next in feeds is passed, and the packets of a frame that are next in them.
use Rattle.std.proofs.Common.{◌≡◌, ℕ, zero, suc, ◌+◌, ◌-◌, ◌<◌, ◌≤◌, ◌==◌, Bool, true, false, cond, List, [], ◌∷◌, ◌++◌}
use Rattle.std.proofs.Common.{length, Option, Some, None, refl, ap, ap₂, sym, subst, ◌∙◌, arith, append_assoc}
use Rattle.std.proofs.Common.{append-nil}
use Rattle.std.specs.Prelude.{slice_get}
use Rattle.std.specs.List.{flat_map, range_with_len}
use Rattle.std.proofs.lemmas.Bool.{true≢false, cond-true, cond-false, eq-eqb, eqb-true, eqb-false}
use Rattle.std.proofs.lemmas.Option.{same_Some}
use Rattle.terms.proofs.CaseLemmas.{bool_cases}
use Rattle.terms.proofs.OptionLemmas.{none_some}
use Rattle.plp_config.specs.declared.config.Config.{Config}
use Rattle.frame_groups.specs.Groups.{Group}
use Rattle.frame_groups.specs.Modulated.{Rules}
use Rattle.feed_events.specs.FeedEvents.{FeedEvent}
use Rattle.feed_events.specs.StandsFor.{head_of, left_of, has_ended, is_known, shown}
use Rattle.feed_events.specs.declared.course.Head.{Head}
use Rattle.feed_events.specs.declared.course.Head.TheVariants as head
use Rattle.mended_frames.specs.Heads.{AllPass, Passes, PassesIf, Begins, is_passed, number_at}
use Rattle.mended_frames.specs.Picks.{Coming, behind, group_next}
use Rattle.mended_frames.proofs.HeadLemmas.{behind_shown, behind_kept}
use Rattle.frame_weave.specs.contracts.group.MarkedGroupOpenGroup.TheImpl as marked
use Rattle.mended_frames.specs.StandsFor.{Feed, pooled_of, AreOf, HaveGroups, is_at}
use Rattle.file_run.specs.Events.{Event, fed}
use Rattle.file_run.specs.Events as events
use Rattle.mend_run.specs.Row.{Goes, Shows, FeedHas, HaveCome, Pass, AllKnown, OnePasses, left_in}
use Rattle.mend_run.proofs.FeedLemmas.{begins, shown_group, same_group}
use Rattle.mend_run.proofs.RowLemmas.{get_too, get_at, known_at}

-- ---- something is passed

-- a silence is passed only if it is to be
silent_only : (number : Option ℕ) (silent : Bool) (h : Head) → is_passed number silent h ≡ true → number_at h ≡ None
    → silent ≡ true
silent_only number silent head.Unknown p e = absurd (true≢false (sym p))
silent_only number silent (head.Frame n) p e = none_some n (sym e)
silent_only number silent head.Silent p e = p
silent_only number silent head.Over p e = absurd (true≢false (sym p))

network_same : (f g : Feed) → marked.ghosts.rules f.frames.group ≡ marked.ghosts.rules g.frames.group
    → (pooled_of f).network ≡ (pooled_of g).network
network_same f g e = ap (λ (r : Rules). r.network) e

-- one feed
module _ (c : Config) (number : Option ℕ) (silent : Bool) (bytes : List ℕ) (ended : Bool) (gone : List FeedEvent)
    (f g : Feed)
    (h : FeedHas c f bytes ended gone) (shows : Shows g) (p : PassesIf (is_passed number silent (head_of f)) f g) where
  abbrev passed_by : Bool → List FeedEvent
  passed_by t = cond t (shown f h.stands.group) []

  abbrev pub passed : List FeedEvent
  passed = passed_by (is_passed number silent (head_of f))

  passes_if : (t : Bool) → is_passed number silent (head_of f) ≡ t → PassesIf t f g
  passes_if t e = subst (λ (b : Bool). PassesIf b f g) e p

  has_passed : (t : Bool) → PassesIf t f g → FeedHas c g bytes ended (gone ++ passed_by t)
  has_passed true q = record {
    network = network_same g f q.rules ∙ h.network;
    stands = q.stands bytes gone h.stands;
    end = q.ended ∙ h.end;
    shows = shows;
  }
  has_passed false q =
      rw (q, append-nil gone) h

  pub has : FeedHas c g bytes ended (gone ++ passed)
  has = has_passed (is_passed number silent (head_of f)) p

  ended_same : (t : Bool) → PassesIf t f g → has_ended g ≡ has_ended f
  ended_same true q = q.ended
  ended_same false q = ap has_ended q

  -- what comes before what it can go on with now
  abbrev pub before : Coming → Coming
  before y = record { events = passed ++ y.events; over = y.over }

  pub goes : (x y : Coming) → Goes c g bytes (gone ++ passed) x y → Goes c f bytes gone x (before y)
  goes x y go = record {
    all = go.all;
    later = go.later;
    can = rw (ended_same (is_passed number silent (head_of f)) p) at go.can;
    is = go.is;
    parts = go.parts ∙ append_assoc gone passed y.events;
    over = go.over;
  }

  pub behind_is : (x y : Coming) → is_known (head_of f) ≡ true → Goes c g bytes (gone ++ passed) x y
      → behind number silent (passed ++ y.events) ≡ y.events
  behind_is x y known go = bool_cases (is_passed number silent (head_of f))
      (λ on. ap (λ (t : Bool). behind number silent (passed_by t ++ y.events)) on
      ∙ behind_shown number silent (head_of f) h.stands.group y.events on (silent_only number silent (head_of f) on)
      (λ n e. shown_group c f bytes ended gone h n e))
      (λ off.
      let start = ap passed_by off in
      ap (λ (t : Bool). behind number silent (passed_by t ++ y.events)) off
      ∙ behind_kept number silent (head_of f) y known off
      (begins c f bytes ended gone x y h
      (subst (λ (z : Feed). Goes c z bytes gone x y) (passes_if false off)
      (subst (λ (l : List FeedEvent). Goes c g bytes l x y) (ap (λ (l : List FeedEvent). gone ++ l) start
      ∙ append-nil gone) go))))

-- so many feeds
module _ (c : Config) (k : ℕ) (number : Option ℕ) (silent : Bool) (old new : List Feed) (done : List Event) (gone : ℕ
    → List FeedEvent)
    (h : HaveCome c k old done gone) (shows : (i : ℕ) (f : Feed) → slice_get new i ≡ Some f → Shows f)
    (p : AllPass {o = marked.ghosts} number silent old new) (known : AllKnown old) where
  abbrev bytes : ℕ → List ℕ
  bytes = λ i. fed i done

  abbrev ended : ℕ → Bool
  ended = λ i. events.has_ended i done

  abbrev past_at : (i : ℕ) (o : Option Feed) → slice_get old i ≡ o → List FeedEvent
  past_at i None e = []
  past_at i (Some f) e =
      let q = p.each i f e in
      passed c number silent (bytes i) (ended i) (gone i) f q.0 (h.each i f e) (shows i q.0 q.1) q.2

  abbrev past : ℕ → List FeedEvent
  past i = gone i ++ past_at i (slice_get old i) refl

  come_at : (i : ℕ) (g : Feed) → slice_get new i ≡ Some g → (o : Option Feed) (e : slice_get old i ≡ o)
      → FeedHas c g (bytes i) (ended i) (gone i ++ past_at i o e)
  come_at i g is None e =
      let q = get_too old new i g p.len is in
      none_some q.0 (sym e ∙ q.1)
  come_at i g is (Some f) e =
      let q = p.each i f e in
      rw (← same_Some q.0 g (sym q.1 ∙ is))
      (has c number silent (bytes i) (ended i) (gone i) f q.0 (h.each i f e) (shows i q.0 q.1) q.2)

  abbrev before_at : (ℕ → Coming) → ℕ → Coming
  before_at ys i = record { events = past_at i (slice_get old i) refl ++ (ys i).events; over = (ys i).over }

  goes_at : (xs ys : ℕ → Coming) (i : ℕ) (f : Feed) → slice_get old i ≡ Some f
      → (o : Option Feed) (e : slice_get old i ≡ o)
      → ((g : Feed) → slice_get new i ≡ Some g → Goes c g (bytes i) (gone i ++ past_at i o e) (xs i) (ys i))
      → Goes c f (bytes i) (gone i) (xs i) (record { events = past_at i o e ++ (ys i).events; over = (ys i).over })
  goes_at xs ys i f there None e go = none_some f (sym e ∙ there)
  goes_at xs ys i f there (Some d) e go =
      let q = p.each i d e in
      subst (λ (z : Feed). Goes c z (bytes i) (gone i) (xs i)
      (record { events = past_at i (Some d) e ++ (ys i).events; over = (ys i).over }))
      (same_Some d f (sym e ∙ there))
      (goes c number silent (bytes i) (ended i) (gone i) d q.0 (h.each i d e) (shows i q.0 q.1) q.2 (xs i)
      (ys i) (go q.0 q.1))

  same_at : (xs ys : ℕ → Coming) (i : ℕ) → i < k → (o : Option Feed) (e : slice_get old i ≡ o)
      → ((g : Feed) → slice_get new i ≡ Some g → Goes c g (bytes i) (gone i ++ past_at i o e) (xs i) (ys i))
      → behind number silent (past_at i o e ++ (ys i).events) ≡ (ys i).events
  same_at xs ys i l None e go =
      let count = h.count in
      let f = get_at old i (omega (arith, l, count)) in
      none_some f.0 (sym e ∙ f.1)
  same_at xs ys i l (Some d) e go =
      let q = p.each i d e in
      behind_is c number silent (bytes i) (ended i) (gone i) d q.0 (h.each i d e) (shows i q.0 q.1) q.2 (xs i) (ys i)
      (sym (ap is_known (known_at old i d e)) ∙ known i) (go q.0 q.1)

  pub pass_row : Pass c k number silent old new done gone
  pass_row = record {
    past = past;
    come = record { count = p.len ∙ h.count; each = λ i g is. come_at i g is (slice_get old i) refl };
    back = λ xs ys all. (
      before_at ys,
      λ i f there. goes_at xs ys i f there (slice_get old i) refl (λ g is. all i g is),
      λ i l. ap (λ (es : List FeedEvent). as_coming es (ys i).over) (same_at xs ys i l (slice_get old i)
          refl (λ g is. all i g is)),
    );
  }
    where
      as_coming : List FeedEvent → Bool → Coming
      as_coming es over = record { events = es; over = over }

-- ---- fewer are left

left_less : (old new : List Feed) → length new ≡ length old
    → ((i : ℕ) (f : Feed) → slice_get old i ≡ Some f → (g : Feed) × (slice_get new i ≡ Some g)
    × (left_of g ≤ left_of f))
    → left_in new ≤ left_in old
left_less [] [] len each = omega arith
left_less [] (g ∷ new) len each = absurd (omega (arith, len))
left_less (f ∷ old) [] len each = absurd (omega (arith, len))
left_less (f ∷ old) (g ∷ new) len each =
    let q = each 0 f refl in
    let here : left_of g ≤ left_of f = rw (← same_Some q.0 g (sym q.1)) q.2 in
    let rest = left_less old new (omega (arith, len)) (λ i e is. each (suc i) e is) in
    omega (arith, here, rest)

left_fewer : (old new : List Feed) → length new ≡ length old
    → ((i : ℕ) (f : Feed) → slice_get old i ≡ Some f → (g : Feed) × (slice_get new i ≡ Some g)
    × (left_of g ≤ left_of f))
    → (i : ℕ) (f g : Feed) → slice_get old i ≡ Some f → slice_get new i ≡ Some g → left_of g < left_of f
    → left_in new < left_in old
left_fewer [] new len each i f g is there less = none_some f is
left_fewer (e ∷ old) [] len each i f g is there less = none_some g there
left_fewer (e ∷ old) (d ∷ new) len each zero f g is there less =
    let here : left_of d < left_of e = rw (same_Some e f is, same_Some d g there) less in
    let rest = left_less old new (omega (arith, len)) (λ i e is. each (suc i) e is) in
    omega (arith, here, rest)
left_fewer (e ∷ old) (d ∷ new) len each (suc i) f g is there less =
    let q = each 0 e refl in
    let here : left_of d ≤ left_of e = rw (← same_Some q.0 d (sym q.1)) q.2 in
    let rest = left_fewer old new (omega (arith, len)) (λ i e is. each (suc i) e is) i f g is there less in
    omega (arith, here, rest)

passes_less : (t : Bool) (f g : Feed) → PassesIf t f g → left_of g ≤ left_of f
passes_less true f g q = (let l = q.left in omega (arith, l))
passes_less false f g q = (let e = ap left_of q in omega (arith, e))

pub left_passed : (number : Option ℕ) (silent : Bool) (old new : List Feed)
    → AllPass {o = marked.ghosts} number silent old new
    → OnePasses number silent old → left_in new < left_in old
left_passed number silent old new p one =
    let f = get_at old one.input one.inside in
    let q = p.each one.input f.0 f.1 in
    let on : is_passed number silent (head_of f.0) ≡ true = sym (ap (is_passed number silent)
    (known_at old one.input f.0 f.1)) ∙ one.passed in
    let passes : Passes f.0 q.0 = subst (λ (t : Bool). PassesIf t f.0 q.0) on q.2 in
    left_fewer old new p.len
    (λ i e is. let r = p.each i e is in (r.0, r.1, passes_less (is_passed number silent (head_of e)) e r.0 r.2))
    one.input f.0 q.0 f.1 q.1 passes.left

of_if : (t : Bool) (f g : Feed) → PassesIf t f g → (pooled_of g).network ≡ (pooled_of f).network
of_if true f g q = network_same g f q.rules
of_if false f g q = ap (λ (z : Feed). (pooled_of z).network) q

pub of_passed : (number : Option ℕ) (silent : Bool) (old new : List Feed)
    → AllPass {o = marked.ghosts} number silent old new
    → (c : Config) → AreOf c old → AreOf c new
of_passed number silent old new p c are i h there =
    let f = get_too old new i h p.len there in
    let q = p.each i f.0 f.1 in
    rw (← same_Some q.0 h (sym q.1 ∙ there))
    (of_if (is_passed number silent (head_of f.0)) f.0 q.0 q.2 ∙ are i f.0 f.1)

-- ---- the packets of a frame that are next

-- The groups that are next, however the feeds go on.
pub record NextGroups (c : Config) (n : ℕ) (feeds : List Feed) (a : ℕ) (done : List Event) (gone : ℕ
    → List FeedEvent) : Type 0 where
  pub groups : List Group
  pub have : HaveGroups n feeds groups
  pub are : (xs ys : ℕ → Coming)
      → ((i : ℕ) (f : Feed) → a ≤ i → slice_get feeds (i - a) ≡ Some f → Goes c f (fed i done) (gone i) (xs i) (ys i))
      → flat_map (λ i. group_next n (ys i).events) (range_with_len a (length feeds)) ≡ groups

at_head : (n : ℕ) (h : Head) → is_at n h ≡ true → h ≡ head.Frame n
at_head n head.Unknown e = absurd (true≢false (sym e))
at_head n (head.Frame m) e = ap head.Frame (eqb-true m n e)
at_head n head.Silent e = absurd (true≢false (sym e))
at_head n head.Over e = absurd (true≢false (sym e))

not_at : (n : ℕ) (h : Head) (y : Coming) → is_known h ≡ true → is_at n h ≡ false → Begins h y
    → group_next n y.events ≡ []
not_at n head.Unknown y known e b = absurd (true≢false (sym known))
not_at n (head.Frame m) y known e b =
    ap (group_next n) b.2 ∙ cond-false (n == m) (b.0 ∷ []) [] (apart n m e)
  where
    apart : (n m : ℕ) → (m == n) ≡ false → (n == m) ≡ false
    apart n m e = bool_cases (n == m) (λ on. absurd (eqb-false m n e (sym (eqb-true n m on)))) (λ off. off)
not_at n head.Silent y known e b = ap (group_next n) b.1
not_at n head.Over y known e b = ap (group_next n) b.0

from_first : (a k : ℕ) (f : ℕ → List Group) → flat_map f (range_with_len a (suc k)) ≡ f a ++ flat_map
    f (range_with_len (suc a) k)
from_first a k f = ap (λ (b : ℕ). f a ++ flat_map f (range_with_len b k)) (let e : a + 1 ≡ suc a = omega arith in e)

module _ (c : Config) (n : ℕ) (done : List Event) (gone : ℕ → List FeedEvent) where
  abbrev Feeds : List Feed → ℕ → Type 0
  Feeds feeds a = (i : ℕ) (f : Feed) → a ≤ i → slice_get feeds (i - a) ≡ Some f
      → FeedHas c f (fed i done) (events.has_ended i done) (gone i) × (is_known (head_of f) ≡ true)

  here : (f : Feed) (feeds : List Feed) (a : ℕ) → slice_get (f ∷ feeds) (a - a) ≡ Some f
  here f feeds a = ap (slice_get (f ∷ feeds)) (let e : a - a ≡ 0 = omega arith in e)

  behind_here : (f g : Feed) (feeds : List Feed) (a i : ℕ) → suc a ≤ i → slice_get feeds (i - suc a) ≡ Some g
      → slice_get (f ∷ feeds) (i - a) ≡ Some g
  behind_here f g feeds a i l is = ap (slice_get (f ∷ feeds)) (let e : i - a ≡ suc (i - suc a) = omega (arith, l) in e)
      ∙ is

  first_too : (f : Feed) (feeds : List Feed) (a : ℕ) → Feeds (f ∷ feeds) a → NextGroups c n feeds (suc a) done gone
      → (t : Bool) → is_at n (head_of f) ≡ t → NextGroups c n (f ∷ feeds) a done gone
  first_too f feeds a all rest true e =
      let h = all a f (omega arith) (here f feeds a) in
      let at : head_of f ≡ head.Frame n = at_head n (head_of f) e in
      let x = shown_group c f (fed a done) (events.has_ended a done) (gone a) h.0 n at in
      record {
        groups = x.0 ∷ rest.groups;
        have = rw e (record {
          group = x.0;
          own = h.0.stands.held.own;
          holds = rw x.1 at h.0.stands.held.holds;
          more = rest.groups;
          are = refl;
          others = rest.have;
        });
        are = λ xs ys goes.
            let s = same_group c f (fed a done) (events.has_ended a done) (gone a) h.0 (xs a) (ys a)
            (goes a f (omega arith) (here f feeds a)) n x.0 at x.1 in
            from_first a (length feeds) (λ i. group_next n (ys i).events)
            ∙ ap₂ (λ (gs hs : List Group). gs ++ hs)
            (ap (group_next n) s.1 ∙ cond-true (n == n) (x.0 ∷ []) [] (eq-eqb n n refl))
            (rest.are xs ys (λ i g l is. goes i g (omega (arith, l)) (behind_here f g feeds a i l is)));
      }
  first_too f feeds a all rest false e =
      let h = all a f (omega arith) (here f feeds a) in
      record {
        groups = rest.groups;
        have = rw e rest.have;
        are = λ xs ys goes.
            let go = goes a f (omega arith) (here f feeds a) in
            from_first a (length feeds) (λ i. group_next n (ys i).events)
            ∙ ap₂ (λ (gs hs : List Group). gs ++ hs)
            (not_at n (head_of f) (ys a) h.1 e
            (begins c f (fed a done) (events.has_ended a done) (gone a) (xs a) (ys a) h.0 go))
            (rest.are xs ys (λ i g l is. goes i g (omega (arith, l)) (behind_here f g feeds a i l is)));
      }

  groups_from : (feeds : List Feed) (a : ℕ) → Feeds feeds a → NextGroups c n feeds a done gone
  groups_from [] a all = record { groups = []; have = refl; are = λ xs ys goes. refl }
  groups_from (f ∷ feeds) a all =
      first_too f feeds a all
      (groups_from feeds (suc a) (λ i g l is. all i g (omega (arith, l)) (behind_here f g feeds a i l is)))
      (is_at n (head_of f)) refl

  pub next_groups : (k : ℕ) (feeds : List Feed) → HaveCome c k feeds done gone → AllKnown feeds
      → NextGroups c n feeds 0 done gone
  next_groups k feeds h known =
      groups_from feeds 0 (λ i f l is.
      let e : slice_get feeds i ≡ Some f = ap (slice_get feeds) (let z : i ≡ i - 0 = omega arith in z) ∙ is in
      (h.each i f e, sym (ap is_known (known_at feeds i f e)) ∙ known i))
