-- The steps of a run: which frames come next.
use Rattle.std.proofs.Common.{◌≡◌, ◌≢◌, ◌⊎◌, inl, inr, ℕ, zero, suc, ◌-◌, ◌<◌, ◌≤◌, Bool, true, false, List, [], ◌∷◌}
use Rattle.std.proofs.Common.{◌++◌, length, Option, Some, None, refl, ap, sym, ◌∙◌, ⊎_elim, arith}
use Rattle.std.specs.Prelude.{nat_lt, slice_get, option_to_list}
use Rattle.std.proofs.lemmas.Bool.{true≢false, cond-true, cond-false, cases_lt, eq-eqb, lt-ltb, le-ltb}
use Rattle.std.proofs.lemmas.Option.{same_Some}
use Rattle.terms.proofs.OptionLemmas.{none_some}
use Rattle.plp_config.specs.declared.config.Config.{Config}
use Rattle.plp_config.specs.declared.moment.TheConstants.{MOST_FRAMES}
use Rattle.frame_groups.specs.Modulated.{Numbered}
use Rattle.frame_groups.specs.Sequenced.{IsAbove}
use Rattle.feed_events.specs.FeedEvents.{FeedEvent}
use Rattle.feed_events.specs.StandsFor.{is_known}
use Rattle.feed_events.specs.declared.course.Head.{Head}
use Rattle.feed_events.specs.declared.course.Head.TheVariants as head
use Rattle.mended_frames.specs.Heads.{Begins, head_at, least_head, number_at, is_passed}
use Rattle.mended_frames.specs.Picks.{Coming, picked_of, one_waits, least_next, pick_next, picks_from, all_behind}
use Rattle.mended_frames.specs.Picks.{events_in, groups_next}
use Rattle.mended_frames.proofs.HeadLemmas.{least_known, none_waits, events_some, events_none}
use Rattle.mended_frames.proofs.PickLemmas.{picks_on, picks_over, lesser_is, lesser_none}
use Rattle.mended_frames.specs.Mended.{Made, taking, made_of, past_with, low_of}
use Rattle.mended_frames.specs.StandsFor.{Feed, picked_as}
use Rattle.ts_packet.specs.declared.sizes.TheConstants.{SIZE}
use Rattle.file_run.specs.Events.{Event, fed}
use Rattle.file_run.specs.FileRun.{read_ahead}
use Rattle.file_run.specs.declared.machine.Step.TheVariants.{Read, Give, End}
use Rattle.mend_run.specs.AsMachine.{left_of, left_at, step_in, step_of}
use Rattle.mend_run.specs.Row.{HaveCome, AllGo, AllKnown, OnePasses, first_waiting, left_in, wants}
use Rattle.mend_run.specs.declared.machine.MendMachine.{MendMachine}
use Rattle.mend_run.specs.declared.phase.Phase.{Phase}
use Rattle.mend_run.specs.declared.phase.Phase.TheVariants as phase
use Rattle.mend_run.proofs.FeedLemmas.{begins}
use Rattle.mend_run.proofs.PassLemmas.{NextGroups}
use Rattle.mend_run.proofs.RowLemmas.{get_at, known_at, past_over, first_none}

-- ---- the least number

-- it is next in one of the feeds
pub record IsNextAt (feeds : List Feed) (k n : ℕ) : Type 0 where
  pub input : ℕ
  pub inside : input < k
  pub is : head_at feeds input ≡ head.Frame n

number_is : (h : Head) (n : ℕ) → number_at h ≡ Some n → h ≡ head.Frame n
number_is head.Unknown n e = none_some n e
number_is (head.Frame m) n e = ap head.Frame (same_Some m n e)
number_is head.Silent n e = none_some n e
number_is head.Over n e = none_some n e

pub least_at : (feeds : List Feed) (k n : ℕ) → least_head k (head_at feeds) ≡ Some n → IsNextAt feeds k n
least_at feeds zero n e = none_some n e
least_at feeds (suc k) n e = ⊎_elim
    (λ (a : least_head k (head_at feeds) ≡ Some n).
    let x = least_at feeds k n a in
    let l = x.inside in
    record { input = x.input; inside = omega (arith, l); is = x.is })
    (λ (a : number_at (head_at feeds k) ≡ Some n).
    record { input = k; inside = omega arith; is = number_is (head_at feeds k) n a })
    (lesser_is (least_head k (head_at feeds)) (number_at (head_at feeds k)) n e)

pub early_at : (feeds : List Feed) (n : ℕ) → IsNextAt feeds (length feeds) n → n < MOST_FRAMES
early_at feeds n x =
    let f = get_at feeds x.input x.inside in
    f.0.frames.early n (sym (known_at feeds x.input f.0 f.1) ∙ x.is)

pub passes_at : (feeds : List Feed) (n : ℕ) (silent : Bool) → IsNextAt feeds (length feeds) n
    → OnePasses (Some n) silent feeds
passes_at feeds n silent x = record {
  input = x.input;
  inside = x.inside;
  passed = ap (is_passed (Some n) silent) x.is ∙ eq-eqb n n refl;
}

none_at : (feeds : List Feed) (k : ℕ) → least_head k (head_at feeds) ≡ None → (i : ℕ) → i < k
    → number_at (head_at feeds i) ≡ None
none_at feeds zero e i l = absurd (omega (arith, l))
none_at feeds (suc k) e i l =
    let n = lesser_none (least_head k (head_at feeds)) (number_at (head_at feeds k)) e in
    ⊎_elim (λ (a : i < k). none_at feeds k n.0 i a)
    (λ (a : k ≤ i). ap (λ (j : ℕ). number_at (head_at feeds j)) (let z : i ≡ k = omega (arith, a, l) in z)
    ∙ n.1) (cases_lt i k)

over_is : (h : Head) → is_known h ≡ true → number_at h ≡ None → h ≢ head.Silent → h ≡ head.Over
over_is head.Unknown known none silent = absurd (true≢false (sym known))
over_is (head.Frame n) known none silent = none_some n (sym none)
over_is head.Silent known none silent = absurd (silent refl)
over_is head.Over known none silent = refl

pub all_over : (feeds : List Feed) (k : ℕ) → AllKnown feeds → least_head k (head_at feeds) ≡ None
    → ((i : ℕ) → head_at feeds i ≢ head.Silent) → (i : ℕ) → i < k → head_at feeds i ≡ head.Over
all_over feeds k known none silent i l = over_is (head_at feeds i) (known i) (none_at feeds k none i l) (silent i)

-- a step that passes something leaves less
pub step_left : (m n : MendMachine) → m.phase ≡ phase.Looks → n.phase ≡ phase.Looks
    → left_in n.feeds.items < left_in m.feeds.items
    → left_of n < left_of m
step_left m n was is less =
    let a : left_of m ≡ _ = ap (λ (p : Phase). left_at p m) was in
    let b : left_of n ≡ _ = ap (λ (p : Phase). left_at p n) is in
    omega (arith, less, a, b)

-- if it gives, but nothing of feeds or a frame, it gives the rest
pub rests_at : (m : MendMachine) → step_of m ≡ Give → (m.phase ≡ phase.Rests) ⊎ (m.phase ≡ phase.Done)
    → m.phase ≡ phase.Rests
rests_at m gives (inl rests) = rests
rests_at m gives (inr done) =
    absurd (let z : End ≡ Give = sym (ap (λ (p : Phase). step_in p m.feeds.items) done) ∙ gives in cc)

-- where no bytes are wanted it is known what is next in each
pub gives_known : (feeds : List Feed) → wants (first_waiting feeds) ≡ Give → AllKnown feeds
gives_known feeds e = first_none feeds (none_wanted (first_waiting feeds) e)
  where
    none_wanted : (o : Option ℕ) → wants o ≡ Give → o ≡ None
    none_wanted None e = refl
    none_wanted (Some w) e = absurd (let z : Read w SIZE read_ahead ≡ Give = e in cc)

-- where all have ended it is known what is next
pub all_known : (feeds : List Feed) (k : ℕ) → ((i : ℕ) → i < k → head_at feeds i ≡ head.Over) → length feeds ≡ k
    → AllKnown feeds
all_known feeds k over count i = ⊎_elim (λ (a : i < k). ap is_known (over i a))
    (λ (a : k ≤ i). ap is_known (past_over feeds i (omega (arith, a, count)))) (cases_lt i k)

-- ---- what is made next

module _ (c : Config) (k : ℕ) (feeds : List Feed) (done : List Event) (gone : ℕ → List FeedEvent)
    (h : HaveCome c k feeds done gone)
    (known : AllKnown feeds) (past : List Numbered) (xs ys : ℕ → Coming) (all : AllGo c feeds done gone xs ys) where
  all_begin : (i : ℕ) → i < k → Begins (head_at feeds i) (ys i)
  all_begin i l =
      let count = h.count in
      let f = get_at feeds i (omega (arith, l, count)) in
      rw (known_at feeds i f.0 f.1)
      (begins c f.0 (fed i done) _ (gone i) (xs i) (ys i) (h.each i f.0 f.1) (all i f.0 f.1))

  least_is : least_next k ys ≡ least_head k (head_at feeds)
  least_is = least_known k (head_at feeds) ys (λ i l. known i) all_begin

  waits_not : one_waits k ys ≡ false
  waits_not = none_waits k (head_at feeds) ys (λ i l. known i) all_begin

  some_at : (i : ℕ) → i < k → head_at feeds i ≢ head.Unknown → head_at feeds i ≢ head.Over → 0 < events_in k ys
  some_at i l u o = events_some k (head_at feeds) ys all_begin i l u o

  -- one step more
  next_is : (o : Option ℕ) → least_head k (head_at feeds) ≡ o → 0 < events_in k ys
      → picks_from (taking c) k past ys ≡ pick_next (taking c) o k past ys (λ s f. picks_from (taking c) k s f)
  next_is o e some =
      picks_on (taking c) k past ys waits_not some
      ∙ ap (λ (z : Option ℕ). pick_next (taking c) z k past ys (λ s f. picks_from (taking c) k s f)) (least_is ∙ e)

  frame_some : (n : ℕ) → least_head k (head_at feeds) ≡ Some n → 0 < events_in k ys
  frame_some n e =
      let x = least_at feeds k n e in
      some_at x.input x.inside (λ u. let z : head.Frame n ≡ head.Unknown = sym x.is ∙ u in cc)
      (λ o. let z : head.Frame n ≡ head.Over = sym x.is ∙ o in cc)

  -- a number that is too low is passed over
  pub low_next : (n : ℕ) → least_head k (head_at feeds) ≡ Some n → n < low_of past
      → picks_from (taking c) k past ys ≡ picks_from (taking c) k past (all_behind (Some n) false ys)
  low_next n e low =
      next_is (Some n) e (frame_some n e)
      ∙ cond-true (nat_lt n (low_of past)) _ _ (lt-ltb n (low_of past) low)

  -- a frame is made of the groups that are next, or not
  pub frame_next : (n : ℕ) → least_head k (head_at feeds) ≡ Some n → low_of past ≤ n → (o : Option Made)
      → made_of c past (picked_of n k ys) ≡ o
      → picks_from (taking c) k past ys
      ≡ option_to_list o ++ picks_from (taking c) k (past_with past o) (all_behind (Some n) true ys)
  frame_next n e low o made =
      next_is (Some n) e (frame_some n e)
      ∙ cond-false (nat_lt n (low_of past)) _ _ (le-ltb n (low_of past) low)
      ∙ ap (λ (z : Option Made). option_to_list z ++ picks_from (taking c) k (past_with past z)
      (all_behind (Some n) true ys)) made

  -- silences are passed over
  pub silent_next : (i : ℕ) → i < k → head_at feeds i ≡ head.Silent → least_head k (head_at feeds) ≡ None
      → picks_from (taking c) k past ys ≡ picks_from (taking c) k past (all_behind None true ys)
  silent_next i l is none =
      next_is None none
      (some_at i l (λ u. let z : head.Silent ≡ head.Unknown = sym is ∙ u in cc)
      (λ o. let z : head.Silent ≡ head.Over = sym is ∙ o in cc))

  -- nothing comes
  pub none_next : ((i : ℕ) → i < k → head_at feeds i ≡ head.Over) → picks_from (taking c) k past ys ≡ []
  none_next over = picks_over (taking c) k past ys (events_none k (head_at feeds) ys all_begin over)

  -- the groups of a frame that are next
  pub picked_is : (n : ℕ) (g : NextGroups c n feeds 0 done gone) → picked_of n k ys ≡ picked_as n g.groups
  picked_is n g =
      ap (picked_as n) (ap (λ (j : ℕ). groups_next n j ys) (sym h.count)
      ∙ g.are xs ys (λ i f l is. all i f (ap (slice_get feeds) (let z : i ≡ i - 0 = omega arith in z) ∙ is)))

-- a number that is not too low is behind those that were made
pub above : (past : List Numbered) (n : ℕ) → low_of past ≤ n → IsAbove past n
above [] n l = tt
above (b ∷ past) n l = omega (arith, l)
