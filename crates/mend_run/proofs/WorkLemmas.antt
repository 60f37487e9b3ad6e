-- What a run does by its files.
use Rattle.std.proofs.Common.{◌≡◌, ◌≢◌, ℕ, zero, suc, ◌+◌, ◌-◌, ◌/◌, ◌^◌, ◌<◌, ◌≤◌, ◌==◌, Bool, true, false, cond}
use Rattle.std.proofs.Common.{List, [], ◌∷◌, ◌++◌, length, take, take_at, append_assoc, length-append}
use Rattle.std.proofs.Common.{Option, Some, None, refl, ap, sym, subst, ◌∙◌, arith, append-nil}
use Rattle.std.specs.Prelude.{not, slice_get, slice_index}
use Rattle.std.specs.Option.{option_map_or}
use Rattle.std.proofs.lemmas.Bool.{true≢false, eq-eqb, eqb-true}
use Rattle.std.proofs.lemmas.List.{map-append, take_all}
use Rattle.std.proofs.lemmas.Option.{slice_get_within, same_Some}
use Rattle.terms.proofs.CaseLemmas.{bool_cases}
use Rattle.terms.proofs.OptionLemmas.{none_some}
use Rattle.plp_config.specs.declared.config.Config.{Config}
use Rattle.ts_packet.specs.TsFile.{joined}
use Rattle.ts_packet.specs.declared.sizes.TheConstants.{SIZE}
use Rattle.t2mi_stream.specs.Complete.{complete_units}
use Rattle.t2mi_stream.specs.Laws.{UnitReads}
use Rattle.t2mi_stream.specs.Pipe.{pipe, units_in}
use Rattle.terms.specs.Lists.{IsPrefix}
use Rattle.frame_groups.specs.Modulated.{Numbered}
use Rattle.frame_groups.specs.Tests.{rules}
use Rattle.feed_events.specs.Arrivals.{Arrival}
use Rattle.feed_events.specs.FeedEvents.{FeedEvent, feed_events}
use Rattle.feed_events.specs.StandsFor.{CanBecome, arrivals_behind, arrivals_left, has_ended, head_of, fed_of}
use Rattle.feed_events.specs.Under.{course_events}
use Rattle.feed_events.specs.declared.course.Head.TheVariants as head
use Rattle.mended_frames.specs.Picks.{Coming}
use Rattle.mended_frames.proofs.HeadLemmas.{it_waits}
use Rattle.mended_frames.proofs.PickLemmas.{picks_wait, picks_same}
use Rattle.frame_writer.specs.FramePackets.{packets_from}
use Rattle.spaced_frames.specs.Spaced.{SentFrame, spaced}
use Rattle.mended_frames.specs.Feeds.{all_of, known_of, made_of_all, made_of_known, units_of}
use Rattle.mended_frames.specs.Mended.{Made, mended, taking, frame_of, frames_of, packets_of}
use Rattle.mended_frames.specs.StandsFor.{Feed, pooled_of, lent_content}
use Rattle.file_run.specs.Reading.{longest_file}
use Rattle.file_run.specs.Events.{Event, fed, gave}
use Rattle.file_run.specs.Events as events
use Rattle.file_run.specs.FileRun.{AreFed, IsFed, read_ahead}
use Rattle.file_run.specs.Steps.{Needs, FallsShort}
use Rattle.file_run.specs.Work.{AreWhole, AreWithin, IsRightAtEnd, GaveSome, DoesWork}
use Rattle.file_run.specs.declared.machine.Step.TheVariants.{Read, Give, End}
use Rattle.file_run.proofs.StandsLemmas.{fed_since}
use Rattle.file_run.proofs.WorkLemmas.{are_whole}
use Rattle.mend_run.specs.AsMachine.{Becomes, step_in, step_of, reach_of, ending_of}
use Rattle.mend_run.specs.Counted.{counted}
use Rattle.mend_run.specs.MendRun.{HasRead, HasNearly}
use Rattle.mend_run.specs.MendRun.{MendsAll, HasNone, AreTaken, HasWritten, HasSome, mend_work}
use Rattle.mend_run.specs.MendRun.{taken_but, ended_but, complete_by}
use Rattle.mend_run.specs.Row.{Goes, FeedHas, AllGo, AreSame, first_waiting, wants}
use Rattle.mend_run.specs.Shown.{Place, Looks, Passes, Sends, Rests, Done, Splits, HasDue, ShownAt, known_by}
use Rattle.mend_run.specs.Shown.{Shown, place_of, ran_of}
use Rattle.mend_run.specs.declared.machine.MendMachine.{MendMachine}
use Rattle.mend_run.specs.declared.phase.Phase.{Phase}
use Rattle.mend_run.specs.declared.phase.Phase.TheVariants as phase
use Rattle.mend_run.specs.declared.tally.Tally.{Tally}
use Rattle.mend_run.proofs.FeedLemmas.{fed_most, CanGo, some_way, behind_front}
use Rattle.mend_run.proofs.RowLemmas.{get_at, known_at, IsFirst, first_some}
use Rattle.mend_run.proofs.ShownLemmas.{at_place, coming}
use Rattle.mend_run.proofs.TallyLemmas.{ran_is, none_told, some_told}
use Rattle.mend_run.proofs.WantLemmas.{needs, short}
use Rattle.mend_run.proofs.UnitLemmas.{count_is, sent_front, sent_all}

-- ---- how a feed goes on

-- what comes behind the events that were passed, if it goes on so
pub record Way (c : Config) (f : Feed) (bytes : List ℕ) (gone : List FeedEvent) (over : Bool) (all : List ℕ) :
    Type 0 where
  pub rest : Coming
  pub goes : Goes c f bytes gone (coming (feed_events (rules c) over all) over) rest

way_on : (c : Config) (f : Feed) (bytes : List ℕ) (ended : Bool) (gone : List FeedEvent) → FeedHas c f bytes ended gone
    → (over : Bool) (all : List ℕ) (later : List Arrival) → CanBecome (has_ended f) c.pid bytes over all later
    → Way c f bytes gone over all
way_on c f bytes ended gone h over all later can =
    let s = h.stands in
    let r = rules (pooled_of f).network in
    let more : List FeedEvent = course_events r f.frames.course s.group over
    (arrivals_left r.network.pid s.events f.idle ++ later) in
    let is : feed_events (rules c) over all ≡ gone ++ more =
    sym (ap (λ (k : Config). feed_events (rules k) over all) h.network)
    ∙ s.all over all later (subst (λ (k : Config). CanBecome (has_ended f) k.pid bytes over all later)
    (sym h.network) can) in
    record {
      rest = coming more over;
      goes = record { all = all; later = later; can = can; is = refl; parts = is; over = refl };
    }

-- nothing is known of one that shows nothing
nothing_next : (c : Config) (f : Feed) (bytes : List ℕ) (ended : Bool) (gone : List FeedEvent)
    (h : FeedHas c f bytes ended gone)
    → head_of f ≡ head.Unknown → (y : Coming) → Goes c f bytes gone (coming (feed_events (rules c) false bytes) false) y
    → y.events ≡ []
nothing_next c f bytes ended gone h e y go =
    behind_front gone y.events []
    (sym go.parts ∙ sym (ap (λ (k : Config). feed_events (rules k) false bytes) h.network)
    ∙ h.shows.unknown e bytes gone h.stands
    ∙ sym (append-nil gone))

nothing_made : (c : Config) (made : List Made) → made ≡ [] → joined (pipe c.pid (packets_of c made)) ≡ []
unfolding spaced units_in
nothing_made c made none = rw none refl

mended_same : (c : Config) (k : ℕ) (xs ys : ℕ → Coming) → AreSame k xs ys → mended c k xs ≡ mended c k ys
unfolding mended
mended_same c k xs ys same = picks_same (taking c) k [] xs ys same

-- ---- so many bytes of one input, and all bytes of the others

made_by : (c : Config) (k : ℕ) (files : ℕ → List ℕ) (w : ℕ) (known : List ℕ) → take (length known) (files w) ≡ known
    → made_of_known c k files (taken_but files w (length known)) (ended_but w)
    ≡ mended c k (known_by c w known (all_of c files))
made_by c k files w known front =
    mended_same c k (known_of c files (taken_but files w (length known)) (ended_but w))
    (known_by c w known (all_of c files))
    (λ i l. at i (i == w) refl)
  where
    at : (i : ℕ) (b : Bool) → (i == w) ≡ b
        → coming (feed_events (rules c) (not b) (take (cond b (length known) (length (files i))) (files i))) (not b)
        ≡ cond b (coming (feed_events (rules c) false known) false) (all_of c files i)
    at i true e =
        ap (λ (l : List ℕ). coming (feed_events (rules c) false l) false)
        (ap (λ (j : ℕ). take (length known) (files j)) (eqb-true i w e) ∙ front)
    at i false e =
        ap (λ (l : List ℕ). coming (feed_events (rules c) true l) true)
        (take_all (length (files i)) (files i) (omega arith))

-- without inputs there are no units
no_units : (c : Config) (files : ℕ → List ℕ) → joined (units_of c 0 files) ≡ []
unfolding mended spaced units_in
no_units c files = refl

some_inputs : (c : Config) (k : ℕ) (files : ℕ → List ℕ) (bytes more tail : List ℕ)
    → joined (units_of c k files) ≡ (bytes ++ more) ++ tail
    → more ≢ [] → 0 < k
some_inputs c zero files bytes [] tail is some = absurd (some refl)
some_inputs c zero files bytes (x ∷ more) tail is some =
    absurd (let e = ap length (sym (no_units c files) ∙ is) in
    omega (arith, e, length-append (bytes ++ x ∷ more) tail, length-append bytes (x ∷ more)))
some_inputs c (suc k) files bytes more tail is some = omega arith

-- it is at its end in one phase only
done_at : (p : Phase) (feeds : List Feed) → step_in p feeds ≡ End → p ≡ phase.Done
done_at phase.Looks feeds e = absurd (no_end (first_waiting feeds) e)
  where
    no_end : (o : Option ℕ) → wants o ≡ End → ⊥
    no_end None e = let z : Give ≡ End = e in cc
    no_end (Some w) e = let z : Read w SIZE read_ahead ≡ End = e in cc
done_at (phase.Sends n from) feeds e = absurd (let z : Give ≡ End = e in cc)
done_at phase.Rests feeds e = absurd (let z : Give ≡ End = e in cc)
done_at phase.Done feeds e = refl

-- ---- what was done to a machine by some files

module _ (reads : UnitReads) (c : Config) (k : ℕ) (now : MendMachine) (files : ℕ → List ℕ) (places : List ℕ)
    (done : List Event)
    (all : length places ≡ k) (are : AreFed k files places done) where
  abbrev taken : ℕ → ℕ
  taken = λ i. length (fed i done)

  abbrev ended : ℕ → Bool
  ended = λ i. events.has_ended i done

  -- how the feeds go on, where each can go on so
  module _ (p : Place) (s : ShownAt c k done now p) (over : ℕ → Bool) (to : ℕ → List ℕ)
      (can : (i : ℕ) (f : Feed) → slice_get now.feeds.items i ≡ Some f
      → CanGo (has_ended f) c.pid (fed i done) (over i) (to i)) where
    way : (i : ℕ) (f : Feed) → slice_get now.feeds.items i ≡ Some f → Way c f (fed i done) (s.gone i) (over i) (to i)
    way i f is =
        let w = can i f is in
        way_on c f (fed i done) (ended i) (s.gone i) (s.come.each i f is) (over i) (to i) w.later w.can

    abbrev rest_at : (i : ℕ) (o : Option Feed) → slice_get now.feeds.items i ≡ o → Coming
    rest_at i None e = coming [] true
    rest_at i (Some f) e = (way i f e).rest

    abbrev rest : ℕ → Coming
    rest i = rest_at i (slice_get now.feeds.items i) refl

    goes_at : (i : ℕ) (f : Feed) → slice_get now.feeds.items i ≡ Some f
        → (o : Option Feed) (e : slice_get now.feeds.items i ≡ o)
        → Goes c f (fed i done) (s.gone i) (coming (feed_events (rules c) (over i) (to i)) (over i)) (rest_at i o e)
    goes_at i f is None e = none_some f (sym e ∙ is)
    goes_at i f is (Some g) e =
        subst (λ (z : Feed). Goes c z (fed i done) (s.gone i) (coming (feed_events (rules c) (over i) (to i)) (over i))
        (rest_at i (Some g) e)) (same_Some g f (sym e ∙ is)) (way i g e).goes

    go_so : AllGo c now.feeds.items done s.gone (λ i. coming (feed_events (rules c) (over i) (to i)) (over i)) rest
    go_so i f is = goes_at i f is (slice_get now.feeds.items i) refl

  module _ (p : Place) (s : ShownAt c k done now p) where
    -- the whole file
    whole_can : (i : ℕ) (f : Feed) → slice_get now.feeds.items i ≡ Some f
        → CanGo (has_ended f) c.pid (fed i done) true (files i)
    whole_can i f is = by (has_ended f) (s.come.each i f is).end
      where
        a : IsFed (files i) (slice_index places i) (fed i done) (ended i)
        a = are i (let n = s.come.count in let l = slice_get_within now.feeds.items i f is in omega (arith, l, n))

        by : (b : Bool) → b ≡ ended i → CanGo b c.pid (fed i done) true (files i)
        by false e = record { later = arrivals_behind c.pid (fed i done) a.more; can = (a.more, a.parts, refl) }
        by true e = record {
          later = [];
          can = (
            refl,
            a.parts ∙ ap (λ (l : List ℕ). fed i done ++ l) (a.end (sym e)) ∙ append-nil (fed i done),
            refl,
          );
        }

    abbrev whole_rest : ℕ → Coming
    whole_rest = rest p s (λ i. true) files whole_can

    all_goes : AllGo c now.feeds.items done s.gone (all_of c files) whole_rest
    all_goes = go_so p s (λ i. true) files whole_can

    -- the frames that were made are the first of all
    all_splits : Splits c k p s.past s.made (all_of c files) whole_rest
    all_splits = s.splits (all_of c files) whole_rest all_goes

    made_front : (more : List Made) × (made_of_all c k files ≡ s.made ++ more)
    made_front = by p s.made s.past all_splits
      where
        by : (p : Place) (made : List Made) (past : List Numbered)
            → Splits c k p past made (all_of c files) whole_rest
            → (more : List Made) × (made_of_all c k files ≡ made ++ more)
        by Looks made past h = (_, h)
        by (Passes number silent) made past h = (_, h)
        by (Sends n from) made past h = (_, h)
        by Rests made past h = ([], h ∙ sym (append-nil made))
        by Done made past h = ([], h ∙ sym (append-nil made))

    -- how far each was read
    fed_at : (i : ℕ) → i < k → option_map_or fed_of (slice_get now.feeds.items i) 0 ≤ taken i
    fed_at i l =
        let count = s.come.count in
        let f = get_at now.feeds.items i (omega (arith, l, count)) in
        rw f.1 (fed_most f.0 (fed i done) (s.gone i) (s.come.each i f.0 f.1).stands)

    -- what held all up, and how much went out
    module _ (d : HasDue c k now.feeds.items done s.gone) where
      due_within : length d.known ≤ slice_index places d.input
      due_within =
          let a = (are d.input d.inside).ahead in
          let e = ap length d.parts in
          omega (arith, a, e, length-append d.known d.last)

      due_near : AreWithin k places (reach_of now) → slice_index places d.input ≤ length d.known + 1 + read_ahead
      due_near within =
          let a = within d.input d.inside in
          let m = fed_at d.input d.inside in
          let e = ap length d.parts in
          let few = d.few in
          omega (arith, a, m, e, few, length-append d.known d.last)

      due_front : take (length d.known) (files d.input) ≡ d.known
      due_front =
          let a = are d.input d.inside in
          ap (take (length d.known)) (a.parts ∙ ap (λ (l : List ℕ). l ++ a.more) d.parts
          ∙ append_assoc d.known d.last a.more)
          ∙ take_at d.known (d.last ++ a.more) (length d.known) refl

      due_since : IsPrefix (complete_by c k files d.input (length d.known)) (gave done)
      due_since =
          rw (made_by c k files d.input d.known due_front ∙ d.is (all_of c files) _ all_goes) d.went

  front_at : (i : ℕ) → i < k → take (taken i) (files i) ≡ fed i done
  front_at i l =
      let a = are i l in
      ap (take (taken i)) a.parts ∙ take_at (fed i done) a.more (taken i) refl

  -- what is known of the files by what was fed
  known_same : (i : ℕ) → i < k → feed_events (rules c) (ended i) (take (taken i) (files i)) ≡ feed_events
      (rules c) (ended i) (fed i done)
  known_same i l = ap (feed_events (rules c) (ended i)) (front_at i l)

  are_taken : AreWithin k places (reach_of now)
      → ((i : ℕ) → i < k → option_map_or fed_of (slice_get now.feeds.items i) 0 ≤ taken i)
      → AreTaken k files places taken ended
  are_taken within most = record {
    within = λ i l. (are i l).ahead;
    ahead = λ i l. let w = within i l in let m = most i l in omega (arith, w, m);
    whole = λ i l on.
        let a = are i l in
        ap length (sym (a.parts ∙ ap (λ (m : List ℕ). fed i done ++ m) (a.end on) ∙ append-nil (fed i done)));
  }

  module _ (s : ShownAt c k done now Looks) (w : ℕ) (first : first_waiting now.feeds.items ≡ Some w) where
    known_can : (i : ℕ) (f : Feed) → slice_get now.feeds.items i ≡ Some f
        → CanGo (has_ended f) c.pid (fed i done) (ended i) (fed i done)
    known_can i f is = subst (λ (b : Bool). CanGo (has_ended f) c.pid (fed i done) b (fed i done))
        (s.come.each i f is).end (some_way (has_ended f) c.pid (fed i done))

    abbrev xs : ℕ → Coming
    xs = λ i. coming (feed_events (rules c) (ended i) (fed i done)) (ended i)

    abbrev ys : ℕ → Coming
    ys = rest Looks s ended (λ i. fed i done) known_can

    known_all : AllGo c now.feeds.items done s.gone xs ys
    known_all = go_so Looks s ended (λ i. fed i done) known_can

    waits : IsFirst now.feeds.items w
    waits = first_some now.feeds.items w first

    within_w : w < k
    within_w = let l = waits.inside in let count = s.come.count in omega (arith, l, count)

    feed_w : (f : Feed) × (slice_get now.feeds.items w ≡ Some f)
    feed_w = get_at now.feeds.items w waits.inside

    unknown_w : head_of feed_w.0 ≡ head.Unknown
    unknown_w = sym (known_at now.feeds.items w feed_w.0 feed_w.1) ∙ waits.there

    -- it has not ended
    going : ended w ≡ false
    going = sym (s.come.each w feed_w.0 feed_w.1).end ∙ (feed_w.0.settled unknown_w).2

    xs_w : xs w ≡ coming (feed_events (rules c) false (fed w done)) false
    xs_w = ap (λ (b : Bool). coming (feed_events (rules c) b (fed w done)) b) going

    nothing_w : (ys w).events ≡ []
    nothing_w =
        nothing_next c feed_w.0 (fed w done) (ended w) (s.gone w) (s.come.each w feed_w.0 feed_w.1) unknown_w (ys w)
        (rw xs_w at (known_all w feed_w.0 feed_w.1))

    over_w : (ys w).over ≡ false
    over_w = (known_all w feed_w.0 feed_w.1).over ∙ going

    made_known : mended c k xs ≡ s.made
    made_known =
        s.splits xs ys known_all
        ∙ ap (λ (l : List Made). s.made ++ l) (picks_wait (taking c) k s.past ys
        (it_waits k ys w within_w nothing_w over_w))
        ∙ append-nil s.made

    same_known : made_of_known c k files taken ended ≡ mended c k xs
    same_known = mended_same c k (known_of c files taken ended) xs
        (λ i l. ap (λ (es : List FeedEvent). coming es (ended i)) (known_same i l))

    abbrev written : AreWithin k places (reach_of now) → HasWritten c k files places (gave done)
    written = λ within. record {
      taken = taken;
      ended = ended;
      are_taken = are_taken within (fed_at Looks s);
      is = s.is_at.caught
          ∙ ap (λ (m : List Made). joined (complete_units c.pid (packets_of c m))) (sym (same_known ∙ made_known));
    }

    -- ---- the feed that waits, and all bytes of the others

    -- what is known then, and what of that comes behind the events that were passed
    abbrev but : ℕ → Coming
    but = known_by c w (fed w done) (all_of c files)

    abbrev zs : ℕ → Coming
    zs = λ i. cond (i == w) (ys i) (whole_rest Looks s i)

    but_goes : AllGo c now.feeds.items done s.gone but zs
    but_goes i f is = by (i == w) refl
      where
        by : (b : Bool) → (i == w) ≡ b
            → Goes c f (fed i done) (s.gone i)
            (cond b (coming (feed_events (rules c) false (fed w done)) false) (all_of c files i))
            (cond b (ys i) (whole_rest Looks s i))
        by true e = rw (ap xs (eqb-true i w e) ∙ xs_w) at (known_all i f is)
        by false e = all_goes Looks s i f is

    -- of the feed that waits nothing more is known than before
    zs_w : zs w ≡ ys w
    zs_w = ap (λ (b : Bool). cond b (ys w) (whole_rest Looks s w)) (eq-eqb w w refl)

    -- so no other frame is made, whatever the others have
    made_but : mended c k but ≡ s.made
    made_but =
        s.splits but zs but_goes
        ∙ ap (λ (l : List Made). s.made ++ l)
        (picks_wait (taking c) k s.past zs
        (it_waits k zs w within_w (ap (λ (x : Coming). x.events) zs_w ∙ nothing_w)
        (ap (λ (x : Coming). x.over) zs_w ∙ over_w)))
        ∙ append-nil s.made

    waits_out : gave done ≡ complete_by c k files w (taken w)
    waits_out =
        s.is_at.caught
        ∙ ap (λ (m : List Made). joined (complete_units c.pid (packets_of c m)))
        (sym (made_by c k files w (fed w done) (front_at w within_w) ∙ made_but))

  -- ---- all was given

  module _ (s : ShownAt c k done now Done) where
    made_all : made_of_all c k files ≡ s.made
    made_all = all_splits Done s

    units_all : gave done ≡ joined (units_of c k files)
    units_all = s.is_at.1 ∙ ap (λ (m : List Made). joined (pipe c.pid (packets_of c m))) (sym made_all)

    mends_all : c.pid < 2 ^ 13 → (now.tally.frames == 0) ≡ false → MendsAll c k files (ran_of now.tally) (gave done)
    mends_all small some =
        let frames = ap (λ (t : Tally). t.frames == 0) s.tally in
        let units : length (gave done) / SIZE ≡ length (units_of c k files) =
        ap (λ (l : List ℕ). length l / SIZE) units_all ∙ count_is reads c.pid (packets_of c (made_of_all c k files))
        small in
        record {
          some = λ none. some_told s.made (sym frames ∙ some) (sym made_all ∙ none);
          output = units_all;
          ran_is = ap ran_of s.tally
              ∙ ran_is s.made (gave done) (length (units_of c k files))
              (let b = now.small in let e = ap (λ (t : Tally). t.behind) s.tally in omega (arith, b, e)) units
              ∙ ap (λ (m : List Made). counted m (length (units_of c k files))) (sym made_all);
        }

    has_none : (now.tally.frames == 0) ≡ true → HasNone c k files (gave done)
    has_none nothing =
        let none : s.made ≡ [] = none_told s.made (sym (ap (λ (t : Tally). t.frames == 0) s.tally) ∙ nothing) in
        record {
          none = made_all ∙ none;
          empty = s.is_at.1 ∙ nothing_made c s.made none;
        }

    whole : AreWhole files places
    whole = subst (λ (n : ℕ). AreWhole files places) all (are_whole k files places done all are s.is_at.0)

  -- ---- what was given is the first of all units

  abbrev Front : Type 0
  Front = (tail : List ℕ) × (joined (units_of c k files) ≡ gave done ++ tail)

  as_front : (made more : List Made) → made_of_all c k files ≡ made ++ more → (tail : List ℕ)
      × (joined (pipe c.pid (packets_from c 0 (spaced c (frames_of c made ++ frames_of c more)))) ≡ gave done ++ tail)
      → Front
  as_front made more is p = (
    p.0,
    ap (λ (m : List Made). joined (pipe c.pid (packets_of c m))) is
        ∙ ap (λ (f : List SentFrame). joined (pipe c.pid (packets_from c 0 (spaced c f))))
        (map-append (frame_of c) made more) ∙ p.1,
  )

  gave_front : (p : Phase) → now.phase ≡ p → ShownAt c k done now (place_of p) → Front
  gave_front phase.Looks at s =
      let m = made_front Looks s in
      as_front s.made m.0 m.1
      (sent_front c now.sender s.is_at.content (frames_of c s.made) (frames_of c m.0) (gave done) s.is_at.stands
      now.sender.«open» (λ on. absurd (true≢false (sym on ∙ (now.looks at).1))))
  gave_front (phase.Sends n from) at s =
      let m = made_front (Sends n from) s in
      as_front s.made m.0 m.1
      (sent_front c now.sender (lent_content from now.mender now.feeds.items) (frames_of c s.made) (frames_of c m.0)
      (gave done) s.is_at.stands now.sender.«open» (λ on. absurd (now.busy n from at (now.sender.«open» on))))
  gave_front phase.Rests at s =
      as_front s.made [] (all_splits Rests s ∙ sym (append-nil s.made))
      (sent_front c now.sender s.is_at.content (frames_of c s.made) [] (gave done) s.is_at.stands now.sender.«open»
      (λ on. refl))
  gave_front phase.Done at s =
      as_front s.made [] (all_splits Done s ∙ sym (append-nil s.made)) (sent_all c (frames_of c s.made)
      [] (gave done) refl s.is_at.1)

  -- ---- the work

  ends_in : Shown c k done now → step_of now ≡ End
      → IsRightAtEnd (mend_work c k) files places (gave done) (ending_of now)
  ends_in s end =
      let d : ShownAt c k done now Done = at_place c k done now phase.Done (done_at now.phase now.feeds.items end) s in
      let pid : c.pid < 2 ^ 13 = rw d.plan at now.pid in
      let read = whole d in
      bool_cases (now.tally.frames == 0)
      (λ none. rw none (read, has_none d none))
      (λ some. rw some (read, mends_all d pid some))

  unread : Shown c k done now → AreWithin k places (reach_of now) → (input : ℕ)
      → FallsShort (step_of now) input (slice_index places input - length (fed input done))
      → HasRead c k input files places (gave done)
  unread s within input wanted =
      let w = short now input _ wanted in
      let few = w.1 in
      let d : ShownAt c k done now Looks = at_place c k done now phase.Looks w.0.looks s in
      record {
        written = written d input w.0.first within;
        going = going d input w.0.first;
        near = omega (arith, few);
        waits = waits_out d input w.0.first;
      }

  too_long : Shown c k done now → AreWithin k places (reach_of now) → (input : ℕ)
      → slice_index places input ≡ longest_file
      → Needs (step_of now) input (slice_index places input - length (fed input done))
      → HasNearly c k input files places (gave done)
  too_long s within input most wanted =
      let w = needs now input _ wanted in
      let few = w.1 in
      let d : ShownAt c k done now Looks = at_place c k done now phase.Looks w.0.looks s in
      record {
        written = written d input w.0.first within;
        going = going d input w.0.first;
        near = omega (arith, few, most);
        waits = waits_out d input w.0.first;
      }

unwritten : UnitReads → (start now : MendMachine) (files : ℕ → List ℕ) (places : List ℕ) (done : List Event)
    (bytes : List ℕ)
    → length places ≡ length start.feeds.items → AreFed (length start.feeds.items) files places done
    → GaveSome reach_of step_of (Becomes start) (length start.feeds.items) places done now bytes
    → HasSome start.plan.now (length start.feeds.items) files places bytes
unwritten reads start now files places done bytes all are g =
    let c = start.plan.now in
    let k = length start.feeds.items in
    let p = gave_front reads c k now files places (done ++ g.late) all (fed_since k files places done g.late g.only are)
    now.phase refl g.came_late in
    let begins = p.1 ∙ ap (λ (l : List ℕ). l ++ p.0) g.parts in
    let m = g.mid in
    let d = g.came.due (some_inputs c k files bytes g.more p.0 begins g.some) in
    let since = due_since reads c k m files places done all are (place_of m.phase) g.came d in
    record {
      more = g.more;
      some = g.some;
      begins = (p.0, begins);
      last = d.input;
      inside = d.inside;
      taken = length d.known;
      within = due_within reads c k m files places done all are (place_of m.phase) g.came d;
      near = due_near reads c k m files places done all are (place_of m.phase) g.came d g.within;
      since = (
        since.0 ++ g.front,
        g.is ∙ ap (λ (l : List ℕ). l ++ g.front) since.1
            ∙ append_assoc (complete_by c k files d.input (length d.known)) since.0 g.front,
      );
    }

pub mend_does : UnitReads → (start : MendMachine) → DoesWork (mend_work start.plan.now (length start.feeds.items))
    (length start.feeds.items) reach_of step_of (Becomes start) ending_of
mend_does reads start = record {
  ends = λ files places done now all are within came end. ends_in reads start.plan.now _ now files places done all are
      came end;
  too_long = λ files places done now input all are within came lt most wanted.
      too_long reads start.plan.now _ now files places done all are came within input most wanted;
  unread = λ files places done now input all are within came lt wanted.
      unread reads start.plan.now _ now files places done all are came within input wanted;
  unwritten = λ files places done now bytes all are g. unwritten reads start now files places done bytes all are g;
}
