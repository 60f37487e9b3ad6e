-- What was done to several feeds and a sender, step by step.
use Rattle.std.proofs.Common.{◌≡◌, ℕ, ◌<◌, ◌==◌, Bool, true, false, cond, List, [], ◌∷◌, ◌++◌, length}
use Rattle.std.proofs.Common.{Option, Some, refl, ap, ap₂, sym, subst, ◌∙◌, arith, append_assoc, append-nil}
use Rattle.std.proofs.Math.Logic.{∥∥₁_map}
use Rattle.std.specs.Prelude.{slice_get}
use Rattle.std.proofs.lemmas.Bool.{eq-eqb, eqb-true}
use Rattle.plp_config.specs.declared.config.Config.{Config}
use Rattle.ts_packet.specs.TsFile.{joined}
use Rattle.t2mi_stream.specs.Complete.{complete_units, complete_in}
use Rattle.frame_groups.specs.Groups.{Group, groups}
use Rattle.terms.specs.Lists.{IsPrefix}
use Rattle.frame_groups.specs.Modulated.{Numbered}
use Rattle.frame_groups.specs.Tests.{rules}
use Rattle.feed_events.specs.FeedEvents.{FeedEvent, feed_events}
use Rattle.feed_events.specs.StandsFor.{CanBecome, arrivals_behind}
use Rattle.mended_frames.specs.Picks.{Coming, all_behind, picks_from}
use Rattle.mended_frames.proofs.HeadLemmas.{it_waits}
use Rattle.mended_frames.proofs.PickLemmas.{picks_same, picks_wait}
use Rattle.frame_writer.specs.FramePackets.{packets_from}
use Rattle.spaced_frames.specs.Spaced.{SentFrame, spaced}
use Rattle.spaced_frames.specs.StandsFor.{SenderStandsFor, Content, HasGiven, sent_as}
use Rattle.spaced_frames.specs.declared.sender.Sender.{Sender}
use Rattle.mended_frames.specs.Mended.{Made, mended, taking, frames_of, frame_of, made_as, content_in, packets_of}
use Rattle.mended_frames.specs.Mended.{low_of}
use Rattle.mended_frames.specs.StandsFor.{Feed, MenderStandsFor, lent_content, nothing}
use Rattle.mended_frames.specs.declared.mender.Source.{Source}
use Rattle.file_run.specs.Events.{Event, Gave, gave, fed}
use Rattle.file_run.specs.Events as events
use Rattle.file_run.specs.Laws.{EventsTell}
use Rattle.file_run.specs.Steps.{HasCome}
use Rattle.mend_run.specs.AsMachine.{Becomes}
use Rattle.mend_run.specs.Row.{Goes, HaveCome, AllGo, LastCame, GoOn, Pass, AllKnown, OnePasses}
use Rattle.mend_run.specs.Shown.{Place, Looks, Passes, Sends, Rests, Done, Splits, HasSent, IsAt, AllEnded}
use Rattle.mend_run.specs.Shown.{HasDue, ShownAt, Shown, known_by, HasShown, place_of, tally_of, with_frame}
use Rattle.mend_run.specs.declared.machine.MendMachine.{MendMachine}
use Rattle.mend_run.specs.declared.phase.Phase.{Phase}
use Rattle.mend_run.specs.declared.tally.Tally.{Tally}
use Rattle.mend_run.proofs.RowLemmas.{get_at}
use Rattle.mend_run.proofs.TallyLemmas.{tally_frame}

-- ---- at first

nothing_sent : (c : Config) → [] ≡ joined (complete_units c.pid (packets_from c 0 (spaced c [])))
unfolding spaced complete_in
nothing_sent c = refl

abbrev pub coming : List FeedEvent → Bool → Coming
coming es over = record { events = es; over = over }

same_coming : (x y : Coming) → x.events ≡ y.events → y.over ≡ x.over → y ≡ x
same_coming x y e o = ap₂ (λ (es : List FeedEvent) (b : Bool). coming es b) (sym e) o

opened_splits : (c : Config) (k : ℕ) (feeds : List Feed) → HaveCome c k feeds [] (λ i. []) → (xs ys : ℕ → Coming)
    → AllGo c feeds [] (λ i. []) xs ys → Splits c k Looks [] [] xs ys
unfolding mended
opened_splits c k feeds h xs ys all =
    picks_same (taking c) k [] xs ys (λ i l.
    let count = h.count in
    let f = get_at feeds i (omega (arith, l, count)) in
    let g = all i f.0 f.1 in
    sym (same_coming (xs i) (ys i) g.parts g.over))

-- ---- what held all up

due_opened : (c : Config) (k : ℕ) (feeds : List Feed) → 0 < k → HasDue c k feeds [] (λ i. [])
unfolding feed_events groups mended
due_opened c k feeds some = record {
  input = 0;
  inside = some;
  known = [];
  last = [];
  parts = refl;
  few = omega arith;
  made = [];
  went = ([], nothing_sent c ∙ sym (append-nil (joined (complete_units c.pid (packets_of c [])))));
  is = λ xs ys all. picks_wait (taking c) k [] (known_by c 0 [] xs) (it_waits k (known_by c 0 [] xs) 0 some refl refl);
}

-- Bytes of an input came, or its end: what is known of it by all of them but the last one at most.
module _ (c : Config) (k : ℕ) (old : List Feed) (before done : List Event) (gone : ℕ → List FeedEvent)
    (come : HaveCome c k old before gone) (l : LastCame c k before done gone) where
  abbrev known : List ℕ
  known = fed l.input before ++ l.part

  -- what comes behind the events that were passed then: of that input nothing
  abbrev nothing_by : (ℕ → Coming) → ℕ → Coming
  nothing_by ys i = cond (i == l.input) (coming [] false) (ys i)

  goes_there : (i : ℕ) (f : Feed) → slice_get old i ≡ Some f → i ≡ l.input
      → Goes c f (fed l.input before) (gone l.input) (coming (feed_events (rules c) false known) false)
      (coming [] false)
  goes_there i f is at = record {
    all = known;
    later = arrivals_behind c.pid (fed l.input before) l.part;
    can = subst (λ (b : Bool). CanBecome b c.pid (fed l.input before) false known
        (arrivals_behind c.pid (fed l.input before) l.part))
        (sym ((come.each i f is).end ∙ ap (λ (j : ℕ). events.has_ended j before) at ∙ l.going)) (l.part, refl, refl);
    is = refl;
    parts = l.none ∙ sym (append-nil (gone l.input));
    over = refl;
  }

  known_goes : (xs ys : ℕ → Coming) → AllGo c old before gone xs ys
      → AllGo c old before gone (known_by c l.input known xs) (nothing_by ys)
  known_goes xs ys all i f is = by (i == l.input) refl
    where
      by : (b : Bool) → (i == l.input) ≡ b
          → Goes c f (fed i before) (gone i) (cond b (coming (feed_events (rules c) false known) false) (xs i))
          (cond b (coming [] false) (ys i))
      by false e = all i f is
      by true e =
          let at : i ≡ l.input = eqb-true i l.input e in
          subst (λ (j : ℕ). Goes c f (fed j before) (gone j) (coming (feed_events (rules c) false known) false)
          (coming [] false)) (sym at) (goes_there i f is at)

  -- so no frame is made but those that were, however the others go on
  due_fed : (new : List Feed) (made : List Made) (past : List Numbered)
      → ((xs ys : ℕ → Coming) → AllGo c old before gone xs ys → Splits c k Looks past made xs ys)
      → ((xs ys : ℕ → Coming) → AllGo c new done gone xs ys → AllGo c old before gone xs ys)
      → HasGiven complete_units c (frames_of c made) (gave before) → gave done ≡ gave before → HasDue c k new done gone
  due_fed new made past splits back caught same = record {
    input = l.input;
    inside = l.inside;
    known = known;
    last = l.last;
    parts = l.parts;
    few = l.few;
    made = made;
    went = ([], same ∙ caught ∙ sym (append-nil (joined (complete_units c.pid (packets_of c made)))));
    is = λ xs ys all.
        let at : nothing_by ys l.input ≡ coming [] false =
        ap (λ (b : Bool). cond b (coming [] false) (ys l.input)) (eq-eqb l.input l.input refl) in
        splits (known_by c l.input known xs) (nothing_by ys) (known_goes xs ys (back xs ys all))
        ∙ ap (λ (m : List Made). made ++ m) (picks_wait (taking c) k past (nothing_by ys)
        (it_waits k (nothing_by ys) l.input l.inside (ap (λ (x : Coming). x.events) at)
        (ap (λ (x : Coming). x.over) at)))
        ∙ append-nil made;
  }

-- it stays so while no bytes come
due_on : (c : Config) (k : ℕ) (old new : List Feed) (before done : List Event) (gone past : ℕ → List FeedEvent)
    → ((i : ℕ) → fed i done ≡ fed i before) → IsPrefix (gave before) (gave done)
    → ((xs ys : ℕ → Coming) → AllGo c new done past xs ys → (zs : ℕ → Coming) × AllGo c old before gone xs zs)
    → HasDue c k old before gone → HasDue c k new done past
due_on c k old new before done gone past same more back d = record {
  input = d.input;
  inside = d.inside;
  known = d.known;
  last = d.last;
  parts = same d.input ∙ d.parts;
  few = d.few;
  made = d.made;
  went = (
    d.went.0 ++ more.0,
    more.1 ∙ ap (λ (l : List ℕ). l ++ more.0) d.went.1
        ∙ append_assoc (joined (complete_units c.pid (packets_of c d.made))) d.went.0 more.0,
  );
  is = λ xs ys all. let b = back xs ys all in d.is xs b.0 b.1;
}

pub shown_opened : (c : Config) (k : ℕ) (m : MendMachine) → m.plan.now ≡ c → HaveCome c k m.feeds.items [] (λ i. [])
    → MenderStandsFor m.mender [] → ((x : Content) → SenderStandsFor c m.sender x [] []) → m.tally ≡ tally_of [] []
    → ShownAt c k [] m Looks
shown_opened c k m plan come mends sends tally = record {
  plan = plan;
  gone = λ i. [];
  come = come;
  made = [];
  past = [];
  mends = mends;
  low = sym (ap (λ (t : Tally). t.behind) tally);
  tally = tally;
  splits = opened_splits c k m.feeds.items come;
  is_at = record { content = nothing; stands = sends nothing; caught = nothing_sent c };
  due = λ some. due_opened c k m.feeds.items some;
}

pub has_shown : (m : MendMachine) → ∥ HasCome Becomes m ∥₁ → ∥ HasShown m ∥₁
has_shown m came = ∥∥₁_map came (λ (h : HasCome Becomes m).
    record { network = h.start.plan.now; count = length h.start.feeds.items; events = h.events; shown = h.came })

-- what is shown in a phase
pub at_place : (c : Config) (k : ℕ) (done : List Event) (m : MendMachine) (p : Phase) → m.phase ≡ p → Shown c k done m
    → ShownAt c k done m (place_of p)
at_place c k done m p is s = subst (λ (q : Phase). ShownAt c k done m (place_of q)) is s

pub from_place : (c : Config) (k : ℕ) (done : List Event) (m : MendMachine) (p : Phase) → m.phase ≡ p
    → ShownAt c k done m (place_of p)
    → Shown c k done m
from_place c k done m p is s = subst (λ (q : Phase). ShownAt c k done m (place_of q)) (sym is) s

-- what a sender stands for, by another name of its network
pub stands_as : (c d : Config) (s : Sender) (x : Content) (frames : List SentFrame) (bytes : List ℕ) → d ≡ c
    → SenderStandsFor d s x frames bytes → SenderStandsFor c s x frames bytes
stands_as c d s x frames bytes e h = rw e at h

-- what a sender does by its own name of the network it does by another one
pub stands_by : (c d : Config) (s n : Sender) (x : Content) (frames : List SentFrame) (bytes more : List ℕ) → d ≡ c
    → (SenderStandsFor d s x frames bytes → SenderStandsFor d n x frames more) → SenderStandsFor c s x frames bytes
    → SenderStandsFor c n x frames more
stands_by c d s n x frames bytes more e does h = rw e at (does (rw e h))

-- all complete units went out, as before
sent_same : (c : Config) (m n : MendMachine) (made : List Made) (bytes : List ℕ) → n.sender ≡ m.sender
    → HasSent c m made bytes → HasSent c n made bytes
sent_same c m n made bytes sender h = record { content = h.content; stands = rw sender h.stands; caught = h.caught }

-- ---- a feed took bytes, or its input ended

pub shown_fed : (c : Config) (k : ℕ) (done more : List Event) (m n : MendMachine) (s : ShownAt c k done m Looks)
    → GoOn c k m.feeds.items n.feeds.items done more s.gone → gave more ≡ gave done → n.plan.now ≡ m.plan.now
    → n.mender ≡ m.mender
    → n.sender ≡ m.sender → n.tally ≡ m.tally → ShownAt c k more n Looks
shown_fed c k done more m n s go same plan mender sender tally = record {
  plan = plan ∙ s.plan;
  gone = s.gone;
  come = go.come;
  made = s.made;
  past = s.past;
  mends = rw mender s.mends;
  low = rw tally s.low;
  tally = rw (tally, same) s.tally;
  splits = λ xs ys all. s.splits xs ys (go.back xs ys all);
  is_at = rw same (sent_same c m n s.made (gave done) sender s.is_at);
  due = λ some. due_fed c k m.feeds.items done more s.gone s.come go.last n.feeds.items s.made s.past s.splits go.back
      s.is_at.caught same;
}

-- ---- nothing was fed, and perhaps something given

pub come_given : (tell : EventsTell) (c : Config) (k : ℕ) (feeds : List Feed) (done : List Event) (bytes : List ℕ)
    (gone : ℕ → List FeedEvent) → HaveCome c k feeds done gone → HaveCome c k feeds (done ++ Gave bytes ∷ []) gone
come_given tell c k feeds done bytes gone h = record {
  count = h.count;
  each = λ i f is.
      let t = tell.given bytes done in
      rw (t.fed i, t.ended i) (h.each i f is);
}

pub goes_given : (tell : EventsTell) (c : Config) (feeds : List Feed) (done : List Event) (bytes : List ℕ)
    (gone : ℕ → List FeedEvent) (xs ys : ℕ → Coming) → AllGo c feeds (done ++ Gave bytes ∷ []) gone xs ys
    → AllGo c feeds done gone xs ys
goes_given tell c feeds done bytes gone xs ys all i f is =
    rw ((tell.given bytes done).fed i) at (all i f is)

pub ended_given : (tell : EventsTell) (k : ℕ) (done : List Event) (bytes : List ℕ) → AllEnded k done
    → AllEnded k (done ++ Gave bytes ∷ [])
ended_given tell k done bytes all i l = (tell.given bytes done).ended i ∙ all i l

-- the feeds and the mender stay as they were
pub shown_given : (tell : EventsTell) (c : Config) (k : ℕ) (done : List Event) (bytes : List ℕ) (m n : MendMachine)
    (from to : Place)
    (s : ShownAt c k done m from) → n.plan.now ≡ m.plan.now → n.feeds.items ≡ m.feeds.items → n.mender ≡ m.mender
    → n.tally ≡ tally_of s.made (gave done ++ bytes)
    → ((xs ys : ℕ → Coming) → Splits c k from s.past s.made xs ys → Splits c k to s.past s.made xs ys)
    → IsAt c k to n s.made (done ++ Gave bytes ∷ []) → ShownAt c k (done ++ Gave bytes ∷ []) n to
shown_given tell c k done bytes m n from to s plan feeds mender tally splits is_at =
    let t = tell.given bytes done in
    let were : (xs ys : ℕ → Coming) → AllGo c n.feeds.items (done ++ Gave bytes ∷ []) s.gone xs ys
    → AllGo c m.feeds.items done s.gone xs ys =
    rw feeds (goes_given tell c m.feeds.items done bytes s.gone) in
    record {
      plan = plan ∙ s.plan;
      gone = s.gone;
      come = rw feeds (come_given tell c k m.feeds.items done bytes s.gone s.come);
      made = s.made;
      past = s.past;
      mends = rw mender s.mends;
      low = s.low ∙ ap (λ (t : Tally). t.behind) s.tally ∙ sym (ap (λ (t : Tally). t.behind) tally);
      tally = rw t.gave tally;
      splits = λ xs ys all. splits xs ys (s.splits xs ys (were xs ys all));
      is_at = is_at;
      due = λ some.
          due_on c k m.feeds.items n.feeds.items done (done ++ Gave bytes ∷ []) s.gone s.gone t.fed (bytes, t.gave)
          (λ xs ys all. (ys, were xs ys all)) (s.due some);
    }

-- nothing was given
pub shown_still : (tell : EventsTell) (c : Config) (k : ℕ) (done : List Event) (m : MendMachine) (p : Place)
    → ShownAt c k done m p
    → ShownAt c k (done ++ Gave [] ∷ []) m p
shown_still tell c k done m p s =
    shown_given tell c k done [] m m p p s refl refl refl (s.tally
    ∙ ap (tally_of s.made) (sym (append-nil (gave done))))
    (λ xs ys x. x) (at_still p s.is_at)
  where
    same : gave (done ++ Gave [] ∷ []) ≡ gave done
    same = (tell.given [] done).gave ∙ append-nil (gave done)

    at_still : (p : Place) → IsAt c k p m s.made done → IsAt c k p m s.made (done ++ Gave [] ∷ [])
    at_still Looks a = rw same a
    at_still (Passes number silent) a = (rw same a.0, a.1)
    at_still (Sends n from) a = rw same a
    at_still Rests a = record {
      ended = ended_given tell k done [] a.ended;
      content = a.content;
      stands = rw same a.stands;
    }
    at_still Done a = (ended_given tell k done [] a.0, rw same a.1)

-- ---- what is next is passed

pub shown_passed : (c : Config) (k : ℕ) (done : List Event) (m n : MendMachine) (number : Option ℕ) (silent : Bool)
    (s : ShownAt c k done m (Passes number silent)) → Pass c k number silent m.feeds.items n.feeds.items done s.gone
    → n.plan.now ≡ m.plan.now → n.mender ≡ m.mender → n.sender ≡ m.sender → n.tally ≡ m.tally → ShownAt c k done n Looks
shown_passed c k done m n number silent s p plan mender sender tally = record {
  plan = plan ∙ s.plan;
  gone = p.past;
  come = p.come;
  made = s.made;
  past = s.past;
  mends = rw mender s.mends;
  low = rw tally s.low;
  tally = tally ∙ s.tally;
  splits = λ xs ys all.
      let b = p.back xs ys all in
      s.splits xs b.0 b.1
      ∙ ap (λ (l : List Made). s.made ++ l) (picks_same (taking c) k s.past (all_behind number silent b.0) ys b.2);
  is_at = sent_same c m n s.made (gave done) sender s.is_at.0;
  due = λ some.
      due_on c k m.feeds.items n.feeds.items done done s.gone p.past (λ i. refl) ([], sym (append-nil (gave done)))
      (λ xs ys all. let b = p.back xs ys all in (b.0, b.1))
      (s.due some);
}

-- the feeds stay as they were, and nothing was fed or given
shown_on : (c : Config) (k : ℕ) (done : List Event) (m n : MendMachine) (s : ShownAt c k done m Looks) (to : Place)
    (made : List Made) (past : List Numbered) → n.plan.now ≡ m.plan.now → n.feeds.items ≡ m.feeds.items
    → MenderStandsFor n.mender past → low_of past ≡ n.tally.behind → n.tally ≡ tally_of made (gave done)
    → ((xs ys : ℕ → Coming) → AllGo c m.feeds.items done s.gone xs ys → Splits c k to past made xs ys)
    → IsAt c k to n made done → ShownAt c k done n to
shown_on c k done m n s to made past plan feeds mends low tally splits is_at = record {
  plan = plan ∙ s.plan;
  gone = s.gone;
  come = rw feeds s.come;
  made = made;
  past = past;
  mends = mends;
  low = low;
  tally = tally;
  splits = rw feeds splits;
  is_at = is_at;
  due = rw feeds s.due;
}

-- before that it is known what is
pub shown_passes : (c : Config) (k : ℕ) (done : List Event) (m n : MendMachine) (number : Option ℕ) (silent : Bool)
    (s : ShownAt c k done m Looks) → n.plan.now ≡ m.plan.now → n.feeds.items ≡ m.feeds.items
    → MenderStandsFor n.mender s.past
    → n.sender ≡ m.sender → n.tally ≡ m.tally → AllKnown m.feeds.items
    → ((xs ys : ℕ → Coming) → AllGo c m.feeds.items done s.gone xs ys
    → picks_from (taking c) k s.past ys ≡ picks_from (taking c) k s.past (all_behind number silent ys))
    → ShownAt c k done n (Passes number silent)
shown_passes c k done m n number silent s plan feeds mends sender tally known next =
    shown_on c k done m n s (Passes number silent) s.made s.past plan feeds mends (rw tally s.low) (tally ∙ s.tally)
    (λ xs ys all. s.splits xs ys all ∙ ap (λ (l : List Made). s.made ++ l) (next xs ys all))
    (sent_same c m n s.made (gave done) sender s.is_at, rw feeds known)

-- ---- a frame is begun

frames_push : (c : Config) (made : List Made) (x : Made) → frames_of c made ++ frame_of c x ∷ [] ≡ frames_of
    c (made ++ x ∷ [])
frames_push c [] x = refl
frames_push c (y ∷ made) x = ap (λ (l : List SentFrame). frame_of c y ∷ l) (frames_push c made x)

pub shown_begun : (c : Config) (k : ℕ) (done : List Event) (m n : MendMachine) (number : ℕ) (from : Source)
    (woven : Bool) (g : Group)
    (y : Content) (s : ShownAt c k done m Looks) → n.plan.now ≡ m.plan.now → n.feeds.items ≡ m.feeds.items
    → MenderStandsFor n.mender (record { number = number; group = g } ∷ s.past)
    → n.tally ≡ with_frame m.tally number woven → AllKnown m.feeds.items → OnePasses (Some number) true m.feeds.items
    → y ≡ lent_content from n.mender n.feeds.items → y ≡ content_in c g.packets
    → SenderStandsFor c n.sender y (frames_of c s.made ++ sent_as c number y ∷ []) (gave done)
    → ((xs ys : ℕ → Coming) → AllGo c m.feeds.items done s.gone xs ys → picks_from (taking c) k s.past ys
    ≡ made_as number woven g ∷ picks_from (taking c) k (record { number = number; group = g } ∷ s.past)
    (all_behind (Some number) true ys))
    → ShownAt c k done n (Sends number from)
shown_begun c k done m n number from woven g y s plan feeds mends tally known one lent content sends next =
    let x : Made = made_as number woven g in
    let total : n.tally ≡ tally_of (s.made ++ x ∷ []) (gave done) =
    tally ∙ ap (λ (t : Tally). with_frame t number woven) s.tally ∙ tally_frame s.made x (gave done) in
    shown_on c k done m n s (Sends number from) (s.made ++ x ∷ []) (record { number = number; group = g } ∷ s.past) plan
    feeds mends (rw tally refl) total
    (λ xs ys all. s.splits xs ys all ∙ ap (λ (l : List Made). s.made ++ l) (next xs ys all)
    ∙ sym (append_assoc s.made (x ∷ []) (picks_from (taking c) k (record { number = number; group = g } ∷ s.past)
    (all_behind (Some number) true ys))))
    (record {
      stands = rw (← lent, ← frames_push c s.made x) (subst (λ (z : Content). SenderStandsFor c n.sender y
          (frames_of c s.made ++ sent_as c number z ∷ []) (gave done)) content sends);
      known = rw feeds known;
      passes = rw feeds one;
    })

-- ---- no frame comes

pub shown_finished : (c : Config) (k : ℕ) (done : List Event) (m n : MendMachine) (s : ShownAt c k done m Looks)
    → n.plan.now ≡ m.plan.now → n.feeds.items ≡ m.feeds.items → n.mender ≡ m.mender → n.tally ≡ m.tally
    → AllEnded k done
    → SenderStandsFor c n.sender s.is_at.content (frames_of c s.made) (gave done)
    → ((xs ys : ℕ → Coming) → AllGo c m.feeds.items done s.gone xs ys → picks_from (taking c) k s.past ys ≡ [])
    → ShownAt c k done n Rests
shown_finished c k done m n s plan feeds mender tally ended sends none =
    shown_on c k done m n s Rests s.made s.past plan feeds (rw mender s.mends) (rw tally s.low) (tally ∙ s.tally)
    (λ xs ys all. s.splits xs ys all ∙ ap (λ (l : List Made). s.made ++ l) (none xs ys all) ∙ append-nil s.made)
    (record { ended = ended; content = s.is_at.content; stands = sends })
