-- The records of the least number are left behind but for the one whose frame is begun, if one is picked; or no more
-- come.
use Rattle.std.proofs.Common.{◌≡◌, ℕ, ◌+◌, ◌*◌, ◌<◌, ◌≤◌, ◌==◌, ◌&&◌, Bool, true, false, cond, List, [], ◌∷◌, ◌++◌}
use Rattle.std.proofs.Common.{length, max}
use Rattle.std.proofs.Common.{Option, Some, None, refl, ap, sym, subst, ◌∙◌, arith, append-nil, eqb-true}
use Rattle.std.specs.Prelude.{option_to_list, nat_le, nat_lt, not, is_some}
use Rattle.std.proofs.lemmas.Bool.{true≢false, or_parts, and_parts}
use Rattle.std.proofs.lemmas.Option.{same_Some}
use Rattle.plp_config.specs.Laws.{FieldRange}
use Rattle.plp_config.specs.declared.config.Config.{Config}
use Rattle.plp_config.specs.declared.moment.TheConstants.{MOST_FRAMES}
use Rattle.ts_packet.specs.declared.sizes.TheConstants.{PAYLOAD}
use Rattle.t2mi_packet.specs.declared.packet.Body.{Body}
use Rattle.frame_groups.specs.Modulated.{FrameRecord}
use Rattle.frame_groups.specs.declared.waiting.Waiting.{Waiting}
use Rattle.site_frame.specs.declared.reading.RecordView.{RecordView}
use Rattle.open_group.specs.Written.{content_view}
use Rattle.modulator.specs.Laws.{DueFollow}
use Rattle.frame_writer.specs.Flowing.{at_hand}
use Rattle.t2mi_stream.specs.PiperStandsFor.{waiting_of as piper_waiting, is_finished}
use Rattle.stream_laws.specs.Formed.{IsFormed}
use Rattle.stream_laws.specs.FormedLaws.{FramesAreFormed}
use Rattle.stream_laws.specs.Remade.{numbered, view_bodies}
use Rattle.file_run.specs.Events.{Event, fed, has_ended, gave}
use Rattle.feed_merge.specs.declared.seen.Feed.{Feed}
use Rattle.feed_merge.specs.declared.seen.Feed.TheVariants.{A, B}
use Rattle.feed_merge.specs.declared.seen.Pick.{Pick}
use Rattle.feed_merge.specs.Laws.{PicksGrow}
use Rattle.feed_merge.specs.Picking.{is_at, is_there, source_at, pick_at, picked}
use Rattle.feed_merge.specs.Picks.{Picked, pick_of, picks, above_all}
use Rattle.feed_merge.specs.Reading.{is_idle, least_of}
use Rattle.feed_merge.specs.Skips.{one_if, SkipsIf}
use Rattle.feed_merge.specs.FeedStandsFor.{waiting_of, is_whole}
use Rattle.feed_merge.specs.FeedStandsFor as feed
use Rattle.feed_merge.specs.declared.feed.FrameFeed.{FrameFeed}
use Rattle.feed_merge.specs.StandsFor.{MergerStandsFor, has_unit, has_finished, is_fed, bytes_left}
use Rattle.feed_merge.specs.StandsFor as merger
use Rattle.feed_merge.specs.declared.merger.Merger.{Merger}
use Rattle.feed_merge.proofs.LeastLemmas.{next_taken, none_comes, least_first, least_second, least_most, least_none}
use Rattle.feed_merge.proofs.LeastLemmas.{some_taken, are_of}
use Rattle.merge_run.specs.Counted.{added}
use Rattle.merge_run.specs.Sending.{frame_by, left_for, BeginsAs, Begins}
use Rattle.merge_run.specs.Shown.{IsReading, IsLive, feed_of, more_units, frame_bytes}
use Rattle.merge_run.specs.Shown.{Shown}
use Rattle.feed_merge.specs.Both.{IsHeld, OfFeed, IsPast, AreFedWith}
use Rattle.feed_merge.specs.Fed.{IsFedWith}
use Rattle.merge_run.specs.Steps.{left_in, left_of}
use Rattle.merge_run.specs.Taking.{is_from, leaves, feed_in}
use Rattle.feed_merge.specs.Seen.{seen_of}
use Rattle.merge_run.specs.declared.machine.MergeMachine.{MergeMachine}
use Rattle.merge_run.specs.declared.phase.Phase.{Phase}
use Rattle.merge_run.specs.declared.phase.Phase.TheVariants.{Reads, Gives, Rests}
use Rattle.merge_run.specs.declared.stop.MergeRan.{MergeRan}
use Rattle.merge_run.proofs.LiveLemmas.{live_taken}
use Rattle.merge_run.proofs.FeedLemmas.{TookFor, took_of, took_past, there_at, due_held, formed_due}
use Rattle.feed_merge.proofs.BoundLemmas.{few_bodies}
use Rattle.feed_merge.proofs.NumberLemmas.{below_of}
use Rattle.merge_run.proofs.PickLemmas.{PickIs, picked_at, pick_first, pick_second, pick_none}
use Rattle.merge_run.proofs.SendLemmas.{frames_append, sends_begun, sends_over, counted_push}
use Rattle.merge_run.proofs.ShownLemmas.{shown_in, frames, both_in, sends_in, units_in, reading}

pub idle_left : (g : Merger) → has_unit g ≡ false → bytes_left g [] < 184
idle_left g idle =
    let off = or_parts (nat_le PAYLOAD (at_hand g.flow.outlet)) (is_finished g.flow.outlet.piper
    && nat_lt 0 (piper_waiting g.flow.outlet.piper))
    idle in
    less (at_hand g.flow.outlet) off.0
  where
    less : (n : ℕ) → nat_le PAYLOAD n ≡ false → n + 0 < 184
    less n e = grind (arith)

-- what is known of the records that were left behind
pub record Takings (m : MergeMachine) (a b : FrameFeed) (n : ℕ) (p : Pick) : Type 0 where
  pub is : p ≡ pick_at n (seen_of (waiting_of m.a)) (seen_of (waiting_of m.b))
  pub least : least_of (waiting_of m.a) (waiting_of m.b) ≡ Some n
  pub busy_a : is_idle (waiting_of m.a) (feed.has_ended m.a) ≡ false
  pub busy_b : is_idle (waiting_of m.b) (feed.has_ended m.b) ≡ false
  pub took_a : SkipsIf (leaves A p.leave_a p.source) m.a a
  pub took_b : SkipsIf (leaves B p.leave_b p.source) m.b b

-- so it is of what is picked
pub taken : (m : MergeMachine) (a b : FrameFeed) (n : ℕ) (p : Pick)
    → p ≡ picked (seen_of (waiting_of m.a)) (seen_of (waiting_of m.b))
    → least_of (waiting_of m.a) (waiting_of m.b) ≡ Some n
    → (is_idle (waiting_of m.a) (feed.has_ended m.a) ≡ false) × (is_idle (waiting_of m.b) (feed.has_ended m.b) ≡ false)
    → SkipsIf (leaves A p.leave_a p.source) m.a a → SkipsIf (leaves B p.leave_b p.source) m.b b → Takings m a b n p
taken m a b n p is least busy took_a took_b = record {
  is = is ∙ picked_at (waiting_of m.a) (waiting_of m.b) n least;
  least = least;
  busy_a = busy.0;
  busy_b = busy.1;
  took_a = took_a;
  took_b = took_b;
}

-- no more records are left, and fewer if none is picked
pub no_more_left : (m : MergeMachine) (a b : FrameFeed) (n : ℕ) (p : Pick) → Takings m a b n p
    → feed.left_of a + feed.left_of b ≤ feed.left_of m.a + feed.left_of m.b
no_more_left m a b n p t = let u = t.took_a.left in let v = t.took_b.left in omega (arith, u, v)

all_leave : (from : Feed) (has : Bool) (source : Option Feed) → source ≡ None → leaves from has source ≡ has
all_leave from true source none = ap (leaves from true) none
all_leave from false source none = ap (leaves from false) none

-- and fewer if none is picked, so it goes on less often
pub left_passed : (m : MergeMachine) (a b : FrameFeed) (n : ℕ) (p : Pick) → Takings m a b n p → p.source ≡ None
    → m.phase ≡ Reads → left_of (record m { a = a; b = b }) < left_of m
left_passed m a b n p t none reads =
    let some = some_taken (waiting_of m.a) (waiting_of m.b) n t.least in
    let x = ap one_if (all_leave A p.leave_a p.source none) ∙ ap (λ (q : Pick). one_if q.leave_a) t.is in
    let y = ap one_if (all_leave B p.leave_b p.source none) ∙ ap (λ (q : Pick). one_if q.leave_b) t.is in
    let u = t.took_a.left in
    let v = t.took_b.left in
    let fewer : feed.left_of a + feed.left_of b + 1 ≤ feed.left_of m.a + feed.left_of m.b =
    omega (arith, some, x, y, u, v) in
    let was = ap (λ (p : Phase). left_in p (feed.left_of m.a + feed.left_of m.b) m.merger (feed_of m)) reads in
    let is = ap (λ (p : Phase). left_in p (feed.left_of a + feed.left_of b) m.merger (feed_in m.source a b)) reads in
    omega (arith, was, is, fewer)

-- the source has the frame
there_from : (from : Feed) (n : ℕ) (a b : FrameFeed)
    → is_from from (source_at n (seen_of (waiting_of a)) (seen_of (waiting_of b))) ≡ true
    → is_there n (seen_of (waiting_of (feed_in from a b))) ≡ true
there_from from n a b e =
    go from (is_there n (seen_of (waiting_of a))) (is_there n (seen_of (waiting_of b))) refl refl e
  where
    go : (from : Feed) (s t : Bool) → is_there n (seen_of (waiting_of a)) ≡ s → is_there n (seen_of (waiting_of b)) ≡ t
        → is_from from (cond s (Some A) (cond t (Some B) None)) ≡ true
        → is_there n (seen_of (waiting_of (feed_in from a b))) ≡ true
    go A true t on so e = on
    go A false true on so e = absurd (true≢false (sym e))
    go A false false on so e = absurd (true≢false (sym e))
    go B true t on so e = absurd (true≢false (sym e))
    go B false true on so e = so
    go B false false on so e = absurd (true≢false (sym e))

from_source : (from : Feed) (source : Option Feed) → source ≡ Some from → is_from from source ≡ true
from_source A source is = rw is
from_source B source is = rw is

leaves_none : (from : Feed) (has : Bool) (source : Option Feed) → is_from from source ≡ true
    → leaves from has source ≡ false
leaves_none from true source on = ap not on
leaves_none from false source on = refl

-- so it waits still, when its frame is begun
pub record Waits (o : Option Waiting) (n : ℕ) : Type 0 where
  pub whole : is_whole o ≡ true
  pub number : (w : Waiting) → o ≡ Some w → w.frame ≡ n

waits_in : (n : ℕ) (o : Option Waiting) → is_there n (seen_of o) ≡ true → Waits o n
waits_in n None e = absurd (true≢false (sym e))
waits_in n (Some v) e =
    let h = and_parts (v.frame == n) (not (is_some v.mute)) e in
    record {
      whole = h.1;
      number = λ w is. ap (λ (x : Waiting). x.frame) (sym (same_Some v w is)) ∙ eqb-true v.frame n h.0;
    }

pub waits_now : (m : MergeMachine) (a b : FrameFeed) (n : ℕ) (p : Pick) → Takings m a b n p → (from : Feed)
    → p.source ≡ Some from → Waits (waiting_of (feed_in from a b)) n
waits_now m a b n p t from own =
    let on = from_source from p.source own in
    rw (stays from on) (waits_in n _ (there_from from n m.a m.b (ap (λ (q : Pick). is_from from q.source) (sym t.is)
    ∙ on)))
  where
    stays : (from : Feed) → is_from from p.source ≡ true → feed_in from a b ≡ feed_in from m.a m.b
    stays A on = t.took_a.stays (leaves_none A p.leave_a p.source on)
    stays B on = t.took_b.stays (leaves_none B p.leave_b p.source on)

-- one frame more is counted
record OneMore (r : MergeRan) (f : Feed) : Type 0 where
  units : (added r f).units ≡ r.units
  frames : (added r f).frames ≡ r.frames + 1
  parts : (added r f).a + (added r f).b ≡ r.a + r.b + 1

one_more : (r : MergeRan) (f : Feed) → OneMore r f
one_more r A = record { units = refl; frames = refl; parts = omega arith }
one_more r B = record { units = refl; frames = refl; parts = omega arith }

module _ (follow : DueFollow) (grow : PicksGrow) (c : Config) (m : MergeMachine) (a b : FrameFeed) (events : List Event)
    (n : ℕ) (p : Pick)
    (t : Takings m a b n p) (s : Shown c events m) (reads : m.phase ≡ Reads) where
  abbrev pub source : Option Feed
  source = source_at n (seen_of (waiting_of m.a)) (seen_of (waiting_of m.b))

  abbrev pub leave_a : Bool
  leave_a = is_at n (seen_of (waiting_of m.a))

  abbrev pub leave_b : Bool
  leave_b = is_at n (seen_of (waiting_of m.b))

  stay_a : leaves A leave_a source ≡ false → a ≡ m.a
  stay_a off = t.took_a.stays (ap (λ (q : Pick). leaves A q.leave_a q.source) t.is ∙ off)

  stay_b : leaves B leave_b source ≡ false → b ≡ m.b
  stay_b off = t.took_b.stays (ap (λ (q : Pick). leaves B q.leave_b q.source) t.is ∙ off)

  abbrev was : AreFedWith c events false false m.next m.a m.b s.given_a s.given_b
  was = both_in c m events s Reads reads

  pub ta : TookFor (is_from A source) leave_a c m.a a (fed 0 events) (has_ended 0 events) s.given_a
  ta = took_of c A source n m.a a _ _ s.given_a (there_from A n m.a m.b) t.took_a.same.network stay_a
      (rw t.is at (t.took_a.takes _ _ s.given_a was.of_a.stands)) was.of_a

  pub tb : TookFor (is_from B source) leave_b c m.b b (fed 1 events) (has_ended 1 events) s.given_b
  tb = took_of c B source n m.b b _ _ s.given_b (there_from B n m.a m.b) t.took_b.same.network stay_b
      (rw t.is at (t.took_b.takes _ _ s.given_b was.of_b.stands)) was.of_b

  abbrev pub xs : List FrameRecord
  xs = ta.records

  abbrev pub ys : List FrameRecord
  ys = tb.records

  abbrev pub now_a : List FrameRecord
  now_a = s.given_a ++ xs

  abbrev pub now_b : List FrameRecord
  now_b = s.given_b ++ ys

  off_a : leave_a ≡ false → waiting_of a ≡ waiting_of m.a
  off_a off = ap waiting_of (stay_a (ap (λ (x : Bool). x && not (is_from A source)) off))

  off_b : leave_b ≡ false → waiting_of b ≡ waiting_of m.b
  off_b off = ap waiting_of (stay_b (ap (λ (x : Bool). x && not (is_from B source)) off))

  behind_a : IsPast (is_from A source) (n + 1) a now_a
  behind_a = took_past follow c n (is_from A source) m.a a _ _ s.given_a t.busy_a
      (least_first (waiting_of m.a) (waiting_of m.b) n t.least) t.took_a.same.ended
      (λ on. there_at n (waiting_of m.a) (there_from A n m.a m.b on)) off_a ta

  behind_b : IsPast (is_from B source) (n + 1) b now_b
  behind_b = took_past follow c n (is_from B source) m.b b _ _ s.given_b t.busy_b
      (least_second (waiting_of m.a) (waiting_of m.b) n t.least) t.took_b.same.ended
      (λ on. there_at n (waiting_of m.b) (there_from B n m.a m.b on)) off_b tb

  low : m.next ≤ n
  low = least_most (waiting_of m.a) (waiting_of m.b) n m.next t.least was.behind_a.waits was.behind_b.waits

  next_now : n + 1 ≡ max (above_all now_a) (above_all now_b)
  next_now = next_taken (waiting_of m.a) (waiting_of m.b) n m.next s.given_a s.given_b xs ys t.least low
      s.both.next_is ta.are tb.are

  both : n < MOST_FRAMES → AreFedWith c events (is_from A source) (is_from B source) (n + 1) a b now_a now_b
  both early = record {
    of_a = ta.stands;
    of_b = tb.stands;
    behind_a = behind_a;
    behind_b = behind_b;
    next_is = next_now;
    early = omega (arith, early);
  }

  grown : picks c now_a now_b ≡ picks c s.given_a s.given_b ++ option_to_list (pick_of c xs ys n)
  grown =
      let next = s.both.next_is in
      grow c s.given_a s.given_b xs ys n (below_of n s.given_a (omega (arith, next, low)))
      (below_of n s.given_b (omega (arith, next, low)))
      (are_of (waiting_of m.a) n xs ta.are) (are_of (waiting_of m.b) n ys tb.are)

  i : IsReading c m.merger (frames c m events s) m.ran.units
  i = reading c m events s reads

  units : m.ran.units + 184 ≤ m.next * frame_bytes + 184
  units = units_in c m events s Reads reads

  live : IsLive c (fed 0 events) (fed 1 events) now_a now_b (n + 1) m.ran.units
  live =
      let all = i.complete in
      live_taken c m.a m.b (fed 0 events) (fed 1 events) _ _ s.given_a s.given_b xs ys m.next n (n + 1) m.ran.units
      was.of_a was.of_b s.both.next_is low (omega arith) (are_of (waiting_of m.a) n xs ta.are)
      (are_of (waiting_of m.b) n ys tb.are) (omega (arith, all))

  from_is : (source_now : Option Feed) → p.source ≡ source_now → source ≡ source_now
  from_is source_now own = ap (λ (q : Pick). q.source) (sym t.is) ∙ own

  -- ---- none is picked

  pub passed : p.source ≡ None → n < MOST_FRAMES → Shown c events (record m { a = a; b = b; next = n + 1 })
  passed own early =
      let none : source ≡ None = from_is None own in
      let picked : picks c now_a now_b ≡ picks c s.given_a s.given_b =
      grown
      ∙ ap (λ (o : Option Picked). picks c s.given_a s.given_b ++ option_to_list o)
      (pick_none c n (waiting_of m.a) (waiting_of m.b) xs ys ta.are tb.are none)
      ∙ append-nil (picks c s.given_a s.given_b) in
      let w = s.counts.frames in
      shown_in c events (record m { a = a; b = b; next = n + 1 }) Reads reads now_a now_b s.config s.plan
      (subst (λ (o : Option Feed). AreFedWith c events (is_from A o) (is_from B o) (n + 1) a b now_a now_b) none
      (both early)) (rw picked (sends_in c m events s Reads reads)) (rw picked s.ran_is) (omega (arith, w, low))
      s.counts.parts (let u = units in omega (arith, u, low)) live (rw picked i)

  -- ---- a frame is picked

  -- it is begun as that of its record
  record FrameIs (g : Merger) (from : Feed) : Type 0 where
    view : RecordView
    picked : picks c now_a now_b ≡ picks c s.given_a s.given_b ++ record { feed = from; frame = numbered n view } ∷ []
    formed : IsFormed c n view
    begun : BeginsAs m.merger g (left_for g (feed_in from a b)) (numbered n view)

  module _ (formed_law : FramesAreFormed) (g : Merger) where
    frame_begun : (from : Feed) (bytes : List ℕ) (ended : Bool) (given records : List FrameRecord)
        → Begins m.merger g (feed_in from a b) n → IsFedWith c (feed_in from a b) bytes ended given
        → IsHeld c (feed_in from a b) bytes ended (given ++ records)
        → PickIs c n from records (pick_of c xs ys n) → FrameIs g from
    frame_begun from bytes ended given records begins h held k =
        let net : merger.config_of m.merger ≡ c = s.sends.network in
        let due = due_held c _ bytes ended given records k.one k.only held in
        let begun = begins.begun (h.network ∙ sym net) (rw net s.plan) bytes ended given h.stands
        k.one held.later (rw net due) k.group k.whole k.number in
        let frame : frame_by (merger.config_of m.merger) k.one ≡ numbered n (content_view c n k.one.content) =
        rw (net, k.number) in
        record {
          view = content_view c n k.one.content;
          picked = grown ∙ ap (λ (o : Option Picked). picks c s.given_a s.given_b ++ option_to_list o) k.is;
          formed = formed_due formed_law c bytes ended given from n records _ held.later s.plan k due;
          begun = subst (BeginsAs m.merger g (left_for g (feed_in from a b))) frame begun;
        }

    frame_is : (from : Feed) → p.source ≡ Some from → Begins m.merger g (feed_in from a b) n → FrameIs g from
    frame_is A own begins =
        let here = from_is (Some A) own in
        let on = from_source A source here in
        frame_begun A (fed 0 events) (has_ended 0 events) s.given_a xs begins
        (rw (stay_a (leaves_none A leave_a source on)) was.of_a)
        (subst (λ (x : Bool). OfFeed x c a (fed 0 events) (has_ended 0 events) now_a) on ta.stands)
        (pick_first c n (waiting_of m.a) (waiting_of m.b) xs ys ta.are tb.are here)
    frame_is B own begins =
        let here = from_is (Some B) own in
        let on = from_source B source here in
        frame_begun B (fed 1 events) (has_ended 1 events) s.given_b ys begins
        (rw (stay_b (leaves_none B leave_b source on)) was.of_b)
        (subst (λ (x : Bool). OfFeed x c b (fed 1 events) (has_ended 1 events) now_b) on tb.stands)
        (pick_second c n (waiting_of m.a) (waiting_of m.b) xs ys ta.are tb.are here)

    module _ (field : FieldRange) (from : Feed) (own : p.source ≡ Some from)
        (begins : Begins m.merger g (feed_in from a b) n) where
      abbrev f : FrameIs g from
      f = frame_is from own begins

      -- so few units it has
      few : more_units Gives g (feed_in from a b) ≤ frame_bytes
      few =
          let most = f.begun.more in
          let bodies = few_bodies field c n f.view s.plan f.formed in
          let same = ap (λ (k : Config). length (view_bodies k n f.view)) s.sends.network in
          omega (arith, most, bodies, same, idle_left m.merger i.idle)

      pub begun_left : left_in Gives (feed.left_of a + feed.left_of b) g (feed_in from a b) < left_of m
      begun_left =
          let was = ap (λ (p : Phase). left_in p (feed.left_of m.a + feed.left_of m.b) m.merger (feed_of m)) reads in
          omega (arith, was, no_more_left m a b n p t, few)

      pub begun : n < MOST_FRAMES → (ran : MergeRan) → ran ≡ added m.ran from
          → Shown c events
          (record m { a = a; b = b; merger = g; source = from; next = n + 1; phase = Gives; ran = ran })
      begun early ran is =
          let more : Picked = record { feed = from; frame = numbered n f.view } in
          let count = one_more m.ran from in
          let was_frames = s.counts.frames in
          let was_parts = s.counts.parts in
          let w = waits_now m a b n p t from own in
          subst (λ (r : MergeRan). Shown c events
          (record m { a = a; b = b; merger = g; source = from; next = n + 1; phase = Gives; ran = r })) (sym is)
          (shown_in c events _ Gives refl now_a now_b s.config s.plan
          (subst (λ (o : Option Feed). AreFedWith c events (is_from A o) (is_from B o) (n + 1) a b now_a now_b)
          (from_is (Some from) own) (both early))
          (rw (count.units, f.picked, frames_append (picks c s.given_a s.given_b) (more ∷ []))
          (sends_begun c m.merger g (left_for g (feed_in from a b)) (frames c m events s) (numbered n f.view)
          m.ran.units (gave events) begins.config i.is_open f.begun (sends_in c m events s Reads reads)))
          (rw (count.units, f.picked) (ap (λ (r : MergeRan). added r from) s.ran_is
          ∙ sym (counted_push (picks c s.given_a s.given_b) more m.ran.units)))
          (omega (arith, count.frames, was_frames, low)) (omega (arith, count.frames, count.parts, was_parts))
          (omega (arith, units, few, count.units, low)) (rw count.units live)
          (record {
            is_open = begins.finished;
            whole = w.whole;
            early = λ x is. let e = w.number x is in omega (arith, e, early);
          }))

-- both feeds are of the network of the merger
pub network_in : (c : Config) (m : MergeMachine) (a b : FrameFeed) (events : List Event) → m.phase ≡ Reads
    → feed.config_of a ≡ feed.config_of m.a → feed.config_of b ≡ feed.config_of m.b → (s : Shown c events m)
    → (from : Feed) → feed.config_of (feed_in from a b) ≡ merger.config_of m.merger
network_in c m a b events reads same_a same_b s A =
    same_a ∙ (both_in c m events s Reads reads).of_a.network ∙ sym s.sends.network
network_in c m a b events reads same_a same_b s B =
    same_b ∙ (both_in c m events s Reads reads).of_b.network ∙ sym s.sends.network

-- ---- no more frames come

pub shown_finished : (c : Config) (m : MergeMachine) (g : Merger) (events : List Event) → Shown c events m
    → m.phase ≡ Reads
    → least_of (waiting_of m.a) (waiting_of m.b) ≡ None → is_idle (waiting_of m.a) (feed.has_ended m.a) ≡ false
    → is_idle (waiting_of m.b) (feed.has_ended m.b) ≡ false
    → ((left : List Body) (all : List (ℕ × Body)) (given : ℕ) → MergerStandsFor m.merger left all given
    → MergerStandsFor g left all given)
    → merger.config_of g ≡ merger.config_of m.merger → has_finished g ≡ true → is_fed g ≡ true
    → bytes_left g [] ≡ bytes_left m.merger []
    → Shown c events (record m { merger = g; phase = Rests })
shown_finished c m g events s reads least busy_a busy_b stands config over all_fed left =
    let i = reading c m events s reads in
    let none = least_none (waiting_of m.a) (waiting_of m.b) least in
    let units = units_in c m events s Reads reads in
    let sending = sends_in c m events s Reads reads in
    shown_in c events (record m { merger = g; phase = Rests }) Rests refl s.given_a s.given_b s.config s.plan
    (both_in c m events s Reads reads)
    (sends_over c m.merger g [] (frames c m events s) m.ran.units (gave events) config i.is_open
    (stands [] _ m.ran.units sending.stands) sending)
    s.ran_is s.counts.frames s.counts.parts (omega (arith, units, left, idle_left m.merger i.idle)) s.live
    (record {
      over = over;
      all_fed = all_fed;
      none_a = none_comes m.a none.0 busy_a;
      none_b = none_comes m.b none.1 busy_b;
    })
