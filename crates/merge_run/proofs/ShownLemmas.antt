-- What is shown at first, of bytes that came, and of their end.
use Rattle.std.proofs.Common.{◌≡◌, ℕ, ◌+◌, ◌*◌, ◌≤◌, false, List, [], ◌∷◌, ◌++◌, length}
use Rattle.std.proofs.Math.Logic.{∥∥₁_map}
use Rattle.std.proofs.Common.{refl, ap, sym, arith, append-nil}
use Rattle.plp_config.specs.Capacity.{IsPlan}
use Rattle.plp_config.specs.declared.config.Config.{Config}
use Rattle.frame_groups.specs.Modulated.{FrameRecord}
use Rattle.t2mi_stream.specs.Complete.{complete_units, complete_in}
use Rattle.t2mi_stream.specs.Pipe.{pipe}
use Rattle.stream_laws.specs.Remade.{NumberedView, remade_packets}
use Rattle.file_run.specs.Events.{Event, Gave, fed, gave}
use Rattle.file_run.specs.Laws.{EventsTell}
use Rattle.file_run.specs.Steps.{HasCome}
use Rattle.file_run.specs.declared.feed_counts.FeedCounts.{FeedCounts}
use Rattle.feed_merge.specs.declared.feed.FrameFeed.{FrameFeed}
use Rattle.feed_merge.specs.Picks.{Picked, picks, frames_of}
use Rattle.feed_merge.specs.StandsFor.{MergerStandsFor, has_unit, has_finished}
use Rattle.feed_merge.specs.StandsFor as merger
use Rattle.feed_merge.specs.declared.merger.Merger.{Merger}
use Rattle.merge_run.specs.Counted.{counted}
use Rattle.merge_run.specs.AsMachine.{Becomes}
use Rattle.merge_run.specs.Shown.{Sends, IsReading, IsGiving, IsResting, IsLive, IsIn, Shown, HasShown}
use Rattle.feed_merge.specs.Both.{AreFedWith, GoOn}
use Rattle.merge_run.specs.Shown.{is_held, feed_of, left_at, more_units, frame_bytes}
use Rattle.merge_run.specs.Taking.{feed_in}
use Rattle.feed_merge.specs.declared.seen.Feed.TheVariants.{A, B}
use Rattle.merge_run.specs.declared.phase.Phase.{Phase}
use Rattle.merge_run.specs.declared.machine.MergeMachine.{MergeMachine}
use Rattle.merge_run.specs.declared.phase.Phase.TheVariants.{Reads, Gives, Rests, Done}
use Rattle.merge_run.specs.declared.stop.MergeRan.{MergeRan}
use Rattle.feed_merge.proofs.EventLemmas.{gave_both}
use Rattle.merge_run.proofs.LiveLemmas.{live_all, live_given}
use Rattle.merge_run.proofs.SplitLemmas.{picks_nothing}

-- ---- at first

none_complete : (c : Config) → 0 ≡ length (complete_units c.pid (remade_packets c []))
unfolding remade_packets complete_in
none_complete c = refl

pub sends_opened : (c : Config) (g : Merger) → merger.config_of g ≡ c → MergerStandsFor g [] [] 0
    → Sends c g [] (frames_of (picks c [] [])) 0 []
sends_opened c g config stands =
    rw (picks_nothing c) (record {
      network = config;
      stands = stands;
      units = [];
      gave_is = refl;
      count_is = refl;
      front = λ more _. (pipe c.pid (remade_packets c [] ++ more), refl);
      whole = λ _. omega arith;
    })

pub reading_opened : (c : Config) (g : Merger) → has_unit g ≡ false → has_finished g ≡ false
    → IsReading c g (frames_of (picks c [] [])) 0
reading_opened c g idle going =
    rw (picks_nothing c) (record { is_open = going; idle = idle; complete = none_complete c })

pub live_opened : (c : Config) → IsLive c [] [] [] [] 0 0
live_opened c = record {
  low = 0;
  within = omega arith;
  due_a = λ k lt. absurd (omega (arith, lt));
  due_b = λ k lt. absurd (omega (arith, lt));
  done = (let none = none_complete c in omega (arith, none));
}

pub ran_opened : (c : Config) → (let r : MergeRan = record { frames = 0; a = 0; b = 0; units = 0 } in r) ≡ counted
    (picks c [] []) 0
ran_opened c = sym (ap (λ (ps : List Picked). counted ps 0) (picks_nothing c))

-- ---- what is shown of a merger in its phase

pub shown_in : (c : Config) (events : List Event) (m : MergeMachine) (p : Phase) → m.phase ≡ p
    → (ga gb : List FrameRecord) → m.plan.now ≡ c → IsPlan c
    → AreFedWith c events (is_held p m.source A) (is_held p m.source B) m.next m.a m.b ga gb
    → Sends c m.merger (left_at p m.merger (feed_of m)) (frames_of (picks c ga gb)) m.ran.units (gave events)
    → m.ran ≡ counted (picks c ga gb) m.ran.units → m.ran.frames ≤ m.next → m.ran.a + m.ran.b ≡ m.ran.frames
    → m.ran.units + more_units p m.merger (feed_of m) ≤ m.next * frame_bytes + 184
    → IsLive c (fed 0 events) (fed 1 events) ga gb m.next m.ran.units → IsIn c m (frames_of (picks c ga gb)) p
    → Shown c events m
shown_in c events m p e ga gb config plan both sends ran frames parts units live is_in = record {
  config = config;
  plan = plan;
  given_a = ga;
  given_b = gb;
  both = rw e both;
  sends = rw e sends;
  ran_is = ran;
  counts = record { frames = frames; parts = parts; units = rw e units };
  live = live;
  is_in = rw e is_in;
}

module _ (c : Config) (m : MergeMachine) (events : List Event) (s : Shown c events m) where
  abbrev pub frames : List NumberedView
  frames = frames_of (picks c s.given_a s.given_b)

  module _ (p : Phase) (e : m.phase ≡ p) where
    pub both_in : AreFedWith c events (is_held p m.source A) (is_held p m.source B) m.next m.a m.b s.given_a s.given_b
    both_in = rw e at s.both

    pub sends_in : Sends c m.merger (left_at p m.merger (feed_of m)) frames m.ran.units (gave events)
    sends_in = rw e at s.sends

    pub units_in : m.ran.units + more_units p m.merger (feed_of m) ≤ m.next * frame_bytes + 184
    units_in = rw e at s.counts.units

    pub is_at : IsIn c m frames p
    is_at = rw e at s.is_in

  pub reading : m.phase ≡ Reads → IsReading c m.merger frames m.ran.units
  reading = is_at Reads

  pub giving : m.phase ≡ Gives → IsGiving m.merger (feed_of m)
  giving = is_at Gives

  pub resting : m.phase ≡ Rests → IsResting m.merger m.a m.b
  resting = is_at Rests

-- Bytes were given, and this is so then of the feeds, the merger and the units.
pub shown_gave : EventsTell → (c : Config) (m : MergeMachine) (events : List Event) (s : Shown c events m)
    (bytes : List ℕ) (a b : FrameFeed) (g : Merger) (q p : Phase) (count : ℕ) → q ≡ p → m.ran.units ≤ count
    → AreFedWith c events (is_held p m.source A) (is_held p m.source B) m.next a b s.given_a s.given_b
    → Sends c g (left_at p g (feed_in m.source a b)) (frames c m events s) count (gave (events ++ Gave bytes ∷ []))
    → count + more_units p g (feed_in m.source a b) ≤ m.next * frame_bytes + 184
    → (let now : MergeMachine =
    record m { a = a; b = b; merger = g; phase = q; ran = record m.ran { units = count } } in
    IsIn c now (frames c m events s) p → Shown c (events ++ Gave bytes ∷ []) now)
shown_gave tell c m events s bytes a b g q p count e more both sends units is_in =
    shown_in c _ _ p e s.given_a s.given_b s.config s.plan
    (gave_both tell c events bytes _ _ m.next a b s.given_a s.given_b both) sends
    (ap (λ (r : MergeRan). record r { units = count }) s.ran_is) s.counts.frames s.counts.parts units
    (live_given tell c events bytes s.given_a s.given_b m.next m.ran.units count more s.live) is_in

-- ---- something was done

pub has_shown : (m : MergeMachine) → ∥ HasCome Becomes m ∥₁ → ∥ HasShown m ∥₁
has_shown m came = ∥∥₁_map came (λ (h : HasCome Becomes m). record {
  network = h.start.plan.now;
  events = h.events;
  shown = h.came;
})

-- ---- no definition reads what is counted for people

in_counted : (c : Config) (m : MergeMachine) (n : FeedCounts) (fs : List NumberedView) (p : Phase)
    → IsIn c m fs p → IsIn c (record m { counts = n }) fs p
in_counted c m n fs Reads i = i
in_counted c m n fs Gives i = i
in_counted c m n fs Rests i = i
in_counted c m n fs Done i = i

pub shown_counted : (c : Config) (events : List Event) (m : MergeMachine) (n : FeedCounts) → Shown c events m
    → Shown c events (record m { counts = n })
shown_counted c events m n s =
    shown_in c events (record m { counts = n }) m.phase refl s.given_a s.given_b s.config s.plan s.both s.sends
    s.ran_is s.counts.frames s.counts.parts s.counts.units s.live
    (in_counted c m n (frames c m events s) m.phase s.is_in)

pub has_counted : (m : MergeMachine) (n : FeedCounts) → ∥ HasShown m ∥₁ → ∥ HasShown (record m { counts = n }) ∥₁
has_counted m n came = ∥∥₁_map came (λ (h : HasShown m). record {
  network = h.network;
  events = h.events;
  shown = shown_counted h.network h.events m n h.shown;
})

-- ---- bytes came

-- so the feeds changed
pub shown_read : (c : Config) (m : MergeMachine) (g h : FrameFeed) (events more : List Event) (s : Shown c events m)
    → m.phase ≡ Reads
    → GoOn c events more m.next g h s.given_a s.given_b → Shown c more (record m { a = g; b = h })
shown_read c m g h events more s reads go =
    let i = reading c m events s reads in
    let e = i.complete in
    shown_in c more (record m { a = g; b = h }) Reads reads s.given_a s.given_b s.config s.plan go.both
    (rw go.gave_is (sends_in c m events s Reads reads)) s.ran_is s.counts.frames s.counts.parts
    (units_in c m events s Reads reads)
    (live_all c g h (fed 0 more) (fed 1 more) _ _ s.given_a s.given_b m.next m.ran.units go.both.of_a go.both.of_b
    s.both.next_is (omega (arith, e))) i

-- Nothing was given.
pub shown_still : EventsTell → (c : Config) (m : MergeMachine) (events : List Event) → Shown c events m
    → Shown c (events ++ Gave [] ∷ []) m
shown_still tell c m events s =
    shown_in c _ m m.phase refl s.given_a s.given_b s.config s.plan
    (gave_both tell c events [] _ _ m.next m.a m.b s.given_a s.given_b s.both)
    (rw ((tell.given [] events).gave, append-nil) s.sends) s.ran_is s.counts.frames s.counts.parts s.counts.units
    (live_given tell c events [] s.given_a s.given_b m.next m.ran.units m.ran.units (omega arith) s.live) s.is_in
