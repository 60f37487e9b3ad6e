-- Units are given.
use Rattle.std.proofs.Common.{◌≡◌, ℕ, ◌+◌, ◌*◌, ◌/◌, ◌^◌, ◌<◌, ◌≤◌, true, false, Bool, List, [], ◌∷◌, ◌++◌, length}
use Rattle.std.proofs.Common.{drop, take, Some, refl, ap, sym, subst, ◌∙◌, arith, append-nil}
use Rattle.std.specs.Prelude.{slice_get}
use Rattle.std.proofs.lemmas.Bool.{true≢false}
use Rattle.std.proofs.lemmas.List.{length-take-le}
use Rattle.terms.proofs.ListLemmas.{drop_some}
use Rattle.ts_packet.specs.declared.sizes.TheConstants.{SIZE}
use Rattle.plp_config.specs.declared.config.Config.{Config}
use Rattle.t2mi_packet.specs.declared.packet.Body.{Body}
use Rattle.t2mi_stream.specs.Pipe.{pipe}
use Rattle.frame_writer.specs.FramePackets.{packets_from}
use Rattle.modulator.specs.Laws.{DueFollow}
use Rattle.stream_laws.specs.Remade.{NumberedView, remade_bodies, remade_packets}
use Rattle.file_run.specs.Events.{Event, Gave, fed, has_ended, gave}
use Rattle.file_run.specs.Laws.{EventsTell}
use Rattle.feed_merge.specs.declared.seen.Feed.{Feed}
use Rattle.feed_merge.specs.declared.seen.Feed.TheVariants.{A, B}
use Rattle.frame_writer.specs.declared.frame.PoolFrame.{PoolFrame}
use Rattle.feed_merge.specs.Frames.{IsFrameOf}
use Rattle.feed_merge.specs.Skips.{CanBeLeft, SkipsIf}
use Rattle.feed_merge.specs.FeedStandsFor.{waiting_of, is_whole}
use Rattle.feed_merge.specs.FeedStandsFor as feed
use Rattle.feed_merge.specs.declared.feed.FrameFeed.{FrameFeed}
use Rattle.feed_merge.specs.StandsFor.{MergerStandsFor, GivesUnits, has_finished, is_fed, bytes_left}
use Rattle.feed_merge.specs.StandsFor as merger
use Rattle.feed_merge.specs.declared.merger.Merger.{Merger}
use Rattle.merge_run.specs.Sending.{left_for}
use Rattle.merge_run.specs.Shown.{Sends, IsGiving, IsResting, is_held, feed_of}
use Rattle.feed_merge.specs.Both.{AreFedWith}
use Rattle.feed_merge.specs.Fed.{IsFedWith}
use Rattle.merge_run.specs.Shown.{frame_bytes, Shown, HasShown}
use Rattle.merge_run.specs.Taking.{is_same, feed_in}
use Rattle.merge_run.specs.declared.machine.MergeMachine.{MergeMachine}
use Rattle.merge_run.specs.declared.phase.Phase.TheVariants.{Reads, Gives, Rests, Done}
use Rattle.feed_merge.proofs.HeldLemmas as held
use Rattle.merge_run.proofs.ShownLemmas.{shown_gave, frames, both_in, sends_in, units_in, giving, resting}
use Rattle.merge_run.proofs.SendLemmas.{sends_units, sends_none}
use Rattle.merge_run.proofs.TakeLemmas.{can_whole}
use Rattle.merge_run.proofs.UnitLemmas.{left_is}

-- ---- what is known while units are given

module _ (c : Config) (m : MergeMachine) (events : List Event) (s : Shown c events m) where
  -- the feed is of the network
  pub feed_network : feed.config_of (feed_of m) ≡ c
  feed_network = go m.source
    where
      go : (from : Feed) → feed.config_of (feed_in from m.a m.b) ≡ c
      go A = held.network_of c m.a (fed 0 events) (has_ended 0 events) s.given_a (is_held m.phase m.source A)
          s.both.of_a
      go B = held.network_of c m.b (fed 1 events) (has_ended 1 events) s.given_b (is_held m.phase m.source B)
          s.both.of_b

  pub same_network : feed.config_of (feed_of m) ≡ merger.config_of m.merger
  same_network = feed_network ∙ sym s.sends.network

  -- so the units can be counted
  pub few_units : m.ran.units < 2 ^ 62
  few_units = let u = s.counts.units in let e = s.both.early in omega (arith, u, e)

-- the record whose frame is under way can be left behind
of_feed : (m : MergeMachine) (from : Feed) → is_same m.source from ≡ true → feed_of m ≡ feed_in from m.a m.b
of_feed m from on = go m.source from on
  where
    go : (x y : Feed) → is_same x y ≡ true → feed_in x m.a m.b ≡ feed_in y m.a m.b
    go A A on = refl
    go A B on = absurd (true≢false (sym on))
    go B A on = absurd (true≢false (sym on))
    go B B on = refl

pub can_leave : (m : MergeMachine) → ∥ HasShown m ∥₁ → m.phase ≡ Gives → (from : Feed)
    → CanBeLeft (is_same m.source from) (waiting_of (feed_in from m.a m.b))
can_leave m came gives from =
    can_whole (is_same m.source from) (waiting_of (feed_in from m.a m.b)) came
    (λ (h : HasShown m) on. rw (of_feed m from on) at (giving h.network m h.events h.shown gives).whole)
    (λ (h : HasShown m) on w is.
    (giving h.network m h.events h.shown gives).early w (ap waiting_of (of_feed m from on) ∙ is))

-- ---- of a frame

-- where a merger and a number of units more are
abbrev with_units : MergeMachine → Merger → ℕ → MergeMachine
with_units m g count = record m { merger = g; ran = record m.ran { units = m.ran.units + count } }

-- the bytes of units tell how many there are
pub counted_units : (old new : Merger) (frame : PoolFrame) (full : Bool) (len : ℕ) (out : List ℕ) → len ≤ length out
    → (n : GivesUnits old new frame full (take len out)) → len / SIZE ≡ length n.units
counted_units old new frame full len out few n =
    let e = length-take-le len out few in
    let s = n.size in
    omega (arith, e, s)

pub record Skips (m : MergeMachine) (a b : FrameFeed) : Type 0 where
  pub took_a : SkipsIf (is_same m.source A) m.a a
  pub took_b : SkipsIf (is_same m.source B) m.b b

module _ (tell : EventsTell) (c : Config) (m : MergeMachine) (g : Merger) (events : List Event) (s : Shown c events m)
    (gives : m.phase ≡ Gives)
    (frame : PoolFrame) (is : IsFrameOf (feed_of m) frame) (full : Bool) (bytes : List ℕ)
    (n : GivesUnits m.merger g frame full bytes) where
  abbrev fs : List NumberedView
  fs = frames c m events s

  abbrev count : ℕ
  count = m.ran.units + length n.units

  abbrev more : List Event
  more = events ++ Gave bytes ∷ []

  sending : Sends c m.merger (left_for m.merger (feed_of m)) fs m.ran.units (gave events)
  sending = sends_in c m events s Gives gives

  i : IsGiving m.merger (feed_of m)
  i = giving c m events s gives

  -- what is left of the frame, before and behind
  was : merger.left_in m.merger frame ≡ left_for m.merger (feed_of m)
  was = left_is m.merger (feed_of m) frame is (same_network c m events s)

  now : merger.left_in g frame ≡ left_for g (feed_of m)
  now = left_is g (feed_of m) frame is (same_network c m events s ∙ sym n.network)

  stands : MergerStandsFor m.merger (merger.left_in m.merger frame) (remade_bodies c fs) m.ran.units
  stands = subst (λ (l : List Body). MergerStandsFor m.merger l (remade_bodies c fs) m.ran.units) (sym was)
      sending.stands

  sent : (left : List Body) → merger.left_in g frame ≡ left → Sends c g left fs count (gave more)
  unfolding remade_packets
  sent left e =
      sends_units c m.merger g (left_for m.merger (feed_of m)) left fs m.ran.units n.units (gave events) (gave more)
      ((tell.given bytes events).gave ∙ ap (λ (l : List ℕ). gave events ++ l) n.bytes_are) n.network n.finished
      (λ rest over. rw sending.network at (n.next (remade_bodies c fs) m.ran.units stands rest over))
      (λ off some. rw sending.network at (n.complete off some (remade_bodies c fs) m.ran.units stands))
      (subst (λ (l : List Body). MergerStandsFor g l (remade_bodies c fs) count) e
      (n.stands (remade_bodies c fs) m.ran.units stands)) sending

  -- the units and what is left of the frame
  few : count + bytes_left g (left_for g (feed_of m)) + 184 ≤ m.next * frame_bytes + 184
  few =
      let all = units_in c m events s Gives gives in
      let less = n.less in
      let before = ap (bytes_left m.merger) was in
      let behind = ap (bytes_left g) now in
      omega (arith, all, less, before, behind)

  -- units were given, and the frame stays under way
  pub shown_units : Shown c more (with_units m g (length n.units))
  shown_units =
      shown_gave tell c m events s bytes m.a m.b g m.phase Gives count gives (omega arith)
      (both_in c m events s Gives gives) (sent (left_for g (feed_of m)) now) (let f = few in omega (arith, f))
      (record { is_open = n.finished ∙ i.is_open; whole = i.whole; early = i.early })

  -- so they can be counted
  pub few_more : m.ran.units + length n.units < 2 ^ 62
  few_more = few_units c (with_units m g (length n.units)) more shown_units

  -- else no more is complete, and the record is left behind whose frame was sent
  module _ (follow : DueFollow) (a b : FrameFeed) (t : Skips m a b) where
    given : AreFedWith c events (is_same m.source A) (is_same m.source B) m.next m.a m.b s.given_a s.given_b
    given = both_in c m events s Gives gives

    of_a : IsFedWith c a (fed 0 events) (has_ended 0 events) s.given_a
    of_a = held.left_of (is_same m.source A) c m.a a _ _ s.given_a t.took_a.same.network t.took_a.stays
        (t.took_a.takes (fed 0 events) (has_ended 0 events)) given.of_a

    of_b : IsFedWith c b (fed 1 events) (has_ended 1 events) s.given_b
    of_b = held.left_of (is_same m.source B) c m.b b _ _ s.given_b t.took_b.same.network t.took_b.stays
        (t.took_b.takes (fed 1 events) (has_ended 1 events)) given.of_b

    pub shown_behind : full ≡ false
        → Shown c more (record (with_units m g (length n.units)) { a = a; b = b; phase = Reads })
    unfolding remade_packets
    shown_behind off =
        shown_gave tell c m events s bytes a b g Reads Reads count refl (omega arith)
        (record {
          of_a = of_a;
          of_b = of_b;
          behind_a = held.left_past follow (is_same m.source A) c m.next m.a a _ _ s.given_a t.took_a.stays
              given.behind_a of_a;
          behind_b = held.left_past follow (is_same m.source B) c m.next m.b b _ _ s.given_b t.took_b.stays
              given.behind_b of_b;
          next_is = s.both.next_is;
          early = s.both.early;
        })
        (sent [] (n.spent off)) (let f = few in omega (arith, f))
        (record {
          is_open = n.finished ∙ i.is_open;
          idle = n.idle off;
          complete = rw sending.network at (n.all off i.is_open (remade_bodies c fs) m.ran.units stands);
        })

-- ---- behind the end

module _ (tell : EventsTell) (c : Config) (m : MergeMachine) (g : Merger) (events : List Event) (s : Shown c events m)
    (rests : m.phase ≡ Rests) (config : merger.config_of g ≡ merger.config_of m.merger)
    (finished : has_finished g ≡ true) (all_fed : is_fed g ≡ true) where
  abbrev told : List NumberedView
  told = frames c m events s

  abbrev j : IsResting m.merger m.a m.b
  j = resting c m events s rests

  over : has_finished g ≡ has_finished m.merger
  over = finished ∙ sym j.over

  ending : Sends c m.merger [] told m.ran.units (gave events)
  ending = sends_in c m events s Rests rests

  both : AreFedWith c events false false m.next m.a m.b s.given_a s.given_b
  both = both_in c m events s Rests rests

  pub shown_rest : (unit : List ℕ) → ((all : List (ℕ × Body)) (given : ℕ) → MergerStandsFor m.merger [] all given
      → slice_get (pipe (merger.config_of m.merger).pid (packets_from (merger.config_of m.merger) 0 all))
      given ≡ Some unit)
      → ((all : List (ℕ × Body)) (given : ℕ) → MergerStandsFor m.merger [] all given
      → MergerStandsFor g [] all (given + 1))
      → bytes_left g [] < bytes_left m.merger []
      → Shown c (events ++ Gave unit ∷ []) (record m { merger = g; ran = record m.ran { units = m.ran.units + 1 } })
  unfolding remade_packets
  shown_rest unit next stands less =
      let units = units_in c m events s Rests rests in
      let at : slice_get (pipe c.pid (remade_packets c told)) m.ran.units ≡ Some unit =
      rw ending.network at (next (remade_bodies c told) m.ran.units ending.stands) in
      shown_gave tell c m events s unit m.a m.b g m.phase Rests (m.ran.units + 1) rests (omega arith) both
      (sends_units c m.merger g [] [] told m.ran.units (unit ∷ []) (gave events) (gave (events ++ Gave unit ∷ []))
      ((tell.given unit events).gave ∙ ap (λ (l : List ℕ). gave events ++ l) (sym (append-nil unit))) config over
      (λ more none. rw (none j.over, append-nil (remade_packets c told)) (
        drop (m.ran.units + 1) (pipe c.pid (remade_packets c told)),
        drop_some (pipe c.pid (remade_packets c told)) m.ran.units unit at,
      ))
      (λ off. absurd (true≢false (sym j.over ∙ off)))
      (stands (remade_bodies c told) m.ran.units ending.stands) ending)
      (omega (arith, units, less))
      (record { over = finished; all_fed = all_fed; none_a = j.none_a; none_b = j.none_b })

  -- none is left
  pub shown_done : ((all : List (ℕ × Body)) (given : ℕ) → MergerStandsFor m.merger [] all given
      → length (pipe (merger.config_of m.merger).pid (packets_from (merger.config_of m.merger) 0 all)) ≡ given)
      → ((all : List (ℕ × Body)) (given : ℕ) → MergerStandsFor m.merger [] all given → MergerStandsFor g [] all given)
      → Shown c (events ++ Gave [] ∷ []) (record m { merger = g; phase = Done })
  unfolding remade_packets
  shown_done none stands =
      let units = units_in c m events s Rests rests in
      shown_gave tell c m events s [] m.a m.b g Done Done m.ran.units refl (omega arith) both
      (rw (tell.given [] events).gave (sends_none c m.merger g [] [] told m.ran.units (gave events) config over
      (stands (remade_bodies c told) m.ran.units ending.stands) ending))
      (omega (arith, units))
      (record {
        all = rw ending.network at (none (remade_bodies c told) m.ran.units ending.stands);
        none_a = j.none_a;
        none_b = j.none_b;
      })
