-- What is left to give, how far an input may be read, and what is known of a machine that came.
use Rattle.std.proofs.Common.{◌≡◌, ◌≢◌, ℕ, ◌+◌, ◌*◌, ◌/◌, ◌<◌, ◌≤◌, Bool, true, false, List, [], ◌∷◌, ◌++◌, length}
use Rattle.std.proofs.Common.{take, Option, Some, None, refl, ap, sym, subst, ◌∙◌, arith, rules}
use Rattle.std.proofs.Common.{length-append, append-nil}
use Rattle.plp_config.specs.Laws.{CountRises, SlotLength}
use Rattle.plp_config.specs.SlotTime.{slots_by}
use Rattle.plp_config.specs.declared.config.Config.{Config}
use Rattle.plp_config.specs.declared.moment.TheConstants.{MOST_FRAMES}
use Rattle.std.specs.Prelude.{IsSome, is_some, not, ◌==◌}
use Rattle.std.proofs.lemmas.Bool.{true≢false}
use Rattle.std.proofs.lemmas.List.{length-take-le}
use Rattle.std.proofs.lemmas.Option.{same_Some}
use Rattle.ts_packet.specs.declared.sizes.TheConstants.{SIZE}
use Rattle.frame_groups.specs.declared.cause.MuteCause.{MuteCause}
use Rattle.frame_groups.specs.declared.waiting.Waiting.{Waiting}
use Rattle.file_run.specs.Events.{Event, Fed, Ended, Gave, gave}
use Rattle.file_run.specs.Laws.{EventsTell}
use Rattle.feed_merge.specs.FeedStandsFor.{fed_of, is_whole}
use Rattle.feed_merge.specs.FeedStandsFor as feed
use Rattle.feed_merge.proofs.BothCameLemmas.{test_of, most_of, less_of, number_of}
use Rattle.terms.proofs.CaseLemmas.{bool_cases}
use Rattle.terms.proofs.OptionLemmas.{none_some}
use Rattle.frame_writer.specs.Left.{CanBeSent}
use Rattle.frame_writer.specs.declared.frame.PoolFrame.{PoolFrame}
use Rattle.region_swap.specs.Swapped.{frames_in}
use Rattle.region_swap.specs.StandsFor.{GivesUnits, Status, status_of, frame_of, has_unit, is_fed}
use Rattle.region_swap.specs.declared.swapper.Swapper.{Swapper}
use Rattle.swap_run.specs.Shown.{Sends, IsIn, Shown, HasShown, begun_in, finished_in, left_at}
use Rattle.swap_run.specs.Steps.{left_in, left_of, wanted_in, reach_of, input_reach, drained}
use Rattle.swap_run.specs.declared.phase.Phase.{Phase}
use Rattle.swap_run.specs.declared.phase.Phase.TheVariants as phase
use Rattle.swap_run.specs.declared.machine.SwapMachine.{SwapMachine}
use Rattle.swap_run.proofs.GoLemmas.{slots_rise, same_frame, next_most}
use Rattle.swap_run.proofs.LiveLemmas.{live_on}
use Rattle.swap_run.proofs.PacketLemmas.{reads_same}
use Rattle.swap_run.proofs.ShownLemmas.{Same, feed_same, feed_network, in_packets, in_units, in_drains, in_rests}

-- ---- events

pub fed_same : EventsTell → (input other : ℕ) (bytes : List ℕ) (events : List Event) → other ≢ input
    → Same other events (events ++ Fed input bytes ∷ [])
fed_same tell input other bytes events differ =
    let t = tell.fed input bytes events in
    record { fed_is = t.others other differ; ended_is = t.ended other }

pub ended_same : EventsTell → (input other : ℕ) (bytes : List ℕ) (events : List Event) → other ≢ input
    → Same other events (events ++ Ended input bytes ∷ [])
ended_same tell input other bytes events differ =
    let t = tell.ended input bytes events in
    record { fed_is = t.others other differ; ended_is = t.others_ended other differ }

pub gave_same : EventsTell → (input : ℕ) (bytes : List ℕ) (events : List Event)
    → Same input events (events ++ Gave bytes ∷ [])
gave_same tell input bytes events =
    let t = tell.given bytes events in
    record { fed_is = t.fed input; ended_is = t.ended input }

pub zero_one : ◌≢◌ {A = ℕ} 0 1
zero_one e = absurd (omega (arith, e))

pub one_zero : ◌≢◌ {A = ℕ} 1 0
one_zero e = absurd (omega (arith, e))

-- ---- how far an input may be read

pub reach_by : (m n : SwapMachine) → fed_of m.feed ≤ fed_of n.feed → input_reach m ≤ input_reach n → (other : ℕ)
    → reach_of m other ≤ reach_of n other
reach_by m n a b other = bool_cases (other == 0) (λ e. rw e (omega (arith, a))) (λ e. rw e b)

-- the slots that are over when a frame begins
abbrev pub slots_before : SwapMachine → ℕ → ℕ
slots_before m frame = slots_by m.plan.now (status_of m.swapper).plp (frame * m.plan.now.ticks)

-- and those whose packets were wanted
abbrev pub slots_at : SwapMachine → ℕ
slots_at m = slots_before m (wanted_in m.phase m.number)

pub slots_in : (m : SwapMachine) (p : Phase) → m.phase ≡ p → slots_at m ≡ slots_before m (wanted_in p m.number)
slots_in m p e = ap (λ (x : Phase). slots_before m (wanted_in x m.number)) e

pub reach_on : (m n : SwapMachine) → fed_of m.feed ≤ fed_of n.feed → slots_at m ≤ slots_at n
    → drained m.draining m.ran.unsent ≤ drained n.draining n.ran.unsent → (other : ℕ)
    → reach_of m other ≤ reach_of n other
reach_on m n f s d = reach_by m n f (omega (arith, s, d))

-- what the configuration counts of them
pub slots_is : (c : Config) (plp : ℕ) (events : List Event) (m : SwapMachine) → Shown c plp events m → (frame : ℕ)
    → slots_before m frame ≡ slots_by c plp (frame * c.ticks)
slots_is c plp events m s frame =
    ap (λ (k : Config). slots_by k (status_of m.swapper).plp (frame * k.ticks)) s.base.config
    ∙ ap (λ (p : ℕ). slots_by c p (frame * c.ticks)) (ap (λ (x : Status). x.plp) s.status)

pub drained_more : (b : Bool) (n : ℕ) → drained b n ≤ drained true n
drained_more true n = omega arith
drained_more false n = omega arith

pub slots_next : CountRises → SlotLength → (m : SwapMachine) (q : Swapper) (a b : ℕ) → ∥ HasShown m ∥₁ → a ≤ b
    → (status_of q).plp ≡ (status_of m.swapper).plp → slots_before m a ≤ slots_by m.plan.now (status_of q).plp
    (b * m.plan.now.ticks)
slots_next rises slot m q a b came le e = most_of _ _ came (λ (h : HasShown m). go h)
  where
    go : HasShown m → slots_before m a ≤ slots_by m.plan.now (status_of q).plp (b * m.plan.now.ticks)
    go h =
        let s = h.shown in
        let c = h.network in
        let plp : (status_of m.swapper).plp ≡ h.plp = ap (λ (x : Status). x.plp) s.status in
        let here = ap (λ (p : ℕ). slots_by c p (a * c.ticks)) plp in
        let there = ap (λ (p : ℕ). slots_by c p (b * c.ticks)) (e ∙ plp) in
        let up = slots_rise rises slot c h.plp a b s.base.rules s.base.place le in
        subst (λ (k : Config). slots_by k (status_of m.swapper).plp (a * k.ticks) ≤ slots_by k (status_of q).plp
        (b * k.ticks))
        (sym s.base.config) (omega (arith, up, here, there))

-- ---- what is left to give

pub left_by : (m : SwapMachine) (p : Phase) → m.phase ≡ p → left_of m ≡ left_in p (feed.left_of m.feed)
    m.number m.swapper m.feed
left_by m p e = ap (λ (x : Phase). left_in x (feed.left_of m.feed) m.number m.swapper m.feed) e

-- ---- what is known of a machine that came

pub number_most : (m : SwapMachine) → ∥ HasShown m ∥₁ → m.number ≤ MOST_FRAMES
number_most m came = most_of _ _ came (λ (h : HasShown m). h.shown.bound.early)

pub few_counted : (m : SwapMachine) → ∥ HasShown m ∥₁ → m.ran.muted + m.ran.frames ≤ MOST_FRAMES + 1
few_counted m came = most_of _ _ came (λ (h : HasShown m).
    let a = h.shown.counted.muted_is in
    let b = h.shown.bound.few in
    let d = h.shown.bound.early in
    let e = next_most m.phase m.number in
    omega (arith, a, b, d, e))

pub few_unsent : (m : SwapMachine) → ∥ HasShown m ∥₁ → m.ran.unsent ≤ m.taken
few_unsent m came = most_of _ _ came (λ (h : HasShown m).
    let a = h.shown.counted.unsent_is in
    let b = h.shown.of_input.count in
    let d = length-append h.shown.read.told.packets h.shown.read.rest in
    omega (arith, a, b, d))

module _ (m : SwapMachine) (came : ∥ HasShown m ∥₁) where
  -- a frame of the feed is one of the network of the swapper
  pub sent_in : (f : PoolFrame) → CanBeSent (feed.config_of m.feed) f → CanBeSent (status_of m.swapper).network f
  sent_in f can = record {
    pre = can.pre;
    conf = can.conf;
    dynamic = can.dynamic;
    plps = number_of _ _ came (λ (h : HasShown m).
        can.plps ∙ ap (λ (k : Config). length k.plps) (feed_network h.network h.plp h.events m h.shown
        ∙ sym (ap (λ (x : Status). x.network) h.shown.status)));
    short = can.short;
  }

  pub packets_idle : m.phase ≡ phase.Packets → has_unit m.swapper ≡ false
  packets_idle e = test_of _ _ came (λ (h : HasShown m). (in_packets h.network h.plp h.events m h.shown e).caught.idle)

  -- whether a frame is under way, and whether no more come
  pub begun_at : (p : Phase) → m.phase ≡ p → (status_of m.swapper).begun ≡ begun_in p
  begun_at p e = test_of _ _ came (λ (h : HasShown m). ap (λ (x : Status). x.begun) h.shown.status ∙ ap begun_in e)

  pub finished_at : (p : Phase) → m.phase ≡ p → (status_of m.swapper).finished ≡ finished_in p
  finished_at p e = test_of _ _ came (λ (h : HasShown m).
      ap (λ (x : Status). x.finished) h.shown.status ∙ ap finished_in e)

  -- of the record that waits
  pub packets_early : m.phase ≡ phase.Packets → (w : Waiting) → feed.waiting_of m.feed ≡ Some w → w.frame < MOST_FRAMES
  packets_early e w waits = less_of _ _ came (λ (h : HasShown m).
      let same = same_frame h.network h.plp h.events m h.shown e w waits in
      let early = (in_packets h.network h.plp h.events m h.shown e).early in
      omega (arith, same, early))

  pub packets_behind : m.phase ≡ phase.Packets → (w : Waiting) → feed.waiting_of m.feed ≡ Some w → m.number ≤ w.frame
  packets_behind e w waits = most_of _ _ came (λ (h : HasShown m).
      let same = same_frame h.network h.plp h.events m h.shown e w waits in
      let behind = (in_packets h.network h.plp h.events m h.shown e).behind in
      omega (arith, same, behind))

  pub packets_waits : m.phase ≡ phase.Packets → IsSome (feed.waiting_of m.feed)
  packets_waits e = test_of _ _ came (λ (h : HasShown m).
      ap is_some (in_packets h.network h.plp h.events m h.shown e).waits)

  pub frame_is : frame_of m.swapper ≡ m.number
  frame_is = number_of _ _ came (λ (h : HasShown m). ap (λ (x : Status). x.frame) h.shown.status)

  -- the record that waits is that of the frame under way
  pub units_whole : m.phase ≡ phase.Units → is_whole (feed.waiting_of m.feed) ≡ true
  units_whole e = test_of _ _ came (λ (h : HasShown m).
      let i = in_units h.network h.plp h.events m h.shown e in
      ap is_whole i.waits ∙ ap (λ (o : Option MuteCause). not (is_some o)) i.whole)

  pub units_waits : m.phase ≡ phase.Units → IsSome (feed.waiting_of m.feed)
  units_waits e = test_of _ _ came (λ (h : HasShown m). ap is_some (in_units h.network h.plp h.events
      m h.shown e).waits)

  pub units_at : m.phase ≡ phase.Units → (w : Waiting) → feed.waiting_of m.feed ≡ Some w → w.frame < MOST_FRAMES
  units_at e w waits = less_of _ _ came (λ (h : HasShown m).
      let i = in_units h.network h.plp h.events m h.shown e in
      let same : w.frame ≡ i.waiting.frame = ap (λ (x : Waiting). x.frame) (same_Some w i.waiting (sym waits
      ∙ i.waits)) in
      let here = i.here in
      let early = i.early in
      omega (arith, same, here, early))

  pub units_early : m.phase ≡ phase.Units → m.number < MOST_FRAMES
  units_early e = less_of _ _ came (λ (h : HasShown m). (in_units h.network h.plp h.events m h.shown e).early)

  pub drains_idle : m.phase ≡ phase.Drains → has_unit m.swapper ≡ false
  drains_idle e = test_of _ _ came (λ (h : HasShown m). (in_drains h.network h.plp h.events m h.shown e).caught.idle)

  pub rests_fed : m.phase ≡ phase.Rests → is_fed m.swapper ≡ true
  rests_fed e = test_of _ _ came (λ (h : HasShown m). (in_rests h.network h.plp h.events m h.shown e).all_fed)

-- ---- the bytes behind which an input ended

pub some_length : (bytes : List ℕ) → 0 < length bytes → bytes ≢ []
some_length bytes lt e = let n = ap (λ (l : List ℕ). length l) e in absurd (omega (arith, lt, n))

pub nothing_more : (front bytes : List ℕ) → length bytes ≡ 0 → front ++ bytes ≡ front
nothing_more front [] e = append-nil front
nothing_more front (x ∷ bytes) e = absurd (omega (arith, e))

pub is_muted : (o : Option MuteCause) → is_some o ≡ true → o ≡ None → ⊥
is_muted None e n = true≢false (sym e)
is_muted (Some x) e n = none_some x (sym n)

pub not_muted : (o : Option MuteCause) → is_some o ≡ false → o ≡ None
not_muted None e = refl
not_muted (Some x) e = absurd (true≢false e)

-- ---- nothing was given

pub shown_still : EventsTell → (c : Config) (plp : ℕ) (m : SwapMachine) (events : List Event) → Shown c plp events m
    → Shown c plp (events ++ Gave [] ∷ []) m
shown_still tell c plp m events s =
    let zero = gave_same tell 0 [] events in
    let one = gave_same tell 1 [] events in
    let r = s.read in
    let of = feed_same (begun_in m.phase) c m.feed _ _ _ _ r.given zero.fed_is zero.ended_is s.of_feed in
    let input = reads_same _ _ _ _ r.told r.rest r.tail m.taken m.ended one.fed_is one.ended_is s.of_input in
    let sends : Sends c plp m.swapper r.told (left_at m.phase m.swapper m.feed) (frames_in c r.given) m.ran.units
    (gave (events ++ Gave [] ∷ [])) = rw ((tell.given [] events).gave, append-nil (gave events)) s.sends in
    let live = live_on c plp _ _ r.told r.told r.given m.ran.units m.ran.units zero.fed_is (λ _ cont. cont)
    (omega arith) s.live in
    let there = subst (λ (b : Bool). IsIn c plp m r b m.phase) (sym one.ended_is) s.is_in in
    search rules

-- the bytes of units tell how many there are
pub counted_units : (old new : Swapper) (frame : PoolFrame) (full : Bool) (len : ℕ) (out : List ℕ) → len ≤ length out
    → (g : GivesUnits old new frame full (take len out)) → len / SIZE ≡ length g.units
counted_units old new frame full len out few g =
    let e = length-take-le len out few in
    let s = g.size in
    omega (arith, e, s)
