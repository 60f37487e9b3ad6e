-- What is shown of bytes that came, and of their end.
use Rattle.std.proofs.Common.{◌≡◌, ◌≢◌, ◌⊎◌, ℕ, ◌+◌, ◌-◌, ◌*◌, ◌<◌, ◌≤◌, Bool, true, false, cond, List, [], ◌∷◌, ◌++◌}
use Rattle.std.proofs.Common.{length, refl, ap, sym, subst, ◌∙◌, arith, rules, length-append, inl, inr}
use Rattle.std.proofs.Math.Logic.{∥∥₁_map}
use Rattle.std.specs.Prelude.{slice_index}
use Rattle.std.proofs.lemmas.Bool.{true≢false}
use Rattle.gateway_core.proofs.HoldsLemmas.{cont_packet, cont_end}
use Rattle.plp_config.specs.SlotTime.{slots_by}
use Rattle.plp_config.specs.declared.config.Config.{Config}
use Rattle.ts_packet.specs.TsFile.{begins_with_packet}
use Rattle.ts_packet.specs.declared.sizes.TheConstants.{SIZE, SYNC}
use Rattle.t2mi_packet.specs.declared.packet.Body.{Body}
use Rattle.frame_groups.specs.Modulated.{FrameRecord}
use Rattle.stream_laws.specs.Remade.{NumberedView}
use Rattle.file_run.specs.Events.{Event, fed, has_ended, gave}
use Rattle.file_run.specs.Steps.{HasCome}
use Rattle.feed_merge.specs.FeedStandsFor as feed
use Rattle.feed_merge.specs.declared.feed.FrameFeed.{FrameFeed}
use Rattle.gateway_core.specs.InputSoFar.{Told, with_packet, at_end, Continues}
use Rattle.feed_merge.specs.Fed.{IsFedWith}
use Rattle.feed_merge.specs.Both.{OfFeed}
use Rattle.feed_merge.proofs.HeldLemmas.{network_of, end_of, count_of}
use Rattle.region_swap.specs.StandsFor.{SwapperStandsFor, Status, status_of, wants_of, wants_by, has_unit}
use Rattle.region_swap.specs.Swapped.{frames_in}
use Rattle.region_swap.specs.declared.swapper.Swapper.{Swapper}
use Rattle.region_swap.proofs.SwapLemmas.{wants_told}
use Rattle.swap_run.specs.AsMachine.{Becomes}
use Rattle.swap_run.specs.Shown.{HasShown, ReadsPackets, Sends, HasCaughtUp, Read, InRecords, InPackets, InUnits}
use Rattle.swap_run.specs.Shown.{InDrains, InRests, IsBehindAll, IsWanted, IsIn, ShownAt, Shown, IsBound, begun_in}
use Rattle.swap_run.specs.Shown.{IsFor, IsCounted, IsLive, IsQuiet, next_in, left_at, more_units, status_in}
use Rattle.swap_run.specs.SwapRun.{slots_of}
use Rattle.swap_run.specs.declared.phase.Phase.{Phase}
use Rattle.swap_run.specs.declared.phase.Phase.TheVariants as phase
use Rattle.swap_run.specs.declared.stop.SwapStop.TheVariants.{InputRefused}
use Rattle.swap_run.specs.declared.machine.SwapMachine.{SwapMachine}
use Rattle.swap_run.proofs.PacketLemmas.{reads_offer, reads_drain, reads_tail, reads_end, reads_over, reads_same}
use Rattle.swap_run.proofs.SendLemmas.{sends_told, caught_told}
use Rattle.swap_run.proofs.LiveLemmas.{live_caught, live_on}

-- ---- something was done

pub has_shown : (m : SwapMachine) → ∥ HasCome Becomes m ∥₁ → ∥ HasShown m ∥₁
has_shown m came = ∥∥₁_map came (λ (h : HasCome Becomes m). record {
  network = h.start.plan.now;
  plp = (status_of h.start.swapper).plp;
  events = h.events;
  shown = h.came;
})

pub becomes_itself : (m : SwapMachine) (plp : ℕ) → (status_of m.swapper).plp ≡ plp → Shown m.plan.now plp [] m
    → Becomes m [] m
becomes_itself m plp is s = subst (λ (p : ℕ). Shown m.plan.now p [] m) (sym is) s

-- ---- by one event more

pub feed_same : (held : Bool) (c : Config) (f : FrameFeed) (bytes now : List ℕ) (ended is : Bool)
    (given : List FrameRecord) → now ≡ bytes
    → is ≡ ended → OfFeed held c f bytes ended given → OfFeed held c f now is given
feed_same held c f bytes now ended is given e d h = rw (e, d) h

-- The inputs have these bytes, and so much was given, as before but for an input.
pub record Same (input : ℕ) (events more : List Event) : Type 0 where
  pub fed_is : fed input more ≡ fed input events
  pub ended_is : has_ended input more ≡ has_ended input events

-- what is wanted of an input that has not ended
pub record HasWanted (ended : Bool) (slots len : ℕ) : Type 0 where
  pub off : ended ≡ false
  pub less : len < slots

wanted_more : (ended : Bool) (slots len : ℕ) → 0 < cond ended 0 (slots - len) → HasWanted ended slots len
wanted_more true slots len lt = absurd (omega (arith, lt))
wanted_more false slots len lt = record { off = refl; less = omega (arith, lt) }

pub none_wanted : (ended : Bool) (slots len : ℕ) → cond ended 0 (slots - len) ≡ 0 → ended ≡ false → slots ≤ len
none_wanted true slots len e off = absurd (true≢false off)
none_wanted false slots len e off = omega (arith, e)

-- the same of what is bound in a phase that tells nothing of units
pub bound_as : (next number units more less : ℕ) (given : List FrameRecord) → less ≤ more
    → IsBound next number units more given
    → IsBound next number units less given
bound_as next number units more less given le b = let m = b.most in record {
  few = b.few;
  early = b.early;
  most = omega (arith, m, le);
}

-- so it is with this that was told and taken
pub shown_by : (c : Config) (plp : ℕ) (events : List Event) (m : SwapMachine) (at : Phase) (read : Read)
    → IsFor c plp m.plan.now → OfFeed (begun_in at) c m.feed (fed 0 events) (has_ended 0 events) read.given
    → ReadsPackets (fed 1 events) (has_ended 1 events) read.told read.rest read.tail m.taken m.ended
    → read.told.frame ≡ m.number
    → (read.told.ended ≡ false → slots_of c plp read.given ≤ length read.told.packets)
    → Sends c plp m.swapper read.told (left_at at m.swapper m.feed) (frames_in c read.given) m.ran.units (gave events)
    → status_of m.swapper ≡ status_in c plp m.number at
    → IsCounted m.ran.frames m.ran.muted m.ran.unsent m.joined read.given read.rest (frames_in c read.given)
    → IsBound (next_in at m.number) m.number m.ran.units (more_units at m.swapper m.feed) read.given
    → IsLive c plp (fed 0 events) read.told read.given m.ran.units → IsIn c plp m read (has_ended 1 events) at
    → ShownAt c plp events m at
shown_by c plp events m at read base feed input frame had sends status counted bound live is_in = search rules

module _ (c : Config) (plp : ℕ) (events : List Event) (m : SwapMachine) (s : Shown c plp events m) where
  abbrev pub r : Read
  r = s.read

  -- of the T2-MI stream
  pub feed_network : feed.config_of m.feed ≡ c
  feed_network = network_of c m.feed (fed 0 events) (has_ended 0 events) r.given (begun_in m.phase) s.of_feed

  pub feed_end : feed.has_ended m.feed ≡ has_ended 0 events
  feed_end = end_of c m.feed (fed 0 events) (has_ended 0 events) r.given (begun_in m.phase) s.of_feed

  pub feed_count : feed.fed_of m.feed ≡ length (fed 0 events)
  feed_count = count_of c m.feed (fed 0 events) (has_ended 0 events) r.given (begun_in m.phase) s.of_feed

  -- what is so in its phase
  module _ (p : Phase) (e : m.phase ≡ p) where
    pub of_in : OfFeed (begun_in p) c m.feed (fed 0 events) (has_ended 0 events) r.given
    of_in = rw e at s.of_feed

    pub sends_in : Sends c plp m.swapper r.told (left_at p m.swapper m.feed) (frames_in c r.given) m.ran.units
        (gave events)
    sends_in = rw e at s.sends

    pub status_at : status_of m.swapper ≡ status_in c plp m.number p
    status_at = s.status ∙ ap (status_in c plp m.number) e

    pub bound_at : IsBound (next_in p m.number) m.number m.ran.units (more_units p m.swapper m.feed) r.given
    bound_at = rw e at s.bound

    pub is_at : IsIn c plp m r (has_ended 1 events) p
    is_at = subst (IsIn c plp m r (has_ended 1 events)) e s.is_in

  pub in_records : m.phase ≡ phase.Records → InRecords c plp m r
  in_records e = is_at phase.Records e

  pub in_packets : m.phase ≡ phase.Packets → InPackets c plp m r
  in_packets e = is_at phase.Packets e

  pub in_units : m.phase ≡ phase.Units → InUnits c plp m r
  in_units e = is_at phase.Units e

  pub in_drains : m.phase ≡ phase.Drains → InDrains c plp m r
  in_drains e = is_at phase.Drains e

  pub in_rests : m.phase ≡ phase.Rests → InRests c plp m r
  in_rests e = is_at phase.Rests e

  -- what is wanted
  pub wants_is : wants_of m.swapper ≡ wants_by c plp r.told
  wants_is = wants_told m.swapper c plp r.told _ (frames_in c r.given) m.ran.units s.sends.stands

  pub has_wanted : 0 < wants_of m.swapper → HasWanted r.told.ended (slots_by c plp (m.number * c.ticks))
      (length r.told.packets)
  has_wanted lt =
      subst (λ (n : ℕ). HasWanted r.told.ended (slots_by c plp (n * c.ticks)) (length r.told.packets)) s.frame
      (wanted_more r.told.ended (slots_by c plp (r.told.frame * c.ticks)) (length r.told.packets)
      (let e = wants_is in omega (arith, lt, e)))

  pub all_there : wants_of m.swapper ≡ 0 → r.told.ended ≡ false → slots_by c plp (m.number * c.ticks) ≤ length
      r.told.packets
  all_there none off =
      subst (λ (n : ℕ). slots_by c plp (n * c.ticks) ≤ length r.told.packets) s.frame
      (none_wanted r.told.ended (slots_by c plp (r.told.frame * c.ticks)) (length r.told.packets) (sym wants_is
      ∙ none) off)

  -- ---- bytes of the T2-MI stream came, or its end

  pub shown_feed : (g : FrameFeed) (more : List Event) → m.phase ≡ phase.Records → Same 1 events more
      → gave more ≡ gave events
      → IsFedWith c g (fed 0 more) (has_ended 0 more) r.given → Shown c plp more (record m { feed = g })
  shown_feed g more e one gave_is fed_is =
      let i = in_records e in
      let input = reads_same _ _ _ _ r.told r.rest r.tail m.taken m.ended one.fed_is one.ended_is s.of_input in
      let sends : Sends c plp m.swapper r.told [] (frames_in c r.given) m.ran.units (gave more) =
      rw gave_is (sends_in phase.Records e) in
      let status = status_at phase.Records e in
      let bound = bound_at phase.Records e in
      let live = live_caught c plp g (fed 0 more) (has_ended 0 more) r.given m.swapper r.told m.ran.units
      fed_is i.caught in
      subst (ShownAt c plp more (record m { feed = g })) (sym e) (search rules)

  -- ---- a packet was offered

  pub shown_offer : (q : Swapper) (p : List ℕ) (more : List Event) → m.phase ≡ phase.Packets → 0 < wants_of m.swapper
      → Same 0 events more
      → fed 1 more ≡ fed 1 events ++ p → has_ended 1 more ≡ has_ended 1 events → gave more ≡ gave events
      → length p ≡ SIZE → slice_index p 0 ≡ SYNC
      → ((c : Config) (plp : ℕ) (t : Told) (left : List Body) (frames : List NumberedView) (given : ℕ)
      → SwapperStandsFor m.swapper c plp t left frames given → SwapperStandsFor q c plp (with_packet t p)
      left frames given)
      → has_unit q ≡ has_unit m.swapper → status_of q ≡ status_of m.swapper
      → Shown c plp more (record m { swapper = q; taken = m.taken + 1 })
  shown_offer q p more e some zero here ended gave_is long sync stands unit status =
      let w = has_wanted some in
      let i = in_packets e in
      let t : Told = with_packet r.told p in
      let back : (input : List (List ℕ)) → Continues t input → Continues r.told input = λ input cont.
      cont_packet r.told p input w.off cont in
      let longer = length-append r.told.packets (p ∷ []) in
      let less = w.less in
      let of = feed_same false c m.feed _ _ _ _ r.given zero.fed_is zero.ended_is (of_in phase.Packets e) in
      let input = reads_offer _ _ p _ _ r.told r.rest r.tail m.taken m.ended here ended i.quiet.rest_is
      i.quiet.tail_is w.off long sync s.of_input in
      let had : t.ended ≡ false → slots_of c plp r.given ≤ length t.packets =
      λ off. let h = s.had w.off in omega (arith, h, longer) in
      let few : length t.packets ≤ slots_by c plp (m.number * c.ticks) = omega (arith, less, longer) in
      let old = sends_in phase.Packets e in
      let sends = sends_told c plp m.swapper q r.told t [] [] (frames_in c r.given) m.ran.units (gave events)
      (gave more) gave_is back (ap (λ (x : Status). x.finished) status)
      (stands c plp r.told [] (frames_in c r.given) m.ran.units old.stands) old in
      let seen = status ∙ status_at phase.Packets e in
      let bound = bound_at phase.Packets e in
      let live = live_on c plp _ _ r.told t r.given m.ran.units m.ran.units zero.fed_is back (omega arith) s.live in
      let caught = caught_told c plp m.swapper q r.told t (frames_in c r.given) m.ran.units back unit i.caught in
      let now : SwapMachine = record m { swapper = q; taken = m.taken + 1 } in
      subst (ShownAt c plp more now) (sym e) (search (
        rules,
        shown_by c plp more now phase.Packets
            (record r { told = t }),
      ))

  -- ---- the input ended before the frame under way

  pub shown_end : (q : Swapper) (more : List Event) → m.phase ≡ phase.Packets → Same 0 events more
      → fed 1 more ≡ fed 1 events
      → has_ended 1 more ≡ true → gave more ≡ gave events
      → ((c : Config) (plp : ℕ) (t : Told) (left : List Body) (frames : List NumberedView) (given : ℕ)
      → SwapperStandsFor m.swapper c plp t left frames given → SwapperStandsFor q c plp (at_end t) left frames given)
      → has_unit q ≡ has_unit m.swapper → status_of q ≡ status_of m.swapper
      → Shown c plp more (record m { swapper = q; ended = true })
  shown_end q more e zero here ended gave_is stands unit status =
      let i = in_packets e in
      let t : Told = at_end r.told in
      let back : (input : List (List ℕ)) → Continues t input → Continues r.told input = λ input cont.
      cont_end r.told input cont in
      let of = feed_same false c m.feed _ _ _ _ r.given zero.fed_is zero.ended_is (of_in phase.Packets e) in
      let input : ReadsPackets (fed 1 more) (has_ended 1 more) t r.rest r.tail m.taken true =
      rw ended (reads_end _ _ _ r.told r.rest r.tail m.taken m.ended here i.quiet.rest_is i.quiet.tail_is
      s.of_input) in
      let old = sends_in phase.Packets e in
      let sends = sends_told c plp m.swapper q r.told t [] [] (frames_in c r.given) m.ran.units (gave events)
      (gave more) gave_is back (ap (λ (x : Status). x.finished) status)
      (stands c plp r.told [] (frames_in c r.given) m.ran.units old.stands) old in
      let seen = status ∙ status_at phase.Packets e in
      let bound = bound_at phase.Packets e in
      let live = live_on c plp _ _ r.told t r.given m.ran.units m.ran.units zero.fed_is back (omega arith) s.live in
      let caught = caught_told c plp m.swapper q r.told t (frames_in c r.given) m.ran.units back unit i.caught in
      let quiet : IsQuiet m.draining true true r.rest r.tail =
      record { rest_is = i.quiet.rest_is; tail_is = i.quiet.tail_is; calm = i.quiet.calm; ends = refl } in
      let now : SwapMachine = record m { swapper = q; ended = true } in
      subst (ShownAt c plp more now) (sym e) (search (
        rules,
        shown_by c plp more now phase.Packets
            (record r { told = t }),
      ))

  -- ---- of the rest a packet was taken, or its end came

  pub shown_drain : (p : List ℕ) (more : List Event) → m.phase ≡ phase.Drains → m.ended ≡ false → Same 0 events more
      → fed 1 more ≡ fed 1 events ++ p → has_ended 1 more ≡ has_ended 1 events → gave more ≡ gave events
      → length p ≡ SIZE → slice_index p 0 ≡ SYNC
      → Shown c plp more (record m { taken = m.taken + 1; ran = record m.ran { unsent = m.ran.unsent + 1 } })
  shown_drain p more e off zero here ended gave_is long sync =
      let i = in_drains e in
      let longer = length-append r.rest (p ∷ []) in
      let unsent = s.counted.unsent_is in
      let now : SwapMachine = record m { taken = m.taken + 1; ran = record m.ran { unsent = m.ran.unsent + 1 } } in
      let of = feed_same false c m.feed _ _ _ _ r.given zero.fed_is zero.ended_is (of_in phase.Drains e) in
      let input = reads_drain _ _ p _ _ r.told r.rest r.tail m.taken m.ended here ended i.whole off
      long sync s.of_input in
      let sends : Sends c plp m.swapper r.told [] (frames_in c r.given) m.ran.units (gave more) =
      rw gave_is (sends_in phase.Drains e) in
      let status = status_at phase.Drains e in
      let count : m.ran.unsent + 1 ≡ length (r.rest ++ p ∷ []) = omega (arith, unsent, longer) in
      let bound = bound_at phase.Drains e in
      let live = live_on c plp _ _ r.told r.told r.given m.ran.units m.ran.units zero.fed_is (λ _ cont. cont)
      (omega arith) s.live in
      subst (ShownAt c plp more now) (sym e)
      (search (rules, shown_by c plp more now phase.Drains (record r { rest = r.rest ++ p ∷ [] })))

  pub shown_over : (more : List Event) → m.phase ≡ phase.Drains → m.ended ≡ false → Same 0 events more
      → fed 1 more ≡ fed 1 events
      → has_ended 1 more ≡ true → gave more ≡ gave events → Shown c plp more (record m { ended = true })
  shown_over more e off zero here ended gave_is =
      let i = in_drains e in
      let now : SwapMachine = record m { ended = true } in
      let of = feed_same false c m.feed _ _ _ _ r.given zero.fed_is zero.ended_is (of_in phase.Drains e) in
      let input : ReadsPackets (fed 1 more) (has_ended 1 more) r.told r.rest r.tail m.taken true =
      rw ended (reads_over _ _ _ r.told r.rest r.tail m.taken m.ended here i.whole off s.of_input) in
      let sends : Sends c plp m.swapper r.told [] (frames_in c r.given) m.ran.units (gave more) =
      rw gave_is (sends_in phase.Drains e) in
      let status = status_at phase.Drains e in
      let bound = bound_at phase.Drains e in
      let live = live_on c plp _ _ r.told r.told r.given m.ran.units m.ran.units zero.fed_is (λ _ cont. cont)
      (omega arith) s.live in
      subst (ShownAt c plp more now) (sym e) (search rules)

  -- ---- a bad packet came

  -- what is known where one can
  pub record CanRefuse : Type 0 where
    pub caught : HasCaughtUp c plp m.swapper r.told (frames_in c r.given) m.ran.units
    pub whole : r.tail ≡ []
    pub going : m.ended ≡ false
    pub met : IsWanted c plp m.feed m.number m.draining r.told.packets r.rest
        ⊎ IsBehindAll c plp m.feed m.number r.given r.told.packets
    pub of_feed : IsFedWith c m.feed (fed 0 events) (has_ended 0 events) r.given
    pub sends : Sends c plp m.swapper r.told [] (frames_in c r.given) m.ran.units (gave events)
    pub status : status_of m.swapper ≡ status_in c plp m.number phase.Drains
    pub bound : IsBound m.number m.number m.ran.units 184 r.given

  pub can_packets : m.phase ≡ phase.Packets → 0 < wants_of m.swapper → CanRefuse
  can_packets e some =
      let w = has_wanted some in
      let i = in_packets e in
      record {
        caught = i.caught;
        whole = i.quiet.tail_is;
        going = i.quiet.ends ∙ w.off;
        met = inl (record {
          waiting = i.waiting;
          waits = i.waits;
          early = i.early;
          behind = i.behind;
          wanted = w.less;
          offered = i.quiet.rest_is;
          calm = i.quiet.calm;
        });
        of_feed = of_in phase.Packets e;
        sends = sends_in phase.Packets e;
        status = status_at phase.Packets e;
        bound = bound_at phase.Packets e;
      }

  pub can_drains : m.phase ≡ phase.Drains → m.ended ≡ false → CanRefuse
  can_drains e going =
      let i = in_drains e in
      record {
        caught = i.caught;
        whole = i.whole;
        going = going;
        met = inr i.behind;
        of_feed = of_in phase.Drains e;
        sends = sends_in phase.Drains e;
        status = status_at phase.Drains e;
        bound = bound_at phase.Drains e;
      }

  pub shown_refuse : (p : List ℕ) (more : List Event) → CanRefuse → Same 0 events more → fed 1 more ≡ fed 1 events ++ p
      → gave more ≡ gave events → p ≢ [] → begins_with_packet p ≡ false → (slice_index p 0 ≢ SYNC)
      ⊎ (has_ended 1 more ≡ true)
      → Shown c plp more (record m { phase = phase.Stopped (InputRefused m.taken) })
  shown_refuse p more can zero here gave_is some bad cut =
      let now : SwapMachine = record m { phase = phase.Stopped (InputRefused m.taken) } in
      record {
        base = s.base;
        read = record { given = r.given; told = r.told; rest = r.rest; tail = p };
        of_feed = feed_same false c m.feed _ _ _ _ r.given zero.fed_is zero.ended_is can.of_feed;
        of_input = reads_tail _ _ p _ _ r.told r.rest r.tail m.taken m.ended here can.whole some can.going s.of_input;
        frame = s.frame;
        had = s.had;
        sends = subst (Sends c plp m.swapper r.told [] (frames_in c r.given) m.ran.units) (sym gave_is) can.sends;
        status = can.status;
        counted = s.counted;
        bound = bound_as m.number m.number m.ran.units 184 0 r.given (omega arith) can.bound;
        live = live_on c plp _ _ r.told r.told r.given m.ran.units m.ran.units zero.fed_is (λ _ cont. cont)
            (omega arith) s.live;
        is_in = search rules;
      }
