-- A feed and a swapper go on: from record to record, from frame to frame, from unit to unit.
use Rattle.std.proofs.Common.{◌≡◌, ℕ, ◌+◌, ◌-◌, ◌*◌, ◌^◌, ◌<◌, ◌≤◌, Bool, true, false, List, [], ◌∷◌, ◌++◌, drop}
use Rattle.std.proofs.Common.{length, rules}
use Rattle.std.proofs.Common.{Option, Some, None, refl, ap, ap₂, sym, subst, ◌∙◌, arith, append-nil, length-append}
use Rattle.std.specs.Prelude.{slice_get, nat_lt, slice_set}
use Rattle.std.specs.List.{AllByRecursion}
use Rattle.std.proofs.Math.Nat.{mul-le-mul_right}
use Rattle.std.proofs.lemmas.Bool.{true≢false, lt-ltb}
use Rattle.std.proofs.lemmas.Option.{same_Some}
use Rattle.terms.proofs.CaseLemmas.{bool_cases}
use Rattle.terms.proofs.ListLemmas.{drop_some}
use Rattle.terms.proofs.OptionLemmas.{none_some}
use Rattle.gateway_core.proofs.InputsLemmas.{cont_next}
use Rattle.plp_config.specs.Capacity.{IsPlan}
use Rattle.plp_config.specs.Laws.{CountRises, SlotLength, FieldRange}
use Rattle.plp_config.specs.SlotTime.{num, den, slots_by}
use Rattle.plp_config.specs.declared.config.Config.{Config}
use Rattle.plp_config.specs.declared.moment.TheConstants.{MOST_FRAMES}
use Rattle.t2mi_packet.specs.declared.packet.Body.{Body}
use Rattle.frame_groups.specs.Groups.{Group, groups}
use Rattle.frame_groups.specs.Modulated.{Content, FrameRecord, past_after}
use Rattle.frame_groups.specs.Modulated.Content.{Whole, Muted}
use Rattle.frame_groups.specs.declared.waiting.Waiting.{Waiting}
use Rattle.frame_groups.specs.Tests as tests
use Rattle.t2mi_stream.specs.Units.{accepted_of}
use Rattle.modulator.specs.Laws.{DueFollow, DuePass, IsRight}
use Rattle.modulator.specs.Modulating.{packets_of}
use Rattle.modulator.specs.StandsFor.{mute_of, records_due}
use Rattle.site_frame.specs.declared.reading.RecordView.{RecordView}
use Rattle.open_group.specs.Shown.{Shows, AreBlocks}
use Rattle.open_group.specs.Written.{content_view, packets_view}
use Rattle.t2mi_stream.specs.Pipe.{pipe}
use Rattle.frame_writer.specs.Signalling.{pre_part, conf_part}
use Rattle.frame_writer.specs.declared.frame.PoolFrame.{PoolFrame}
use Rattle.stream_laws.specs.Formed.{IsFormed}
use Rattle.stream_laws.specs.FormedLaws.{FramesAreFormed, IsFormedRecord}
use Rattle.stream_laws.specs.Remade.{NumberedView, remade_packets, view_bodies, numbered}
use Rattle.frame_writer.specs.Flowing.{packet_bound}
use Rattle.file_run.specs.Events.{Event, fed, has_ended, gave}
use Rattle.feed_merge.specs.Frames.{IsFrameOf, dynamic_of, lists_of}
use Rattle.feed_merge.specs.FeedStandsFor.{IsFirst, Skipped, FrameFeedStandsFor, waiting_of}
use Rattle.feed_merge.specs.FeedStandsFor as feed
use Rattle.feed_merge.specs.declared.feed.FrameFeed.{FrameFeed}
use Rattle.feed_merge.specs.Picks.{above_all}
use Rattle.gateway_core.specs.InputSoFar.{Told, in_next, Continues}
use Rattle.feed_merge.proofs.HeldLemmas.{left_of as feed_left}
use Rattle.feed_merge.specs.Fed.{IsFedWith}
use Rattle.feed_merge.proofs.BothFeedLemmas.{IsDue, due_of, waits_above, one_of}
use Rattle.feed_merge.proofs.NumberLemmas.{above_append}
use Rattle.record_laws.specs.Laws.{ToldCountsFit}
use Rattle.region_swap.specs.Held.{IsHeld, HasRecord}
use Rattle.region_swap.specs.Left.{left_by, own_list}
use Rattle.region_swap.specs.StandsFor.{SwapperStandsFor, GivesUnits, Status, status_of, wants_of, frame_of, has_unit}
use Rattle.region_swap.specs.StandsFor.{is_fed, left_in, left_for, bytes_left}
use Rattle.region_swap.specs.Swapped.{frame_in, frames_in, swapped, swapped_view}
use Rattle.region_swap.specs.declared.swapper.Swapper.{Swapper}
use Rattle.swap_run.specs.Shown.{ReadsPackets, Sends, Read, ShownAt, Shown, IsBound, begun_in}
use Rattle.swap_run.specs.Shown.{WereGiven, more_units, next_in, status_in, frame_bytes}
use Rattle.swap_run.specs.SwapRun.{slots_of}
use Rattle.swap_run.specs.declared.phase.Phase.{Phase}
use Rattle.swap_run.specs.declared.phase.Phase.TheVariants as phase
use Rattle.swap_run.specs.declared.stop.SwapStop.TheVariants.{NoSuperframe}
use Rattle.swap_run.specs.declared.machine.SwapMachine.{SwapMachine}
use Rattle.swap_run.proofs.BoundLemmas.{idle_left, few_swapped}
use Rattle.swap_run.proofs.PacketLemmas.{reads_same}
use Rattle.swap_run.proofs.SendLemmas.{frames_push, sends_told, caught_told, sends_begun, sends_units, sends_over}
use Rattle.swap_run.proofs.ShownLemmas.{shown_by, Same, feed_same, bound_as, in_records, in_packets}
use Rattle.swap_run.proofs.ShownLemmas.{in_units, in_drains}
use Rattle.swap_run.proofs.ShownLemmas.{in_rests, all_there, feed_network, of_in, sends_in, status_at, bound_at}
use Rattle.swap_run.proofs.LiveLemmas.{live_on, live_push}

-- as many slots are over at a later frame
pub slots_rise : CountRises → SlotLength → (c : Config) (plp a b : ℕ) → IsPlan c → plp < length c.plps → a ≤ b
    → slots_by c plp (a * c.ticks) ≤ slots_by c plp (b * c.ticks)
slots_rise rises slot c plp a b plan lt le =
    let s = slot c plp plan.rules lt in
    rises (num c) (den c plp) (a * c.ticks) (b * c.ticks) (omega (arith, s.0, s.2)) (mul-le-mul_right c.ticks le)

-- no more frames were passed than the one under way
pub next_most : (p : Phase) (number : ℕ) → next_in p number ≤ number + 1
next_most p number = bool_cases (begun_in p) (λ e. rw e (omega arith)) (λ e. rw e (omega arith))

-- what is left of a frame of the network is what is left of it where it waits
left_same : (s : Swapper) (f : FrameFeed) (frame : PoolFrame) → IsFrameOf f frame → feed.config_of f ≡ s.plan.now
    → left_in s frame ≡ left_for s (lists_of f)
left_same s f frame is network =
    let lists : List (List (List ℕ)) → List (List (List ℕ)) = λ l. slice_set l s.list
    (own_list s.region.sends s.region.blocks s.list) in
    ap₂ (λ (x y : List Bool). left_by s.plan.now s.place x y s.dynamic.bits (lists frame.blocks.now.lists))
    (is.pre ∙ ap pre_part network) (is.conf ∙ ap conf_part network)
    ∙ ap (λ (l : List (List (List ℕ))). left_by s.plan.now s.place (pre_part s.plan.now) (conf_part s.plan.now)
    s.dynamic.bits (lists l)) is.lists

-- a swapper goes on to the next frame
pub record Passes (p q : Swapper) : Type 0 where
  pub stands : (c : Config) (plp : ℕ) (t : Told) (left : List Body) (frames : List NumberedView) (given : ℕ)
      → SwapperStandsFor p c plp t left frames given → SwapperStandsFor q c plp (in_next t) left frames given
  pub unit : has_unit q ≡ has_unit p
  pub status : status_of q ≡ record (status_of p) { frame = frame_of p + 1; begun = false }

module _ (c : Config) (plp : ℕ) (events : List Event) (m : SwapMachine) (s : Shown c plp events m) where
  abbrev pub r : Read
  r = s.read

  abbrev pub frames : List NumberedView
  frames = frames_in c r.given

  -- ---- from records on

  -- a record waits that may have its number
  pub shown_met : DueFollow → CountRises → SlotLength → m.phase ≡ phase.Records → (w : Waiting)
      → waiting_of m.feed ≡ Some w → w.frame < MOST_FRAMES
      → Shown c plp events (record m { phase = phase.Packets })
  shown_met follow rises slot e w waits early =
      let i = in_records c plp events m s e in
      let of = of_in c plp events m s phase.Records e in
      let above = waits_above follow c m.feed _ _ r.given of w waits in
      let next = i.next in
      let few = i.few in
      let up = slots_rise rises slot c plp (above_all r.given - 1) m.number s.base.rules s.base.place
      (omega (arith, next)) in
      let sends = sends_in c plp events m s phase.Records e in
      let status = status_at c plp events m s phase.Records e in
      let bound = bound_at c plp events m s phase.Records e in
      let behind : m.number ≤ w.frame = omega (arith, next, above) in
      let there : above_all r.given ≤ m.number = omega (arith, next) in
      let wanted : length r.told.packets ≤ slots_by c plp (m.number * c.ticks) = omega (arith, few, up) in
      search rules

  -- none comes, and there was none
  none_given : m.joined ≡ false → r.given ≡ []
  none_given off = go r.given (sym s.counted.joined_is ∙ off)
    where
      go : (xs : List FrameRecord) → nat_lt 0 (length xs) ≡ false → xs ≡ []
      go [] e = refl
      go (x ∷ xs) e = absurd (true≢false (sym (lt-ltb 0 (length (x ∷ xs)) (omega arith)) ∙ e))

  pub shown_nothing : m.phase ≡ phase.Records → waiting_of m.feed ≡ None → feed.has_ended m.feed ≡ true
      → m.joined ≡ false
      → Shown c plp events (record m { phase = phase.Stopped NoSuperframe })
  shown_nothing e none over off =
      let i = in_records c plp events m s e in
      let empty = none_given off in
      let of = of_in c plp events m s phase.Records e in
      let sends = sends_in c plp events m s phase.Records e in
      let status = status_at c plp events m s phase.Records e in
      let bound = bound_as m.number m.number m.ran.units 184 0 r.given (omega arith)
      (bound_at c plp events m s phase.Records e) in
      let first : m.number ≡ 0 = i.next ∙ ap above_all empty in
      search rules

  -- ---- behind a frame

  read_next : ReadsPackets (fed 1 events) (has_ended 1 events) r.told r.rest r.tail m.taken m.ended
      → ReadsPackets (fed 1 events) (has_ended 1 events) (in_next r.told) r.rest r.tail m.taken m.ended
  read_next o = record { parts = o.parts; each = o.each; count = o.count; end = o.end; told = o.told }

  back : (input : List (List ℕ)) → Continues (in_next r.told) input → Continues r.told input
  back input cont = cont_next r.told input cont

  -- the number of the record that waits
  pub same_frame : (e : m.phase ≡ phase.Packets) (w : Waiting) → waiting_of m.feed ≡ Some w
      → w.frame ≡ (in_packets c plp events m s e).waiting.frame
  same_frame e w waits =
      let i = in_packets c plp events m s e in
      ap (λ (x : Waiting). x.frame) (same_Some w i.waiting (sym waits ∙ i.waits))

  -- one that has no record
  pub shown_pass : CountRises → SlotLength → (q : Swapper) (w : Waiting) → m.phase ≡ phase.Packets
      → waiting_of m.feed ≡ Some w → m.number < w.frame
      → Passes m.swapper q → Shown c plp events (record m { swapper = q; number = m.number + 1 })
  shown_pass rises slot q w e waits less n =
      let i = in_packets c plp events m s e in
      let same = same_frame e w waits in
      let up = slots_rise rises slot c plp m.number (m.number + 1) s.base.rules s.base.place (omega arith) in
      let few = i.few in
      let early = i.early in
      let above = i.above in
      let was = bound_at c plp events m s phase.Packets e in
      let given = was.few in
      let most = was.most in
      let now : SwapMachine = record m { swapper = q; number = m.number + 1 } in
      let of = of_in c plp events m s phase.Packets e in
      let input = read_next s.of_input in
      let number : r.told.frame + 1 ≡ m.number + 1 = ap (λ (n : ℕ). n + 1) s.frame in
      let old = sends_in c plp events m s phase.Packets e in
      let sends = sends_told c plp m.swapper q r.told (in_next r.told) [] [] frames m.ran.units (gave events)
      (gave events) refl back (ap (λ (x : Status). x.finished) n.status)
      (n.stands c plp r.told [] frames m.ran.units old.stands) old in
      let seen = n.status ∙ ap (λ (x : Status). record x { frame = x.frame + 1; begun = false })
      (status_at c plp events m s phase.Packets e) in
      let bound : IsBound (m.number + 1) (m.number + 1) m.ran.units 184 r.given =
      record { few = omega (arith, given); early = omega (arith, early, less, same); most = omega (arith, most) } in
      let live = live_on c plp _ _ r.told (in_next r.told) r.given m.ran.units m.ran.units refl back
      (omega arith) s.live in
      let caught = caught_told c plp m.swapper q r.told (in_next r.told) frames m.ran.units back n.unit i.caught in
      let soon : w.frame < MOST_FRAMES = omega (arith, early, same) in
      let behind : m.number + 1 ≤ w.frame = omega (arith, less) in
      let there : above_all r.given ≤ m.number + 1 = omega (arith, above) in
      let wanted : length r.told.packets ≤ slots_by c plp ((m.number + 1) * c.ticks) = omega (arith, few, up) in
      subst (ShownAt c plp events now) (sym e)
      (search (rules, shown_by c plp events now phase.Packets (record r { told = in_next r.told })))

  -- ---- a record is taken

  -- the number behind it
  above_push : (w : Waiting) (x : FrameRecord) → m.phase ≡ phase.Packets → waiting_of m.feed ≡ Some w
      → w.frame ≤ m.number → x.number ≡ w.frame
      → above_all (r.given ++ x ∷ []) ≡ m.number + 1
  above_push w x e waits here number =
      let i = in_packets c plp events m s e in
      let same = same_frame e w waits in
      let behind = i.behind in
      let above = i.above in
      omega (arith, above_append r.given (x ∷ []), same, behind, above, here, number)

  slots_push : (x : FrameRecord) → above_all (r.given ++ x ∷ []) ≡ m.number + 1
      → slots_of c plp (r.given ++ x ∷ []) ≡ slots_by c plp (m.number * c.ticks)
  slots_push x e = ap (λ (n : ℕ). slots_by c plp (n * c.ticks)) (omega (arith, e))

  -- of a muted frame
  pub shown_skip : (g : FrameFeed) (q : Swapper) (w : Waiting) → m.phase ≡ phase.Packets → waiting_of m.feed ≡ Some w
      → w.frame ≤ m.number
      → (w.mute ≡ None → ⊥) → wants_of m.swapper ≡ 0 → feed.config_of g ≡ feed.config_of m.feed
      → ((given : List FrameRecord) → FrameFeedStandsFor m.feed (fed 0 events) (has_ended 0 events) given
      → Skipped m.feed g (fed 0 events) (has_ended 0 events) given) → Passes m.swapper q
      → Shown c plp events (record m {
        feed = g;
        swapper = q;
        number = m.number + 1;
        joined = true;
        phase = phase.Records;
        ran = record m.ran { muted = m.ran.muted + 1 };
      })
  shown_skip g q w e waits here mute none config skips n =
      let i = in_packets c plp events m s e in
      let of : IsFedWith c m.feed (fed 0 events) (has_ended 0 events) r.given = of_in c plp events m
      s phase.Packets e in
      let took = skips r.given of.stands in
      let x : FrameRecord = took.next in
      let first = subst (λ (o : Option Waiting). IsFirst o (x ∷ [])) waits took.waited in
      let above = above_push w x e waits here first.0 in
      let slots = slots_push x above in
      let muted : frame_in c x.number x.content ≡ [] = no_frame x.number x.content first.1 in
      let same_frames : frames_in c (r.given ++ x ∷ []) ≡ frames =
      frames_push c r.given x ∙ ap (λ (l : List NumberedView). frames ++ l) muted ∙ append-nil frames in
      let few = i.few in
      let early = i.early in
      let same = same_frame e w waits in
      let bound = bound_at c plp events m s phase.Packets e in
      let sends = sends_in c plp events m s phase.Packets e in
      let given = bound.few in
      let most = bound.most in
      let longer = length-append r.given (x ∷ []) in
      let muted_count = s.counted.muted_is in
      record {
        base = s.base;
        read = record { given = r.given ++ x ∷ []; told = in_next r.told; rest = r.rest; tail = r.tail };
        of_feed = record { network = config ∙ of.network; stands = took.stands };
        of_input = read_next s.of_input;
        frame = ap (λ (n : ℕ). n + 1) s.frame;
        had = λ off. let h = all_there c plp events m s none off in omega (arith, h, slots);
        sends = rw same_frames
            (sends_told c plp m.swapper q r.told (in_next r.told) [] [] frames m.ran.units (gave events)
            (gave events) refl back
            (ap (λ (y : Status). y.finished) n.status) (n.stands c plp r.told [] frames m.ran.units sends.stands)
            sends);
        status = n.status ∙ ap (λ (y : Status). record y { frame = y.frame + 1; begun = false })
            (status_at c plp events m s phase.Packets e);
        counted = record {
          frames_is = s.counted.frames_is ∙ sym (ap length same_frames);
          muted_is = omega (arith, muted_count, longer);
          unsent_is = s.counted.unsent_is;
          joined_is = sym (lt-ltb 0 (length (r.given ++ x ∷ [])) (omega (arith, longer)));
        };
        bound = record {
          few = omega (arith, given, longer);
          early = omega (arith, early, same, here);
          most = omega (arith, most);
        };
        live = live_on c plp _ _ r.told (in_next r.told) (r.given ++ x ∷ []) m.ran.units m.ran.units
            refl back (omega arith)
            (live_push c plp (fed 0 events) r.told r.given x m.ran.units s.live);
        is_in = record {
          caught = rw same_frames
              (caught_told c plp m.swapper q r.told (in_next r.told) frames m.ran.units back n.unit i.caught);
          next = sym above;
          few = omega (arith, few, slots);
          quiet = i.quiet;
        };
      }
    where
      no_frame : (n : ℕ) (k : Content) → mute_of k ≡ w.mute → frame_in c n k ≡ []
      no_frame n (Whole z) is = absurd (mute (sym is))
      no_frame n (Muted z) is = refl

  -- of a frame that is not: it is held
  pub record IsFrame (f : PoolFrame) : Type 0 where
    pub one : FrameRecord
    pub later : List FrameRecord
    pub due : records_due c (has_ended 0 events) (fed 0 events) ≡ r.given ++ one ∷ later
    pub first : IsFirst (waiting_of m.feed) (one ∷ [])
    pub view : RecordView
    pub held : IsHeld c m.number view f
    pub formed : IsFormed c m.number view
    pub sent : frames_in c (r.given ++ one ∷ []) ≡ frames ++ numbered m.number view ∷ []

  pub is_frame : DuePass → FramesAreFormed → (f : PoolFrame) → IsFrameOf m.feed f
      → ((bytes : List ℕ) (ended : Bool) (given : List FrameRecord) → FrameFeedStandsFor m.feed bytes ended given
      → (x : FrameRecord)
      (later : List FrameRecord) → records_due (feed.config_of m.feed) ended bytes ≡ given ++ x ∷ later
      → (g : Group) → x.content ≡ Whole g
      → Shows (feed.config_of m.feed) g.packets (dynamic_of m.feed) (lists_of m.feed))
      → (w : Waiting) → m.phase ≡ phase.Packets → waiting_of m.feed ≡ Some w → w.frame ≤ m.number → w.mute ≡ None
      → IsFrame f
  is_frame pass formed_law f is shows w e waits here mute =
      go d.later d.all (subst (λ (o : Option Waiting). IsFirst o d.later) waits d.first)
    where
      of : IsFedWith c m.feed (fed 0 events) (has_ended 0 events) r.given
      of = of_in c plp events m s phase.Packets e

      d : IsDue c m.feed (fed 0 events) (has_ended 0 events) r.given
      d = due_of c m.feed (fed 0 events) (has_ended 0 events) r.given of

      gs : List Group
      gs = groups c.frames (packets_of (accepted_of c.pid (fed 0 events)))

      whole : (x : FrameRecord) (later : List FrameRecord) → records_due c (has_ended 0 events) (fed 0 events) ≡ r.given
          ++ x ∷ later
          → x.number ≡ w.frame → mute_of x.content ≡ w.mute → (k : Content) → x.content ≡ k → IsFrame f
      whole x later due number muted (Whole g) content =
          let i = in_packets c plp events m s e in
          let same = same_frame e w waits in
          let behind = i.behind in
          let at : x.number ≡ m.number = omega (arith, number, here, behind, same) in
          let p = one_of (IsRight c gs) r.given x later (subst (AllByRecursion (IsRight c gs)) due
          (pass c (has_ended 0 events) (fed 0 events)))
          g content in
          let formed = one_of (IsFormedRecord c) r.given x later (subst (AllByRecursion (IsFormedRecord c)) due
          (formed_law c (has_ended 0 events) (fed 0 events) s.base.rules)) g content in
          let view : RecordView = packets_view c x.number g.packets in
          let view_is : content_view c x.number x.content ≡ view = ap (content_view c x.number) content in
          let shown : Shows c g.packets (dynamic_of m.feed) (lists_of m.feed) =
          subst (λ (k : Config). Shows k g.packets (dynamic_of m.feed) (lists_of m.feed)) of.network
          (shows (fed 0 events) (has_ended 0 events) r.given of.stands x later
          (ap (λ (k : Config). records_due k (has_ended 0 events) (fed 0 events)) of.network ∙ due) g content) in
          record {
            one = x;
            later = later;
            due = due;
            first = subst (λ (o : Option Waiting). IsFirst o (x ∷ [])) (sym waits) (number, muted);
            view = view;
            held = subst (λ (n : ℕ). IsHeld c n view f) at (record {
              packets = g.packets;
              past = past_after (tests.rules c) [] p.before;
              pass = p.none;
              is = refl;
              shows = record {
                dynamic_is = is.dynamic ∙ shown.dynamic_is;
                plps = ap length is.lists ∙ shown.plps;
                blocks = subst (AreBlocks c g.packets) (sym is.lists) shown.blocks;
              };
              pre = is.pre ∙ ap pre_part of.network;
              conf = is.conf ∙ ap conf_part of.network;
            });
            formed = subst (λ (n : ℕ). IsFormed c n view) at (subst (IsFormed c x.number) view_is formed);
            sent = frames_push c r.given x ∙ ap (λ (l : List NumberedView). frames ++ l)
                (ap (frame_in c x.number) content ∙ ap (λ (n : ℕ). numbered n view ∷ []) at);
          }
      whole x later due number muted (Muted z) content = absurd
          (none_some z (sym (sym (ap mute_of content) ∙ muted ∙ mute)))

      go : (later : List FrameRecord) → records_due c (has_ended 0 events) (fed 0 events) ≡ r.given ++ later
          → IsFirst (Some w) later
          → IsFrame f
      go [] due first = absurd first
      go (x ∷ later) due first = whole x later due first.0 first.1 x.content refl

  pub held_there : (f : PoolFrame) → IsFrame f → HasRecord (status_of m.swapper).network (frame_of m.swapper) f
  held_there f x = record {
    view = x.view;
    held = subst (λ (k : Config). IsHeld k (frame_of m.swapper) x.view f)
        (sym (ap (λ (y : Status). y.network) s.status))
        (subst (λ (n : ℕ). IsHeld c n x.view f) (sym (ap (λ (y : Status). y.frame) s.status)) x.held);
  }

  -- The frame is begun.
  pub record Begins (q : Swapper) (f : PoolFrame) : Type 0 where
    pub stands : (c : Config) (plp : ℕ) (t : Told) (frames : List NumberedView) (given : ℕ) (view : RecordView)
        → IsHeld c (frame_of m.swapper) view f → SwapperStandsFor m.swapper c plp t [] frames given
        → SwapperStandsFor q c plp t (left_in q f) (frames ++ numbered (frame_of m.swapper) view ∷ []) given
    pub more : (c : Config) (plp : ℕ) (t : Told) (frames : List NumberedView) (given : ℕ) (view : RecordView)
        → IsHeld c (frame_of m.swapper) view f → SwapperStandsFor m.swapper c plp t [] frames given
        → (input : List (List ℕ)) → Continues t input
        → bytes_left q (left_in q f) ≤ bytes_left m.swapper []
        + packet_bound * length (view_bodies c (frame_of m.swapper) (swapped_view c plp input (frame_of m.swapper)
        view))
    pub status : status_of q ≡ record (status_of m.swapper) { begun = true }

  -- it has no more units than so many
  module _ (field : FieldRange) (told : ToldCountsFit) (q : Swapper) (f : PoolFrame) (is : IsFrameOf m.feed f)
      (e : m.phase ≡ phase.Packets)
      (x : IsFrame f) (b : Begins q f) where
    at : frame_of m.swapper ≡ m.number
    at = ap (λ (y : Status). y.frame) (status_at c plp events m s phase.Packets e)

    held_at : IsHeld c (frame_of m.swapper) x.view f
    held_at = subst (λ (n : ℕ). IsHeld c n x.view f) (sym at) x.held

    status_now : status_of q ≡ status_in c plp m.number phase.Units
    status_now = b.status ∙ ap (λ (y : Status). record y { begun = true }) (status_at c plp events m s phase.Packets e)

    left_now : left_in q f ≡ left_for q (lists_of m.feed)
    left_now =
        left_same q m.feed f is (feed_network c plp events m s ∙ sym (ap (λ (y : Status). y.network) status_now))

    pub begun_few : more_units phase.Units q m.feed + 600 ≤ frame_bytes
    begun_few =
        let i = in_packets c plp events m s e in
        let here_now : Continues r.told r.told.packets = record {
          rest = [];
          front = sym (append-nil r.told.packets);
          whole = λ _. refl;
        } in
        let bound = b.more c plp r.told frames m.ran.units x.view held_at (sends_in c plp events m s
        phase.Packets e).stands r.told.packets
        here_now in
        let bodies = few_swapped field told c plp m.number r.told.packets x.view s.base.rules s.base.place x.formed in
        let body_same = ap (λ (n : ℕ). length (view_bodies c n (swapped_view c plp r.told.packets n x.view))) at in
        let idle = idle_left m.swapper i.caught.idle in
        let same = ap (bytes_left q) left_now in
        omega (arith, bound, bodies, body_same, idle, same)

    pub shown_begin : (w : Waiting) → waiting_of m.feed ≡ Some w → w.frame ≤ m.number → w.mute ≡ None
        → wants_of m.swapper ≡ 0
        → Shown c plp events (record m {
          swapper = q;
          joined = true;
          phase = phase.Units;
          ran = record m.ran { frames = m.ran.frames + 1 };
        })
    shown_begin w waits here mute none =
        let i = in_packets c plp events m s e in
        let first = subst (λ (o : Option Waiting). IsFirst o (x.one ∷ [])) waits x.first in
        let above = above_push w x.one e waits here first.0 in
        let slots = slots_push x.one above in
        let few = i.few in
        let early = i.early in
        let same = same_frame e w waits in
        let behind = i.behind in
        let bound = bound_at c plp events m s phase.Packets e in
        let sends = sends_in c plp events m s phase.Packets e in
        let given = bound.few in
        let most = bound.most in
        let longer = length-append r.given (x.one ∷ []) in
        let more = length-append frames (numbered m.number x.view ∷ []) in
        let frames_count = s.counted.frames_is in
        let muted_count = s.counted.muted_is in
        let units = begun_few in
        let stands : SwapperStandsFor q c plp r.told (left_for q (lists_of m.feed))
        (frames ++ numbered m.number x.view ∷ []) m.ran.units =
        subst (λ (n : ℕ). SwapperStandsFor q c plp r.told (left_for q (lists_of m.feed))
        (frames ++ numbered n x.view ∷ []) m.ran.units) at
        (rw left_now at (b.stands c plp r.told frames m.ran.units x.view held_at sends.stands)) in
        record {
          base = s.base;
          read = record { given = r.given ++ x.one ∷ []; told = r.told; rest = r.rest; tail = r.tail };
          of_feed = record {
            before = r.given;
            one = x.one;
            later = x.later;
            given_is = refl;
            due = x.due;
            first = x.first;
            fed = of_in c plp events m s phase.Packets e;
          };
          of_input = s.of_input;
          frame = s.frame;
          had = λ off. let h = all_there c plp events m s none off in omega (arith, h, slots);
          sends = rw x.sent
              (sends_begun c plp m.swapper q r.told (left_for q (lists_of m.feed)) frames (numbered m.number x.view)
              m.ran.units (gave events)
              (ap (λ (y : Status). y.finished) (status_at c plp events m s phase.Packets e)) stands sends);
          status = status_now;
          counted = record {
            frames_is = omega (arith, frames_count, more, ap length x.sent);
            muted_is = omega (arith, muted_count, longer);
            unsent_is = s.counted.unsent_is;
            joined_is = sym (lt-ltb 0 (length (r.given ++ x.one ∷ [])) (omega (arith, longer)));
          };
          bound = record {
            few = omega (arith, given, longer);
            early = omega (arith, early, behind, same, here);
            most = omega (arith, most, units);
          };
          live = live_push c plp (fed 0 events) r.told r.given x.one m.ran.units s.live;
          is_in = record {
            before = r.given;
            last = x.one;
            parts = refl;
            done = λ input cont. let all = i.caught.complete input cont in omega (arith, all);
            waiting = w;
            waits = waits;
            whole = mute;
            here = omega (arith, here, behind, same);
            next = sym above;
            early = omega (arith, early, behind, same, here);
            few = omega (arith, few, slots);
            quiet = i.quiet;
          };
        }

  -- ---- units of the frame under way

  pub few_units : m.ran.units < 2 ^ 64 - 1
  few_units =
      let u = s.bound.most in let n = next_most m.phase m.number in let e = s.bound.early in omega (arith, u, n, e)

  module _ (e : m.phase ≡ phase.Units) (f : PoolFrame) (is : IsFrameOf m.feed f) (p : Swapper) (full : Bool)
      (bytes : List ℕ)
      (g : GivesUnits m.swapper p f full bytes) (status : status_of p ≡ status_of m.swapper) where
    old_same : left_in m.swapper f ≡ left_for m.swapper (lists_of m.feed)
    old_same = left_same m.swapper m.feed f is (feed_network c plp events m s
        ∙ sym (ap (λ (y : Status). y.network) s.status))

    rest_same : left_in p f ≡ left_for p (lists_of m.feed)
    rest_same = left_same p m.feed f is (feed_network c plp events m s
        ∙ sym (ap (λ (y : Status). y.network) (status ∙ s.status)))

    abbrev pub count : ℕ
    count = m.ran.units + length g.units

    -- they can be counted
    pub few_more : count + (184 + bytes_left p (left_in p f)) ≤ (m.number + 1) * frame_bytes + 184
    few_more =
        let most = (bound_at c plp events m s phase.Units e).most in
        let less = g.less in
        let same = ap (bytes_left m.swapper) old_same in
        omega (arith, most, less, same)

    was : SwapperStandsFor m.swapper c plp r.told (left_in m.swapper f) frames m.ran.units
    was = subst (λ (l : List Body). SwapperStandsFor m.swapper c plp r.told l frames m.ran.units) (sym old_same)
        (sends_in c plp events m s phase.Units e).stands

    module _ (more : List Event) (zero : Same 0 events more) (one : Same 1 events more)
        (gave_is : gave more ≡ gave events ++ bytes) where
      sends_now : Sends c plp p r.told (left_in p f) frames count (gave more)
      sends_now =
          sends_units c plp m.swapper p r.told _ _ frames m.ran.units g.units (gave events) (gave more)
          (gave_is ∙ ap (λ (l : List ℕ). gave events ++ l) g.bytes_are) (ap (λ (y : Status). y.finished) status)
          (λ input cont later over. g.next c plp r.told frames m.ran.units was input cont later over)
          (λ off some input cont. g.complete off some c plp r.told frames m.ran.units was input cont)
          (g.stands c plp r.told frames m.ran.units was) (sends_in c plp events m s phase.Units e)

      -- the room ended
      pub shown_full : Shown c plp more (record m { swapper = p; ran = record m.ran { units = count } })
      shown_full =
          let i = in_units c plp events m s e in
          let was = bound_at c plp events m s phase.Units e in
          let most = few_more in
          let same = ap (bytes_left p) rest_same in
          let now : SwapMachine = record m { swapper = p; ran = record m.ran { units = count } } in
          let of = feed_same true c m.feed _ _ _ _ r.given zero.fed_is zero.ended_is
          (of_in c plp events m s phase.Units e) in
          let input = reads_same _ _ _ _ r.told r.rest r.tail m.taken m.ended one.fed_is one.ended_is s.of_input in
          let sends : Sends c plp p r.told (left_for p (lists_of m.feed)) frames count (gave more) =
          rw (sym rest_same) sends_now in
          let seen = status ∙ status_at c plp events m s phase.Units e in
          let bound : IsBound (m.number + 1) m.number count (more_units phase.Units p m.feed) r.given =
          record { few = was.few; early = was.early; most = omega (arith, most, same) } in
          let live = live_on c plp _ _ r.told r.told r.given m.ran.units count zero.fed_is (λ _ cont. cont)
          (omega arith) s.live in
          let done : WereGiven c plp r.told i.before count =
          λ input cont. let d = i.done input cont in omega (arith, d) in
          subst (ShownAt c plp more now) (sym e) (search rules)

      -- or all were given: the next frame is under way
      pub shown_behind : (k : FrameFeed) (q : Swapper) → full ≡ false → has_unit p ≡ false
          → feed.config_of k ≡ feed.config_of m.feed
          → ((given : List FrameRecord) → FrameFeedStandsFor m.feed (fed 0 events) (has_ended 0 events) given
          → Skipped m.feed k (fed 0 events) (has_ended 0 events) given) → Passes p q
          → Shown c plp more (record m {
            feed = k;
            swapper = q;
            number = m.number + 1;
            phase = phase.Records;
            ran = record m.ran { units = count };
          })
      shown_behind k q off idle config skips n =
          let i = in_units c plp events m s e in
          let bound = bound_at c plp events m s phase.Units e in
          let status_is = status_at c plp events m s phase.Units e in
          let stands : SwapperStandsFor p c plp r.told [] frames count = rw (g.spent off) at sends_now.stands in
          let o = reads_same _ _ _ _ r.told r.rest r.tail m.taken m.ended one.fed_is one.ended_is s.of_input in
          let most = few_more in
          let early = i.early in
          let of : IsFedWith c k (fed 0 events) (has_ended 0 events) r.given =
          feed_left true c m.feed k (fed 0 events) (has_ended 0 events) r.given config (λ z. absurd (true≢false z))
          (λ given st.
          let x = skips given st in
          record {
            records = x.next ∷ [];
            are = record { one = x.next; only = refl; first = x.waited };
            stands = x.stands;
          })
          (of_in c plp events m s phase.Units e) in
          record {
            base = s.base;
            read = record { given = r.given; told = in_next r.told; rest = r.rest; tail = r.tail };
            of_feed = feed_same false c k _ _ _ _ r.given zero.fed_is zero.ended_is of;
            of_input = record { parts = o.parts; each = o.each; count = o.count; end = o.end; told = o.told };
            frame = ap (λ (n : ℕ). n + 1) s.frame;
            had = s.had;
            sends = sends_told c plp p q r.told (in_next r.told) (left_in p f) [] frames count (gave more)
                (gave more) refl back
                (ap (λ (y : Status). y.finished) n.status) (n.stands c plp r.told [] frames count stands) sends_now;
            status = n.status ∙ ap (λ (y : Status). record y { frame = y.frame + 1; begun = false }) (status
                ∙ status_is);
            counted = s.counted;
            bound = record { few = bound.few; early = omega (arith, early); most = omega (arith, most) };
            live = live_on c plp _ _ r.told (in_next r.told) r.given m.ran.units count zero.fed_is back
                (omega arith) s.live;
            is_in = record {
              caught = record {
                idle = n.unit ∙ idle;
                complete = λ input cont. g.all off (ap (λ (y : Status). y.finished) status_is) c plp
                    r.told frames m.ran.units was input
                    (back input cont);
              };
              next = i.next;
              few = i.few;
              quiet = i.quiet;
            };
          }

  -- ---- the rest

  pub shown_finish : (q : Swapper) → m.phase ≡ phase.Drains → m.ended ≡ true
      → ((c : Config) (plp : ℕ) (t : Told) (left : List Body) (frames : List NumberedView) (given : ℕ)
      → SwapperStandsFor m.swapper c plp t left frames given → SwapperStandsFor q c plp t left frames given)
      → is_fed q ≡ true → bytes_left q [] ≡ bytes_left m.swapper []
      → status_of q ≡ record (status_of m.swapper) { finished = true }
      → Shown c plp events (record m { swapper = q; phase = phase.Rests })
  shown_finish q e over stands all_fed left status =
      let i = in_drains c plp events m s e in
      let of = of_in c plp events m s phase.Drains e in
      let old = sends_in c plp events m s phase.Drains e in
      let status_is = status_at c plp events m s phase.Drains e in
      let sends = sends_over c plp m.swapper q r.told [] frames m.ran.units (gave events)
      (ap (λ (y : Status). y.finished) status_is)
      (stands c plp r.told [] frames m.ran.units old.stands) old in
      let seen = status ∙ ap (λ (y : Status). record y { finished = true }) status_is in
      let was = bound_at c plp events m s phase.Drains e in
      let most = was.most in
      let idle = idle_left m.swapper i.caught.idle in
      let bound : IsBound m.number m.number m.ran.units (bytes_left q []) r.given =
      record { few = was.few; early = was.early; most = omega (arith, most, left, idle) } in
      let done : WereGiven c plp r.told r.given m.ran.units =
      λ input cont. let all = i.caught.complete input cont in omega (arith, all) in
      search rules

  pub shown_rest : (q : Swapper) (unit : List ℕ) (more : List Event) → m.phase ≡ phase.Rests → Same 0 events more
      → Same 1 events more
      → gave more ≡ gave events ++ unit
      → ((c : Config) (plp : ℕ) (t : Told) (frames : List NumberedView) (given : ℕ)
      → SwapperStandsFor m.swapper c plp t [] frames given
      → (input : List (List ℕ)) → Continues t input
      → slice_get (pipe c.pid (remade_packets c (swapped c plp input frames))) given ≡ Some unit)
      → ((c : Config) (plp : ℕ) (t : Told) (frames : List NumberedView) (given : ℕ)
      → SwapperStandsFor m.swapper c plp t [] frames given
      → SwapperStandsFor q c plp t [] frames (given + 1))
      → is_fed q ≡ true → bytes_left q [] < bytes_left m.swapper [] → status_of q ≡ status_of m.swapper
      → Shown c plp more (record m { swapper = q; ran = record m.ran { units = m.ran.units + 1 } })
  shown_rest q unit more e zero one gave_is next stands all_fed less status =
      let i = in_rests c plp events m s e in
      let sends = sends_in c plp events m s phase.Rests e in
      let status_is = status_at c plp events m s phase.Rests e in
      let was = bound_at c plp events m s phase.Rests e in
      let most = was.most in
      let over_is : (status_of m.swapper).finished ≡ true = ap (λ (y : Status). y.finished) status_is in
      let now : SwapMachine = record m { swapper = q; ran = record m.ran { units = m.ran.units + 1 } } in
      let of = feed_same false c m.feed _ _ _ _ r.given zero.fed_is zero.ended_is
      (of_in c plp events m s phase.Rests e) in
      let input = reads_same _ _ _ _ r.told r.rest r.tail m.taken m.ended one.fed_is one.ended_is s.of_input in
      let given = sends_units c plp m.swapper q r.told [] [] frames m.ran.units (unit ∷ []) (gave events) (gave more)
      (gave_is ∙ ap (λ (l : List ℕ). gave events ++ l) (sym (append-nil unit))) (ap (λ (y : Status). y.finished) status)
      (λ input cont later over.
      let all : List (List ℕ) = pipe c.pid (remade_packets c (swapped c plp input frames) ++ later) in
      let at : slice_get all m.ran.units ≡ Some unit =
      rw (over over_is, append-nil (remade_packets c (swapped c plp input frames)))
      (next c plp r.told frames m.ran.units sends.stands input cont) in
      (drop (m.ran.units + 1) all, drop_some all m.ran.units unit at))
      (λ off. absurd (true≢false (sym over_is ∙ off)))
      (stands c plp r.told frames m.ran.units sends.stands) sends in
      let seen = status ∙ status_is in
      let bound : IsBound m.number m.number (m.ran.units + 1) (bytes_left q []) r.given =
      record { few = was.few; early = was.early; most = omega (arith, most, less) } in
      let live = live_on c plp _ _ r.told r.told r.given m.ran.units (m.ran.units + 1) zero.fed_is (λ _ cont. cont)
      (omega arith) s.live in
      let done : WereGiven c plp r.told r.given (m.ran.units + 1) =
      λ input cont. let d = i.done input cont in omega (arith, d) in
      subst (ShownAt c plp more now) (sym e) (search rules)

  pub shown_done : (q : Swapper) (more : List Event) → m.phase ≡ phase.Rests → Same 0 events more → Same 1 events more
      → gave more ≡ gave events
      → ((c : Config) (plp : ℕ) (t : Told) (frames : List NumberedView) (given : ℕ)
      → SwapperStandsFor m.swapper c plp t [] frames given
      → (input : List (List ℕ)) → Continues t input
      → length (pipe c.pid (remade_packets c (swapped c plp input frames))) ≡ given)
      → ((c : Config) (plp : ℕ) (t : Told) (frames : List NumberedView) (given : ℕ)
      → SwapperStandsFor m.swapper c plp t [] frames given
      → SwapperStandsFor q c plp t [] frames given)
      → status_of q ≡ status_of m.swapper
      → Shown c plp more (record m { swapper = q; phase = phase.Done })
  shown_done q more e zero one gave_is all stands status =
      let i = in_rests c plp events m s e in
      let old = sends_in c plp events m s phase.Rests e in
      let of = feed_same false c m.feed _ _ _ _ r.given zero.fed_is zero.ended_is
      (of_in c plp events m s phase.Rests e) in
      let input = reads_same _ _ _ _ r.told r.rest r.tail m.taken m.ended one.fed_is one.ended_is s.of_input in
      let sends = sends_told c plp m.swapper q r.told r.told [] [] frames m.ran.units (gave events) (gave more)
      gave_is (λ input cont. cont) (ap (λ (y : Status). y.finished) status)
      (stands c plp r.told frames m.ran.units old.stands) old in
      let seen = status ∙ status_at c plp events m s phase.Rests e in
      let bound = bound_as m.number m.number m.ran.units _ 0 r.given (omega arith)
      (bound_at c plp events m s phase.Rests e) in
      let live = live_on c plp _ _ r.told r.told r.given m.ran.units m.ran.units zero.fed_is (λ _ cont. cont)
      (omega arith) s.live in
      let every = all c plp r.told frames m.ran.units old.stands in
      search rules
