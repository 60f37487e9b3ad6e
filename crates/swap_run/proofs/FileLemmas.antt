-- What is known of two files by what was fed of them.
use Rattle.std.proofs.Common.{◌≡◌, ◌≢◌, ◌⊎◌, ℕ, ◌+◌, ◌-◌, ◌*◌, ◌<◌, ◌≤◌, Bool, true, false, List, [], ◌∷◌, ◌++◌, length}
use Rattle.std.proofs.Common.{take, Option, Some, None}
use Rattle.std.proofs.Common.{refl, ap, sym, subst, ◌∙◌, inl, inr, arith, append-nil, append_assoc, length-append}
use Rattle.std.specs.Prelude.{slice_index}
use Rattle.std.proofs.lemmas.Bool.{true≢false}
use Rattle.std.proofs.lemmas.List.{take_at, take-append-le}
use Rattle.terms.proofs.CaseLemmas.{bool_cases}
use Rattle.ts_packet.proofs.JoinedLemmas.{joined_append}
use Rattle.modulator.proofs.WaitLemmas.{front_due}
use Rattle.plp_config.specs.Laws.{CountRises, SlotLength, NoneAtZero}
use Rattle.plp_config.specs.SlotTime.{slots_by}
use Rattle.plp_config.specs.declared.config.Config.{Config}
use Rattle.plp_config.specs.declared.moment.TheConstants.{MOST_FRAMES}
use Rattle.ts_packet.specs.TsFile.{joined, packets_in}
use Rattle.ts_packet.specs.declared.sizes.TheConstants.{SIZE}
use Rattle.terms.specs.Lists.{IsPrefix}
use Rattle.frame_groups.specs.Modulated.{FrameRecord}
use Rattle.frame_groups.specs.declared.waiting.Waiting.{Waiting}
use Rattle.modulator.specs.Laws.{DueFront, DueFollow}
use Rattle.modulator.specs.StandsFor.{records_due, records_of}
use Rattle.t2mi_stream.specs.Complete.{complete_units}
use Rattle.t2mi_stream.specs.CompleteLaws.{CompleteLaw}
use Rattle.t2mi_stream.specs.Pipe.{pipe, units_in}
use Rattle.stream_laws.specs.Remade.{NumberedView, remade_packets}
use Rattle.feed_merge.specs.Picks.{above_all}
use Rattle.feed_merge.specs.FeedStandsFor.{IsFirst, waiting_of}
use Rattle.feed_merge.specs.FeedStandsFor as feed
use Rattle.file_run.specs.Events.{Event, fed, has_ended, gave}
use Rattle.file_run.specs.FileRun.{AreFed, IsFed, read_ahead}
use Rattle.file_run.specs.declared.machine.Step.TheVariants.{Give, End}
use Rattle.gateway_core.specs.InputSoFar.{Continues}
use Rattle.ts_packet.proofs.FileLemmas.{NextIsBad}
use Rattle.feed_merge.specs.Fed.{AreEarly, IsFedWith, NoneComes}
use Rattle.feed_merge.specs.Reading.{is_idle}
use Rattle.feed_merge.proofs.BothFeedLemmas.{IsDue, due_of, due_given, waits_above}
use Rattle.feed_merge.proofs.NumberLemmas.{below_of, above_append, below_append}
use Rattle.feed_merge.proofs.FrontLemmas.{given_front}
use Rattle.feed_merge.proofs.SplitLemmas as split
use Rattle.feed_merge.specs.Both.{OfFeed}
use Rattle.feed_merge.proofs.HeldLemmas.{all_of}
use Rattle.t2mi_stream.proofs.CompleteLemmas.{shorter_front}
use Rattle.region_swap.specs.StandsFor.{Status, status_of, wants_of}
use Rattle.region_swap.specs.Swapped.{frames_in, swapped}
use Rattle.swap_run.specs.Shown.{Read, Shown, HasCaughtUp, WereGiven, IsIn, IsDone, IsBehindAll, IsWanted, begun_in}
use Rattle.swap_run.specs.Shown.{finished_in}
use Rattle.swap_run.specs.Shown as shown
use Rattle.swap_run.specs.SwapRun.{packets_of, units_of, complete_of, slots_of, counted, WantBad, SwapsAll, HasNone}
use Rattle.swap_run.specs.SwapRun.{MeetsBad, ReadsNoFurther, TakesNoFurther, HasLate, HasSwapped, WantsMore, AreWritten}
use Rattle.swap_run.specs.SwapRun.{MayWrite, ReadsAhead}
use Rattle.swap_run.specs.Steps.{step_in, step_of, wanted_in, input_reach, drained}
use Rattle.swap_run.specs.declared.phase.Phase.{Phase}
use Rattle.swap_run.specs.declared.phase.Phase.TheVariants as phase
use Rattle.swap_run.specs.declared.stop.SwapRan.{SwapRan}
use Rattle.swap_run.specs.declared.stop.SwapStop.TheVariants.{NoSuperframe, InputRefused, TooManyFrames}
use Rattle.swap_run.specs.declared.machine.SwapMachine.{SwapMachine}
use Rattle.swap_run.proofs.GoLemmas.{slots_rise}
use Rattle.swap_run.proofs.NextLemmas.{slots_in, slots_is}
use Rattle.swap_run.proofs.PacketLemmas.{file_continues, none_wanted, few_taken, all_taken, nothing_bad, bad_next}
use Rattle.swap_run.proofs.SendLemmas.{frames_append, more_packets, gave_complete, gave_all}
use Rattle.swap_run.proofs.ShownLemmas.{of_in, in_records, in_packets, in_units, in_drains, in_rests, has_wanted}

nothing_piped : (c : Config) (plp : ℕ) (input : List (List ℕ))
    → pipe c.pid (remade_packets c (swapped c plp input []) ++ []) ≡ []
unfolding remade_packets units_in
nothing_piped c plp input = refl

-- the laws that a run stands on
pub record Laws : Type 0 where
  pub front : DueFront
  pub follow : DueFollow
  pub complete : CompleteLaw
  pub rises : CountRises
  pub none : NoneAtZero
  pub slot : SlotLength

ran_same : (r : SwapRan) (f m u n : ℕ) → r.frames ≡ f → r.muted ≡ m → r.unsent ≡ u → r.units ≡ n
    → r ≡ (let x : SwapRan = record { frames = f; muted = m; unsent = u; units = n } in x)
ran_same r f m u n a b d e = rw (sym a, sym b, sym d, sym e) refl

module _ (law : Laws) (c : Config) (plp : ℕ)
    (m : SwapMachine) (events : List Event) (s : Shown c plp events m) (files : ℕ → List ℕ) (places : List ℕ)
    (are : AreFed 2 files places events) where
  abbrev r : Read
  r = s.read

  abbrev input : List (List ℕ)
  input = packets_in (files 1)

  abbrev frames : List NumberedView
  frames = frames_in c r.given

  fed_t2mi : IsFed (files 0) (slice_index places 0) (fed 0 events) (has_ended 0 events)
  fed_t2mi = are 0 (omega arith)

  fed_input : IsFed (files 1) (slice_index places 1) (fed 1 events) (has_ended 1 events)
  fed_input = are 1 (omega arith)

  cont : Continues r.told input
  cont = file_continues _ _ _ _ fed_input _ _ _ _ _ s.of_input

  all_given : NoneComes m.feed → records_of c (files 0) ≡ r.given
  all_given none = all_of law.front law.follow c m.feed (files 0) (slice_index places 0) (fed 0 events)
      (has_ended 0 events)
      r.given fed_t2mi
      (begun_in m.phase) s.of_feed none

  -- the records that are due begin with those that were given, the last one with a frame under way or not
  given_first : (held : Bool) → OfFeed held c m.feed (fed 0 events) (has_ended 0 events) r.given
      → IsPrefix r.given (records_due c (has_ended 0 events) (fed 0 events))
  given_first true h = (
    h.later,
    h.due ∙ sym (append_assoc h.before (h.one ∷ []) h.later)
        ∙ ap (λ (l : List FrameRecord). l ++ h.later) (sym h.given_is),
  )
  given_first false h = let d = due_of c m.feed (fed 0 events) (has_ended 0 events) r.given h in (d.later, d.all)

  behind_given : IsPrefix r.given (records_of c (files 0))
  behind_given =
      let due = given_first (begun_in m.phase) s.of_feed in
      let all = front_due law.front c (has_ended 0 events) (files 0) (fed 0 events) fed_t2mi.more fed_t2mi.parts
      fed_t2mi.end in
      (due.0 ++ all.0, all.1 ∙ ap (λ (l : List FrameRecord). l ++ all.0) due.1 ∙ append_assoc r.given due.0 all.0)

  -- the record that waits is the next
  record Follows (w : Waiting) : Type 0 where
    next : FrameRecord
    later : List FrameRecord
    parts : records_of c (files 0) ≡ r.given ++ next ∷ later
    number : next.number ≡ w.frame

  follows : IsFedWith c m.feed (fed 0 events) (has_ended 0 events) r.given → (w : Waiting) → waiting_of m.feed ≡ Some w
      → Follows w
  follows of w waits = go d.later (subst (λ (o : Option Waiting). IsFirst o d.later) waits d.first)
      (split.behind law.front law.follow c m.feed (files 0) (slice_index places 0) (fed 0 events) (has_ended 0 events)
      r.given fed_t2mi of)
    where
      d : IsDue c m.feed (fed 0 events) (has_ended 0 events) r.given
      d = due_of c m.feed (fed 0 events) (has_ended 0 events) r.given of

      more : List FrameRecord
      more = (front_due law.front c (has_ended 0 events) (files 0) (fed 0 events) fed_t2mi.more fed_t2mi.parts
          fed_t2mi.end).0

      go : (later : List FrameRecord) → IsFirst (Some w) later → records_of c (files 0) ≡ r.given ++ (later ++ more)
          → Follows w
      go [] first is = absurd first
      go (x ∷ later) first is = record { next = x; later = later ++ more; parts = is; number = first.0 }

  unwanted : ¬ (WantBad c plp (files 1) r.given)
  unwanted = none_wanted _ _ _ _ fed_input _ _ _ _ _ s.of_input (slots_of c plp r.given) s.had

  few : length (r.told.packets ++ r.rest) ≤ length input
  few = few_taken _ _ _ _ fed_input _ _ _ _ _ s.of_input

  -- the complete units of the frames were given
  complete : HasCaughtUp c plp m.swapper r.told frames m.ran.units → (status_of m.swapper).finished ≡ false
      → gave events ≡ joined (complete_of c plp files r.given)
  complete caught going =
      gave_complete law.complete c plp m.swapper r.told _ frames m.ran.units (gave events) input cont going
      (caught.complete input cont) s.sends

  finished_is : (p : Phase) → m.phase ≡ p → (status_of m.swapper).finished ≡ finished_in p
  finished_is p e = ap (λ (x : Status). x.finished) s.status ∙ ap finished_in e

  -- of the second no more was read than was wanted last
  read_to : slice_index places 1 ≤ input_reach m → m.draining ≡ false → (p : Phase) → m.phase ≡ p
      → slice_index places 1 ≤ SIZE * slots_by c plp (wanted_in p m.number * c.ticks)
  read_to near calm p e =
      let slots = slots_in m p e ∙ slots_is c plp events m s (wanted_in p m.number) in
      let none = ap (λ (b : Bool). drained b m.ran.unsent) calm in
      omega (arith, near, slots, none)

  -- ---- all was given

  slots_told : IsBehindAll c plp m.feed m.number r.given r.told.packets → m.ended ≡ true → r.tail ≡ []
      → m.ran.unsent ≡ length input - slots_of c plp r.given
  slots_told b over whole = bool_cases r.told.ended on off
    where
      total : length input ≡ length (r.told.packets ++ r.rest)
      total = ap length (all_taken _ _ _ _ fed_input _ _ _ _ _ s.of_input over whole)

      on : r.told.ended ≡ true → m.ran.unsent ≡ length input - slots_of c plp r.given
      on e =
          let unsent = s.counted.unsent_is in
          let none = ap length (s.of_input.told e).1 in
          let sum = length-append r.told.packets r.rest in
          let most = b.few in
          omega (arith, unsent, none, sum, most, total)

      off : r.told.ended ≡ false → m.ran.unsent ≡ length input - slots_of c plp r.given
      off e =
          let unsent = s.counted.unsent_is in
          let sum = length-append r.told.packets r.rest in
          let most = b.few in
          let least = s.had e in
          omega (arith, unsent, sum, most, least, total)

  early_below : above_all r.given ≤ MOST_FRAMES → AreEarly r.given
  early_below le = below_of MOST_FRAMES r.given le

  behind_above : IsBehindAll c plp m.feed m.number r.given r.told.packets → above_all r.given ≤ MOST_FRAMES
  behind_above b = let n = b.next in let e = s.bound.early in omega (arith, n, e)

  behind_some : IsBehindAll c plp m.feed m.number r.given r.told.packets → records_of c (files 0) ≢ []
  behind_some b none = b.some (sym (all_given b.none) ∙ none)

  pub swaps_all : m.phase ≡ phase.Done → SwapsAll c plp files m.ran (gave events)
  swaps_all done =
      let i : IsDone c plp m r = subst (IsIn c plp m r (has_ended 1 events)) done s.is_in in
      let all = all_given i.behind.none in
      let units : units_of c plp files ≡ pipe c.pid (remade_packets c (swapped c plp input frames)) =
      ap (λ (l : List FrameRecord). pipe c.pid (packets_of c plp input l)) all in
      let frames_is = s.counted.frames_is in
      let muted_is = s.counted.muted_is in
      record {
        some = behind_some i.behind;
        early = subst AreEarly (sym all) (early_below (behind_above i.behind));
        whole = nothing_bad _ _ _ _ fed_input _ _ _ _ _ s.of_input i.over i.whole;
        output = gave_all c plp m.swapper r.told _ frames m.ran.units (gave events) input cont (i.all input cont)
            s.sends ∙ ap joined (sym units);
        ran_is = subst (λ (l : List FrameRecord). m.ran ≡ counted c plp l input (length (units_of c plp files)))
            (sym all)
            (ran_same m.ran (length frames) (length r.given - length frames) (length input - slots_of c plp r.given)
            (length (units_of c plp files))
            frames_is (omega (arith, frames_is, muted_is)) (slots_told i.behind i.over i.whole) (sym (i.all input cont)
            ∙ ap length (sym units)));
      }

  -- ---- it stopped

  pub has_none : m.phase ≡ phase.Stopped NoSuperframe → HasNone c files (gave events)
  has_none e =
      let i : shown.StopsWithNone c plp m r = subst (IsIn c plp m r (has_ended 1 events)) e s.is_in in
      let p = s.sends.front input cont [] (λ _. refl) in
      let empty : frames ≡ [] = ap (frames_in c) i.nothing in
      let nothing : s.sends.units ++ p.0 ≡ [] =
      sym p.1 ∙ ap (λ (l : List NumberedView). pipe c.pid (remade_packets c (swapped c plp input l) ++ [])) empty
      ∙ nothing_piped c plp input in
      record {
        none = all_given i.none ∙ i.nothing;
        empty = s.sends.gave_is ∙ ap joined (none_of s.sends.units p.0 nothing);
      }
    where
      none_of : (xs ys : List (List ℕ)) → xs ++ ys ≡ [] → xs ≡ []
      none_of [] ys is = refl
      none_of (x ∷ xs) ys is = absurd (let n = ap length is in omega (arith, n))

  -- the next frame wants so many packets
  module _ (of : IsFedWith c m.feed (fed 0 events) (has_ended 0 events) r.given) (w : Waiting)
      (waits : waiting_of m.feed ≡ Some w)
      (early : w.frame < MOST_FRAMES) (behind : m.number ≤ w.frame) where
    early_next : AreEarly (r.given ++ take 1 ((follows of w waits).next ∷ (follows of w waits).later))
    early_next =
        let f = follows of w waits in
        let above = waits_above law.follow c m.feed (fed 0 events) (has_ended 0 events) r.given of w waits in
        let number = f.number in
        below_append MOST_FRAMES r.given (f.next ∷ []) (early_below (omega (arith, above, early)))
        (omega (arith, number, early), tt)

    some_next : records_of c (files 0) ≢ []
    some_next none =
        let f = follows of w waits in
        let n = ap length (sym f.parts ∙ none) in
        absurd (omega (arith, n, length-append r.given (f.next ∷ f.later)))

    slots_next : slots_by c plp (m.number * c.ticks) ≤ slots_of c plp
        (r.given ++ take 1 ((follows of w waits).next ∷ (follows of w waits).later))
    slots_next =
        let f = follows of w waits in
        let number = f.number in
        let above = above_append r.given (f.next ∷ []) in
        slots_rise law.rises law.slot c plp m.number (above_all (r.given ++ f.next ∷ []) - 1) s.base.rules s.base.place
        (omega (arith, above, number, behind))

  -- by fewer bytes of the first file than were taken, no record is due but those that were given
  takes_no_further : IsFedWith c m.feed (fed 0 events) (has_ended 0 events) r.given
      → slice_index places 0 ≤ feed.fed_of m.feed + read_ahead
      → TakesNoFurther c places files r.given
  takes_no_further of near taken lt =
      let count = of.stands.count in
      let inside : taken < length (fed 0 events) = omega (arith, near, count, lt) in
      let same : take taken (files 0) ≡ take taken (fed 0 events) =
      ap (take taken) fed_t2mi.parts ∙ take-append-le taken (fed 0 events) fed_t2mi.more (omega (arith, inside)) in
      subst (λ (l : List ℕ). IsPrefix (records_due c false l) r.given) (sym same)
      (subst (λ (k : Config). IsPrefix (records_due k false (take taken (fed 0 events))) r.given) of.network
      (of.stands.front taken inside))

  pub has_late : slice_index places 0 ≤ feed.fed_of m.feed + read_ahead → slice_index places 1 ≤ input_reach m
      → m.phase ≡ phase.Stopped TooManyFrames → (has : HasLate c plp files (gave events))
      × (slice_index places 1 ≤ SIZE * slots_of c plp has.before) × TakesNoFurther c places files has.before
  has_late close near e =
      let i : shown.StopsAtLate c plp m r = subst (IsIn c plp m r (has_ended 1 events)) e s.is_in in
      let of = of_in c plp events m s (phase.Stopped TooManyFrames) e in
      let f = follows of i.waiting i.waits in
      let late = i.late in
      let number = f.number in
      let next = i.next in
      let early = s.bound.early in
      let read = read_to near i.quiet.calm (phase.Stopped TooManyFrames) e in
      let slots = ap (λ (n : ℕ). slots_by c plp ((n - 1) * c.ticks)) next in (
        record {
          before = r.given;
          late = f.next;
          after = f.later;
          parts = f.parts;
          early = early_below (omega (arith, next, early));
          number = omega (arith, late, number);
          unwanted = unwanted;
          output = complete i.caught (finished_is (phase.Stopped TooManyFrames) e);
        },
        omega (arith, read, slots),
        takes_no_further of close,
      )

  pub meets_bad : slice_index places 0 ≤ feed.fed_of m.feed + read_ahead → slice_index places 1 ≤ input_reach m
      → (n : ℕ)
      → m.phase ≡ phase.Stopped (InputRefused n)
      → (meets : MeetsBad c plp files n (gave events)) × ReadsNoFurther c plp places meets.before meets.after
      × TakesNoFurther c places files meets.before
  meets_bad at near n e = go i.met
    where
      i : shown.StopsAtBad c plp m r (has_ended 1 events) n
      i = subst (IsIn c plp m r (has_ended 1 events)) e s.is_in

      of : IsFedWith c m.feed (fed 0 events) (has_ended 0 events) r.given
      of = of_in c plp events m s (phase.Stopped (InputRefused n)) e

      next : NextIsBad (files 1) (r.told.packets ++ r.rest)
      next = bad_next _ _ _ _ fed_input _ _ _ _ _ s.of_input i.some i.bad i.cut

      go : IsWanted c plp m.feed m.number m.draining r.told.packets r.rest
          ⊎ IsBehindAll c plp m.feed m.number r.given r.told.packets
          → (meets : MeetsBad c plp files n (gave events)) × ReadsNoFurther c plp places meets.before meets.after
          × TakesNoFurther c places files meets.before
      go (inl w) =
          let f = follows of w.waiting w.waits in
          let number = next.number in
          let sum = length-append r.told.packets r.rest in
          let none = ap length w.offered in
          let less = w.wanted in
          let slots = slots_next of w.waiting w.waits w.early w.behind in
          let read = read_to near w.calm (phase.Stopped (InputRefused n)) e in (
            record {
              some = some_next of w.waiting w.waits w.early w.behind;
              bad = next.bad;
              number = i.number ∙ sym next.number;
              before = r.given;
              after = f.next ∷ f.later;
              parts = f.parts;
              early = early_next of w.waiting w.waits w.early w.behind;
              unwanted = unwanted;
              wanted = λ _. (next.bad, omega (arith, number, sum, none, less, slots));
              output = complete i.caught (finished_is (phase.Stopped (InputRefused n)) e);
            },
            (λ _. omega (arith, read, slots)),
            takes_no_further of at,
          )
      go (inr b) = (
        record {
          some = behind_some b;
          bad = next.bad;
          number = i.number ∙ sym next.number;
          before = r.given;
          after = [];
          parts = all_given b.none ∙ sym (append-nil r.given);
          early = subst AreEarly (sym (append-nil r.given)) (early_below (behind_above b));
          unwanted = unwanted;
          wanted = λ some. absurd (some refl);
          output = complete i.caught (finished_is (phase.Stopped (InputRefused n)) e);
        },
        (λ some. absurd (some refl)),
        takes_no_further of at,
      )

  -- ---- an input is to be read on

  pub has_swapped : slice_index places 1 ≤ input_reach m → (taken : ℕ) → m.phase ≡ phase.Records
      → waiting_of m.feed ≡ None
      → feed.has_ended m.feed ≡ false → taken ≡ length (fed 0 events)
      → HasSwapped c plp places taken files (gave events)
  has_swapped near taken e none going is =
      let i = in_records c plp events m s e in
      let next = i.next in
      let early = s.bound.early in
      let read = read_to near i.quiet.calm phase.Records e in
      let slots = ap (λ (n : ℕ). slots_by c plp ((n - 1) * c.ticks)) next in
      record {
        early = subst AreEarly (sym due_is) (early_below (omega (arith, next, early)));
        unwanted = rw due_is unwanted;
        no_further = rw due_is (omega (arith, read, slots));
        output = rw due_is (complete i.caught (finished_is phase.Records e));
      }
    where
      due_is : records_due c false (take taken (files 0)) ≡ r.given
      due_is =
          ap (λ (k : ℕ). records_due c false (take k (files 0))) is
          ∙ ap (records_due c false) (ap (take (length (fed 0 events))) fed_t2mi.parts
          ∙ take_at (fed 0 events) fed_t2mi.more (length (fed 0 events)) refl)
          ∙ due_given c m.feed (fed 0 events) (has_ended 0 events) r.given none going
          (of_in c plp events m s phase.Records e)

  -- the frames of the records that were given want no more than was read
  had_read : (place : ℕ) → r.told.ended ≡ false → SIZE * m.taken ≤ place → SIZE * slots_of c plp r.given ≤ place
  had_read place off read =
      let had = s.had off in
      let count = s.of_input.count in
      let sum = length-append r.told.packets r.rest in
      omega (arith, had, count, sum, read)

  pub wants_packets : slice_index places 0 ≤ feed.fed_of m.feed + read_ahead → slice_index places 1 ≤ input_reach m
      → (place : ℕ) → (e : m.phase ≡ phase.Packets) → 0 < wants_of m.swapper
      → SIZE * m.taken ≤ place → place < SIZE * (m.taken + 1) → WantsMore c plp places place files (gave events)
  wants_packets at reach place e some read near =
      let i = in_packets c plp events m s e in
      let w = i.waiting in
      let of = of_in c plp events m s phase.Packets e in
      let f = follows of w i.waits in
      let h = has_wanted c plp events m s some in
      let less = h.less in
      let slots = slots_next of w i.waits i.early i.behind in
      let count = s.of_input.count in
      let sum = length-append r.told.packets r.rest in
      let none = ap length i.quiet.rest_is in
      let most = few in
      let to = read_to reach i.quiet.calm phase.Packets e in
      record {
        before = r.given;
        after = f.next ∷ f.later;
        parts = f.parts;
        early = early_next of w i.waits i.early i.behind;
        some = some_next of w i.waits i.early i.behind;
        had = had_read place h.off read;
        wanted = λ _. omega (arith, near, less, slots, count, sum, none);
        no_further = λ _. omega (arith, to, slots);
        ahead = takes_no_further of at;
        unread = omega (arith, near, most, count);
        output = complete i.caught (finished_is phase.Packets e);
      }

  pub wants_rest : slice_index places 0 ≤ feed.fed_of m.feed + read_ahead → (place : ℕ) → (e : m.phase ≡ phase.Drains)
      → m.ended ≡ false → SIZE * m.taken ≤ place → place < SIZE * (m.taken + 1)
      → WantsMore c plp places place files (gave events)
  wants_rest at place e going read near =
      let i = in_drains c plp events m s e in
      let most = few in
      let count = s.of_input.count in
      record {
        before = r.given;
        after = [];
        parts = all_given i.behind.none ∙ sym (append-nil r.given);
        early = subst AreEarly (sym (append-nil r.given)) (early_below (behind_above i.behind));
        some = behind_some i.behind;
        had = had_read place open_still read;
        wanted = λ some. absurd (some refl);
        no_further = λ some. absurd (some refl);
        ahead = takes_no_further (of_in c plp events m s phase.Drains e) at;
        unread = omega (arith, near, most, count);
        output = complete i.caught (finished_is phase.Drains e);
      }
    where
      open_still : r.told.ended ≡ false
      open_still = bool_cases r.told.ended (λ on. absurd (true≢false (sym (s.of_input.told on).0 ∙ going))) (λ off. off)

  -- ---- some were given

  above_few : above_all r.given ≤ MOST_FRAMES
  above_few = by m.phase refl s.is_in
    where
      by : (p : Phase) → m.phase ≡ p → IsIn c plp m r (has_ended 1 events) p → above_all r.given ≤ MOST_FRAMES
      by phase.Records e i = let n = i.next in let e = s.bound.early in omega (arith, n, e)
      by phase.Packets e i = let n = i.above in let e = s.bound.early in omega (arith, n, e)
      by phase.Units e i = let n = i.next in let e = i.early in omega (arith, n, e)
      by phase.Drains e i = behind_above i.behind
      by phase.Rests e i = behind_above i.behind
      by phase.Done e i = behind_above i.behind
      by (phase.Stopped NoSuperframe) e i = let n = ap above_all i.nothing in omega (arith, n)
      by (phase.Stopped TooManyFrames) e i = let n = i.next in let e = s.bound.early in omega (arith, n, e)
      by (phase.Stopped (InputRefused n)) e i = met i.met
        where
          met : IsWanted c plp m.feed m.number m.draining r.told.packets r.rest
              ⊎ IsBehindAll c plp m.feed m.number r.given r.told.packets
              → above_all r.given ≤ MOST_FRAMES
          met (inl w) =
              let a = waits_above law.follow c m.feed (fed 0 events) (has_ended 0 events) r.given
              (of_in c plp events m s (phase.Stopped (InputRefused n)) e) w.waiting w.waits in
              let e = w.early in
              omega (arith, a, e)
          met (inr b) = behind_above b

  -- once no more frames come, both files ended
  record AreOver : Type 0 where
    none : NoneComes m.feed
    over : m.ended ≡ true
    whole : r.tail ≡ []

  over_in : (p : Phase) → IsIn c plp m r (has_ended 1 events) p → finished_in p ≡ true → AreOver
  over_in phase.Records i over = absurd (true≢false (sym over))
  over_in phase.Packets i over = absurd (true≢false (sym over))
  over_in phase.Units i over = absurd (true≢false (sym over))
  over_in phase.Drains i over = absurd (true≢false (sym over))
  over_in phase.Rests i over = record { none = i.behind.none; over = i.over; whole = i.whole }
  over_in phase.Done i over = record { none = i.behind.none; over = i.over; whole = i.whole }
  over_in (phase.Stopped why) i over = absurd (true≢false (sym over))

  abbrev packets : List (List ℕ)
  packets = packets_of c plp input r.given

  -- what was given is a front of what may be written
  pub gave_front : (rest : List ℕ) × MayWrite c plp files (gave events ++ rest)
  gave_front = bool_cases (status_of m.swapper).finished ended going
    where
      -- some units, and more behind what was given
      gave_more : (rest : List (List ℕ)) → gave events ++ joined rest ≡ joined (s.sends.units ++ rest)
      gave_more rest = ap (λ (l : List ℕ). l ++ joined rest) s.sends.gave_is ∙ sym (joined_append s.sends.units rest)

      ended : (status_of m.swapper).finished ≡ true → (rest : List ℕ) × MayWrite c plp files (gave events ++ rest)
      ended over =
          let o = over_in m.phase s.is_in (sym (finished_is m.phase refl) ∙ over) in
          let all = all_given o.none in
          let p = s.sends.front input cont [] (λ _. refl) in
          let units : s.sends.units ++ p.0 ≡ units_of c plp files =
          sym p.1 ∙ ap (pipe c.pid) (append-nil packets)
          ∙ ap (λ (l : List FrameRecord). pipe c.pid (packets_of c plp input l)) (sym all) in (
            joined p.0,
            record {
              before = r.given;
              after = [];
              parts = all ∙ sym (append-nil r.given);
              early = early_below above_few;
              unwanted = unwanted;
              output = inr (
                refl,
                nothing_bad _ _ _ _ fed_input _ _ _ _ _ s.of_input o.over o.whole,
                gave_more p.0 ∙ ap joined units,
              );
            },
          )

      going : (status_of m.swapper).finished ≡ false → (rest : List ℕ) × MayWrite c plp files (gave events ++ rest)
      going off =
          let p = s.sends.front input cont [] (λ over. absurd (true≢false (sym over ∙ off))) in
          let l = law.complete c.pid packets [] in
          let count = s.sends.count_is in
          let whole = s.sends.whole off input cont in
          let f = shorter_front s.sends.units (complete_units c.pid packets) p.0 l.rest (sym p.1 ∙ l.units)
          (omega (arith, count, whole)) in (
            joined f.0,
            record {
              before = r.given;
              after = behind_given.0;
              parts = behind_given.1;
              early = early_below above_few;
              unwanted = unwanted;
              output = inl (gave_more f.0 ∙ ap joined (sym f.1));
            },
          )

  -- ---- how far the T2-MI stream was read

  -- of records that are among those whose complete units were given
  written_front : (sent rest : List FrameRecord) → r.given ≡ sent ++ rest → WereGiven c plp r.told sent m.ran.units
      → (records : List FrameRecord) → IsPrefix records sent → AreWritten c plp files (gave events) records
  written_front sent rest given_as given_all records u =
      let given_is : r.given ≡ records ++ (u.0 ++ rest) =
      given_as ∙ ap (λ (l : List FrameRecord). l ++ rest) u.1 ∙ append_assoc records u.0 rest in
      let few : List (List ℕ) = packets_of c plp input records in
      let more = more_packets c plp input (frames_in c records) (frames_in c u.0) in
      let sent_as : packets_of c plp input sent ≡ few ++ more.0 =
      ap (packets_of c plp input) u.1
      ∙ ap (λ (l : List NumberedView). remade_packets c (swapped c plp input l)) (frames_append c records u.0)
      ∙ more.1 in
      let behind = more_packets c plp input (frames_in c sent) (frames_in c rest) in
      let packets : packets_of c plp input r.given ≡ (few ++ more.0) ++ behind.0 =
      ap (packets_of c plp input) given_as
      ∙ ap (λ (l : List NumberedView). remade_packets c (swapped c plp input l)) (frames_append c sent rest) ∙ behind.1
      ∙ ap (λ (l : List (List ℕ)). l ++ behind.0) sent_as in
      let p = s.sends.front input cont [] (λ _. refl) in
      let count = s.sends.count_is in
      let done = subst (λ (l : List (List ℕ)). length (complete_units c.pid l) ≤ m.ran.units) sent_as
      (given_all input cont) in
      let f = given_front law.complete c.pid few more.0 behind.0 s.sends.units p.0 (omega (arith, done, count))
      (ap (pipe c.pid) (sym packets ∙ sym (append-nil (packets_of c plp input r.given))) ∙ p.1) in
      let above = above_append records (u.0 ++ rest) in
      let size = ap above_all given_is in
      let most = above_few in
      record {
        early = early_of records (omega (arith, above, size, most));
        front = (joined f.0, s.sends.gave_is ∙ ap joined f.1 ∙ joined_append (complete_units c.pid few) f.0);
      }
    where
      early_of : (xs : List FrameRecord) → above_all xs ≤ MOST_FRAMES → AreEarly xs
      early_of xs le = below_of MOST_FRAMES xs le

  pub since : (taken : ℕ) → taken < length (fed 0 events) → AreWritten c plp files (gave events)
      (records_due c false (take taken (files 0)))
  since taken lt =
      let same : take taken (files 0) ≡ take taken (fed 0 events) =
      ap (take taken) fed_t2mi.parts ∙ take-append-le taken (fed 0 events) fed_t2mi.more (omega (arith, lt)) in
      subst (λ (l : List ℕ). AreWritten c plp files (gave events) (records_due c false l)) (sym same)
      (written_front s.live.sent s.live.part.0 s.live.part.1 s.live.done
      (records_due c false (take taken (fed 0 events))) (s.live.due taken lt))

  -- ---- and how far the other

  -- these are all before the one whose frame is under way
  written_before : (before rest : List FrameRecord) → r.given ≡ before ++ rest
      → WereGiven c plp r.told before m.ran.units
      → AreWritten c plp files (gave events) before
  written_before before rest parts done = written_front before rest parts done before ([], sym (append-nil before))

  written_all : WereGiven c plp r.told r.given m.ran.units → AreWritten c plp files (gave events) r.given
  written_all = written_before r.given [] (sym (append-nil r.given))

  caught_up : HasCaughtUp c plp m.swapper r.told frames m.ran.units → WereGiven c plp r.told r.given m.ran.units
  caught_up caught goes cont = let all = caught.complete goes cont in omega (arith, all)

  -- no more is wanted of fewer records
  slots_more : (xs ys : List FrameRecord) → slots_of c plp xs ≤ slots_of c plp (xs ++ ys)
  slots_more xs ys =
      let above = above_append xs ys in
      slots_rise law.rises law.slot c plp (above_all xs - 1) (above_all (xs ++ ys) - 1) s.base.rules s.base.place
      (omega (arith, above))

  pub ahead : slice_index places 1 ≤ input_reach m → step_of m ≡ Give → ReadsAhead c plp places files (gave events)
  ahead near gives = by m.phase refl gives
    where
      behind_all : IsBehindAll c plp m.feed m.number r.given r.told.packets → WereGiven c plp r.told r.given m.ran.units
          → ReadsAhead c plp places files (gave events)
      behind_all b done = record {
        before = r.given;
        after = [];
        parts = all_given b.none ∙ sym (append-nil r.given);
        written = written_all done;
        no_further = λ some. absurd (some refl);
      }

      by : (p : Phase) → m.phase ≡ p
          → step_in p (is_idle (waiting_of m.feed) (feed.has_ended m.feed)) (wants_of m.swapper) m.ended ≡ Give
          → ReadsAhead c plp places files (gave events)
      by phase.Records e is =
          let i = in_records c plp events m s e in
          let read = read_to near i.quiet.calm phase.Records e in
          let slots = ap (λ (n : ℕ). slots_by c plp ((n - 1) * c.ticks)) i.next in
          let rise = slots_more r.given (take 1 behind_given.0) in
          record {
            before = r.given;
            after = behind_given.0;
            parts = behind_given.1;
            written = written_all (caught_up i.caught);
            no_further = λ _. omega (arith, read, slots, rise);
          }
      by phase.Packets e is =
          let i = in_packets c plp events m s e in
          let w = i.waiting in
          let of = of_in c plp events m s phase.Packets e in
          let f = follows of w i.waits in
          let read = read_to near i.quiet.calm phase.Packets e in
          let slots = slots_next of w i.waits i.early i.behind in
          record {
            before = r.given;
            after = f.next ∷ f.later;
            parts = f.parts;
            written = written_all (caught_up i.caught);
            no_further = λ _. omega (arith, read, slots);
          }
      by phase.Units e is =
          let i = in_units c plp events m s e in
          let read = read_to near i.quiet.calm phase.Units e in
          let next = i.next in
          let slots = slots_rise law.rises law.slot c plp m.number (above_all r.given - 1) s.base.rules s.base.place
          (omega (arith, next)) in
          let same = ap (slots_of c plp) i.parts in
          record {
            before = i.before;
            after = i.last ∷ behind_given.0;
            parts = behind_given.1 ∙ ap (λ (l : List FrameRecord). l ++ behind_given.0) i.parts
                ∙ append_assoc i.before (i.last ∷ []) behind_given.0;
            written = written_before i.before (i.last ∷ []) i.parts i.done;
            no_further = λ _. omega (arith, read, slots, same);
          }
      by phase.Drains e is = let i = in_drains c plp events m s e in behind_all i.behind (caught_up i.caught)
      by phase.Rests e is = let i = in_rests c plp events m s e in behind_all i.behind i.done
      by phase.Done e is = absurd (let z : End ≡ Give = is in cc)
      by (phase.Stopped why) e is = absurd (let z : End ≡ Give = is in cc)
