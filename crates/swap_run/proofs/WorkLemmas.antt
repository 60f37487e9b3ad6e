-- What a swapper does by its files.
use Rattle.std.proofs.Common.{◌≡◌, ℕ, ◌+◌, ◌-◌, ◌*◌, ◌<◌, ◌≤◌, ◌==◌, Bool, true, false, cond, List, [], ◌++◌}
use Rattle.std.proofs.Common.{length, refl, ap, sym, subst, ◌∙◌, arith, rules, append_assoc, length-append}
use Rattle.std.specs.Prelude.{Err, slice_index}
use Rattle.plp_config.specs.SlotTime.{num, den, slots_by}
use Rattle.plp_config.specs.declared.config.Config.{Config}
use Rattle.ts_packet.specs.declared.sizes.TheConstants.{SIZE}
use Rattle.file_run.specs.Reading.{longest_file}
use Rattle.frame_groups.specs.Modulated.{FrameRecord}
use Rattle.feed_merge.specs.FeedStandsFor.{waiting_of}
use Rattle.feed_merge.specs.FeedStandsFor as feed
use Rattle.file_run.specs.Events.{Event, fed, has_ended, gave}
use Rattle.file_run.specs.FileRun.{AreFed, read_ahead}
use Rattle.file_run.specs.Steps.{Needs, FallsShort}
use Rattle.file_run.specs.Work.{AreWhole, AreWithin, IsRightAtEnd, GaveSome, DoesWork}
use Rattle.file_run.specs.declared.machine.Step.TheVariants.{Give, End, Read}
use Rattle.file_run.specs.declared.stop.RunFault.TheVariants.{TooLong, ReadFault}
use Rattle.file_run.specs.declared.stop.RunStop.TheVariants.{Files}
use Rattle.file_run.proofs.StandsLemmas.{fed_since}
use Rattle.file_run.proofs.WorkLemmas.{are_whole}
use Rattle.feed_merge.specs.Reading.{is_idle}
use Rattle.feed_merge.proofs.FilesLemmas.{two}
use Rattle.region_swap.specs.StandsFor.{status_of, wants_of}
use Rattle.swap_run.specs.AsMachine.{Becomes, ending_in, ending_of}
use Rattle.swap_run.specs.Shown.{Shown, IsIn, IsDone}
use Rattle.swap_run.specs.Shown as shown
use Rattle.swap_run.specs.Steps.{step_in, step_of, reach_of, input_reach, drained, record_step}
use Rattle.swap_run.specs.SwapRun.{least_of, HasNone, HasWritten, AreWritten, MayWrite, HasSome, swap_work}
use Rattle.swap_run.specs.declared.machine.SwapMachine.{SwapMachine}
use Rattle.swap_run.specs.declared.phase.Phase.{Phase}
use Rattle.swap_run.specs.declared.phase.Phase.TheVariants as phase
use Rattle.swap_run.specs.declared.stop.SwapStop.TheVariants.{NoSuperframe, InputRefused, TooManyFrames}
use Rattle.swap_run.specs.declared.machine.SwapMachine.{SwapMachine}
use Rattle.swap_run.proofs.PacketLemmas.{front_empty}
use Rattle.swap_run.proofs.FileLemmas.{Laws, swaps_all, has_none, has_late, meets_bad, has_swapped}
use Rattle.swap_run.proofs.FileLemmas.{wants_packets, wants_rest}
use Rattle.swap_run.proofs.FileLemmas.{gave_front, since, ahead}
use Rattle.swap_run.proofs.ShownLemmas.{feed_end, feed_count, in_packets, in_drains}
use Rattle.swap_run.proofs.StepLemmas.{Reads, of_least, needs, short}
use Rattle.swap_run.proofs.NextLemmas.{slots_in, slots_is}
use Rattle.swap_run.proofs.WantLemmas.{taken_length}

-- the network and the PLP of a machine
abbrev pub network_of : SwapMachine → Config
network_of start = start.plan.now

abbrev pub plp_of : SwapMachine → ℕ
plp_of start = (status_of start.swapper).plp

module _ (law : Laws) (start m : SwapMachine) (files : ℕ → List ℕ) (places : List ℕ) (events : List Event)
    (all : length places ≡ 2)
    (are : AreFed 2 files places events) (within : AreWithin 2 places (reach_of m))
    (s : Shown (network_of start) (plp_of start) events m) where
  abbrev k : Config
  k = network_of start

  abbrev plp : ℕ
  plp = plp_of start

  whole : m.phase ≡ phase.Done → AreWhole files places
  whole done =
      let i : IsDone k plp m s.read = subst (IsIn k plp m s.read (has_ended 1 events)) done s.is_in in
      are_whole 2 files places events all are
      (two (λ (input : ℕ). has_ended input events ≡ true) (sym (feed_end k plp events m s) ∙ i.behind.none.ended)
      (s.of_input.end i.whole ∙ i.over))

  finds_none : m.phase ≡ phase.Stopped NoSuperframe
      → (slice_index places 0 ≡ length (files 0)) × (slice_index places 1 ≡ 0) × HasNone k files (gave events)
  finds_none e =
      let i : shown.StopsWithNone k plp m s.read = subst (IsIn k plp m s.read (has_ended 1 events)) e s.is_in in (
        (let f = are 0 (omega arith) in
            let none = ap length (f.end (sym (feed_end k plp events m s) ∙ i.none.ended)) in
            let parts = ap length f.parts in
            let sum = length-append (fed 0 events) f.more in
            let ahead = f.ahead in
            let inside = f.within in
            omega (arith, none, parts, sum, ahead, inside)),
        (let near = within 1 (omega arith) in
            let slot = law.slot k plp s.base.rules.rules s.base.place in
            let lt : 0 < num k = (let a = slot.0 in let b = slot.2 in omega (arith, a, b)) in
            let none = law.none (num k) (den k plp) lt in
            let zero : (m.number - 1) * k.ticks ≡ 0 = ap (λ (n : ℕ). (n - 1) * k.ticks) i.first ∙ omega arith in
            let slots = slots_in m (phase.Stopped NoSuperframe) e ∙ slots_is k plp events m s (m.number - 1)
            ∙ ap (λ (n : ℕ). slots_by k plp n) zero in
            let calm = ap (λ (b : Bool). drained b m.ran.unsent) i.quiet.calm in
            omega (arith, near, none, slots, calm)),
        has_none law k plp m events s files places are e,
      )

  -- it is at its end only in these
  no_record : (b : Bool) → record_step b ≡ End → ⊥
  no_record true e = absurd (let z : Read 0 1 read_ahead ≡ End = e in cc)
  no_record false e = absurd (let z : Give ≡ End = e in cc)

  no_other : (b : Bool) (input least most : ℕ) → cond b Give (Read input least most) ≡ End → ⊥
  no_other true input least most e = absurd (let z : Give ≡ End = e in cc)
  no_other false input least most e = absurd (let z : Read input least most ≡ End = e in cc)

  ends_in : (p : Phase) → m.phase ≡ p
      → step_in p (is_idle (waiting_of m.feed) (feed.has_ended m.feed)) (wants_of m.swapper) m.ended ≡ End
      → IsRightAtEnd (swap_work k plp) files places (gave events) (ending_in p m.ran)
  ends_in phase.Records is end = absurd (no_record (is_idle (waiting_of m.feed) (feed.has_ended m.feed)) end)
  ends_in phase.Packets is end = absurd (no_other (wants_of m.swapper == 0) _ _ _ end)
  ends_in phase.Units is end = absurd (let z : Give ≡ End = end in cc)
  ends_in phase.Drains is end = absurd (no_other m.ended _ _ _ end)
  ends_in phase.Rests is end = absurd (let z : Give ≡ End = end in cc)
  ends_in phase.Done is end = (whole is, swaps_all law k plp m events s files places are is)
  ends_in (phase.Stopped NoSuperframe) is end = finds_none is
  ends_in (phase.Stopped (InputRefused n)) is end =
      meets_bad law k plp m events s files places are (within 0 (omega arith)) (within 1 (omega arith)) n is
  ends_in (phase.Stopped TooManyFrames) is end =
      has_late law k plp m events s files places are (within 0 (omega arith)) (within 1 (omega arith)) is

  -- what is written when an input is to be read on
  written : (Test : ℕ → ℕ → Type 0) (place count taken at : ℕ) → Reads Test m place count m.phase
      → (0 ≡ place → taken ≡ length (fed 0 events))
      → (1 ≡ place → (length (fed 1 events) ≤ at) × (at < length (fed 1 events) + SIZE))
      → HasWritten k plp places place taken at files (gave events)
  written Test place count taken at how first second = go m.phase refl how
    where
      close : slice_index places 0 ≤ feed.fed_of m.feed + read_ahead
      close = within 0 (omega arith)

      near : slice_index places 1 ≤ input_reach m
      near = within 1 (omega arith)

      bytes : s.read.tail ≡ [] → length (fed 1 events) ≡ SIZE * m.taken
      bytes whole =
          let n = taken_length _ _ s.read.told s.read.rest s.read.tail m.taken m.ended s.of_input in
          let tail = ap length whole in
          omega (arith, n, tail)

      go : (p : Phase) → m.phase ≡ p → Reads Test m place count p
          → HasWritten k plp places place taken at files (gave events)
      go phase.Records e w = rw (sym w.0.at)
          (has_swapped law k plp m events s files places are near taken e w.0.none w.0.going (first w.0.at))
      go phase.Packets e w =
          let n = second w.0.at in
          let b = bytes (in_packets k plp events m s e).quiet.tail_is in
          rw (sym w.0.at) (wants_packets law k plp m events s files places are close near at e w.0.some
          (omega (arith, n.0, b)) (omega (arith, n.1, b)))
      go phase.Drains e w =
          let n = second w.0.at in
          let b = bytes (in_drains k plp events m s e).whole in
          rw (sym w.0.at) (wants_rest law k plp m events s files places are close at e w.0.going
          (omega (arith, n.0, b)) (omega (arith, n.1, b)))
      go phase.Units e how = absurd how
      go phase.Rests e how = absurd how
      go phase.Done e how = absurd how
      go (phase.Stopped why) e how = absurd how

  too_long : (input : ℕ) → input < 2 → slice_index places input ≡ longest_file
      → Needs (step_of m) input (slice_index places input - length (fed input events))
      → swap_work k plp files (Err (Files (TooLong input))) places (gave events)
  too_long input lt most wants =
      let w = needs m input (slice_index places input - length (fed input events)) wants m.phase refl in
      let few = of_least (λ least n. n ≤ least) m input _ m.phase w in
      let ahead = (are input lt).ahead in
      record {
        taken = length (fed input events);
        near = omega (arith, few, most);
        within = omega (arith, ahead, most);
        has = written (λ least n. n ≤ least) input _ (length (fed input events)) (length (fed input events)) w
            (λ e. ap (λ (n : ℕ). length (fed n events)) (sym e))
            (λ e. let n = ap (λ (n : ℕ). length (fed n events)) e in (omega (arith, n), omega (arith, n)));
      }

  unread : (input : ℕ) → input < 2
      → FallsShort (step_of m) input (slice_index places input - length (fed input events))
      → swap_work k plp files (Err (Files (ReadFault input))) places (gave events)
  unread input lt wants =
      let left : ℕ = slice_index places input - length (fed input events) in
      let w = short m input left wants m.phase refl in
      let few = of_least (λ least n. n < least) m input left m.phase w in
      let ahead = (are input lt).ahead in
      written (λ least n. n < least) input left (slice_index places input) (slice_index places input) w
      (λ e. let n = ap (λ (n : ℕ). length (fed n events)) e in let one = ap least_of e in
      omega (arith, n, ahead, few, one))
      (λ e. let n = ap (λ (n : ℕ). length (fed n events)) e in let size = ap least_of e in
      (omega (arith, n, ahead), omega (arith, n, few, size)))

unwritten : Laws → (start now : SwapMachine) (files : ℕ → List ℕ) (places : List ℕ) (events : List Event)
    (bytes : List ℕ)
    → AreFed 2 files places events
    → GaveSome reach_of step_of (Becomes start) 2 places events now bytes
    → HasSome (network_of start) (plp_of start) places files bytes
unwritten law start now files places events bytes are g =
    let k : Config = network_of start in
    let plp : ℕ = plp_of start in
    let mid : SwapMachine = g.mid in
    let p = gave_front law k plp now (events ++ g.late) g.came_late files places
    (fed_since 2 files places events g.late g.only are) in
    record {
      more = g.more ++ p.0;
      some = λ z. g.some (front_empty g.more p.0 z);
      begins = subst (MayWrite k plp files) (ap (λ (l : List ℕ). l ++ p.0) g.parts ∙ append_assoc bytes g.more p.0) p.1;
      since = λ taken less.
          let close = g.within 0 (omega arith) in
          let count = feed_count k plp events mid g.came in
          more_written (since law k plp mid events g.came files places are taken (omega (arith, less, close, count)));
      ahead = (
          let a = ahead law k plp mid events g.came files places are (g.within 1 (omega arith)) g.gives in
          let written = more_written a.written in
          search rules);
    }
  where
    -- so it is with a front of more
    more_written : {records : List FrameRecord} → AreWritten (network_of start) (plp_of start) files
        (gave events) records
        → AreWritten (network_of start) (plp_of start) files bytes records
    more_written w = record {
      early = w.early;
      front = (w.front.0 ++ g.front, g.is ∙ rw w.front.1 (append_assoc _ w.front.0 g.front));
    }

pub swap_does : Laws → (start : SwapMachine) → DoesWork (swap_work (network_of start) (plp_of start)) 2
    reach_of step_of (Becomes start) ending_of
swap_does law start = record {
  ends = λ files places events now all are within came end.
      ends_in law start now files places events all are within came now.phase refl end;
  too_long = λ files places events now input all are within came lt most wants.
      too_long law start now files places events all are within came input lt most wants;
  unread = λ files places events now input all are within came lt wants.
      unread law start now files places events all are within came input lt wants;
  unwritten = λ files places events now bytes all are g. unwritten law start now files places events bytes are g;
}
