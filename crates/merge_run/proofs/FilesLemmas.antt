-- What is known of two files by what was fed of them.
use Rattle.std.proofs.Common.{◌≡◌, ℕ, ◌+◌, ◌-◌, ◌<◌, ◌≤◌, ◌==◌, Bool, true, false, List, [], ◌++◌}
use Rattle.std.proofs.Common.{length, refl, ap, ap₂, sym, subst, ◌∙◌, inl, inr, arith, append-nil, append_assoc}
use Rattle.std.proofs.lemmas.Bool.{true≢false}
use Rattle.terms.proofs.CaseLemmas.{bool_cases}
use Rattle.ts_packet.proofs.JoinedLemmas.{joined_append}
use Rattle.plp_config.specs.declared.config.Config.{Config}
use Rattle.plp_config.specs.declared.moment.TheConstants.{MOST_FRAMES}
use Rattle.ts_packet.specs.TsFile.{joined}
use Rattle.frame_groups.specs.Modulated.{FrameRecord}
use Rattle.modulator.specs.Laws.{DueFront, DueFollow}
use Rattle.modulator.specs.StandsFor.{records_of}
use Rattle.t2mi_stream.specs.Complete.{complete_units}
use Rattle.t2mi_stream.specs.CompleteLaws.{CompleteLaw}
use Rattle.t2mi_stream.specs.Pipe.{pipe, units_in}
use Rattle.stream_laws.specs.Remade.{NumberedView, remade_packets}
use Rattle.feed_merge.specs.Picks.{Picked, picks, picks_below, frames_of}
use Rattle.feed_merge.specs.StandsFor.{has_finished}
use Rattle.feed_merge.specs.FeedStandsFor.{waiting_of}
use Rattle.feed_merge.specs.FeedStandsFor as feed
use Rattle.file_run.specs.Events.{Event, fed, gave}
use Rattle.file_run.specs.FileRun.{AreFed}
use Rattle.file_run.specs.Work.{AreWithin}
use Rattle.merge_run.specs.Counted.{counted}
use Rattle.merge_run.specs.MergeRun.{complete_by, picked_below, picked_of, packets_of, units_of, MergesAll, HasNone}
use Rattle.merge_run.specs.MergeRun.{AreCompleteBelow, HasLate, HasWritten, MayWrite, HasRead}
use Rattle.merge_run.specs.Steps.{reach_of}
use Rattle.feed_merge.specs.declared.seen.Feed.TheVariants.{A, B}
use Rattle.feed_merge.specs.Both.{IsPast}
use Rattle.merge_run.specs.Shown.{Shown, IsReading, IsDone, IsIn, is_held}
use Rattle.merge_run.specs.declared.machine.MergeMachine.{MergeMachine}
use Rattle.merge_run.specs.declared.phase.Phase.{Phase}
use Rattle.merge_run.specs.declared.phase.Phase.TheVariants as phase
use Rattle.feed_merge.specs.Fed.{AreEarly, end_by, ReadsAhead, IsBehind, NoneComes}
use Rattle.feed_merge.proofs.BothLemmas.{none_given, split_a, split_b, ends_before, reads_ahead, all_a, all_b}
use Rattle.feed_merge.proofs.BothLemmas.{early_all, none_all, some_all, ends_next, late_a, late_b, late_is}
use Rattle.feed_merge.proofs.NumberLemmas.{below_of}
use Rattle.feed_merge.proofs.StepLemmas.{Wants, IsLate}
use Rattle.feed_merge.proofs.FrontLemmas.{packets_more, given_front}
use Rattle.merge_run.proofs.SendLemmas.{frames_append, gave_complete, gave_all}
use Rattle.merge_run.proofs.SplitLemmas.{picks_front, below_split, picks_split, picks_nothing}
use Rattle.merge_run.proofs.ShownLemmas.{both_in, is_at}
use Rattle.terms.specs.Lists.{IsPrefix}
use Rattle.feed_merge.proofs.GrowLemmas.{all_below}
use Rattle.t2mi_stream.proofs.CompleteLemmas.{shorter_front}

nothing_sent : (k : Config) → joined (pipe k.pid (packets_of k [])) ≡ []
unfolding remade_packets units_in
nothing_sent k = refl

-- ---- what is known of two files by what was fed of them

module _ (front : DueFront) (follow : DueFollow) (law : CompleteLaw) (c : Config) (m : MergeMachine)
    (events : List Event)
    (s : Shown c events m) (files : ℕ → List ℕ) (places : List ℕ) (are : AreFed 2 files places events) where
  abbrev ga : List FrameRecord
  ga = s.given_a

  abbrev gb : List FrameRecord
  gb = s.given_b

  abbrev frames : List NumberedView
  frames = frames_of (picks c ga gb)

  abbrev held_a : Bool
  held_a = is_held m.phase m.source A

  abbrev held_b : Bool
  held_b = is_held m.phase m.source B

  -- the frames that were picked are those below a number that is behind both
  picked_is : (n : ℕ) → m.next ≤ n → IsPast held_a n m.a ga → IsPast held_b n m.b gb
      → picked_below c files n ≡ picks c ga gb
  picked_is n le x y =
      let p = split_a front follow c events held_a held_b m.next m.a m.b ga gb s.both files places are n x in
      let q = split_b front follow c events held_a held_b m.next m.a m.b ga gb s.both files places are n y in
      let is = s.both.next_is in
      ap₂ (λ (ra rb : List FrameRecord). picks_below c ra rb n) p.all q.all
      ∙ picks_split c ga p.after gb q.after n (omega (arith, is, le)) (omega (arith, is, le)) p.from q.from

  -- so the complete units of these were given
  complete_below : (n : ℕ) → m.next ≤ n → IsBehind n m.a ga → IsBehind n m.b gb → m.phase ≡ phase.Reads
      → AreCompleteBelow c files n (gave events)
  complete_below n le x y reads =
      let i : IsReading c m.merger frames m.ran.units = is_at c m events s phase.Reads reads in
      gave_complete law c m.merger _ frames m.ran.units (gave events) i.is_open i.complete s.sends
      ∙ ap (λ (ps : List Picked). joined (complete_units c.pid (packets_of c ps))) (sym (picked_is n le
      (subst (λ (p : Phase). IsPast (is_held p m.source A) n m.a ga) (sym reads) x)
      (subst (λ (p : Phase). IsPast (is_held p m.source B) n m.b gb) (sym reads) y)))

  -- ---- all was given

  none_in : m.phase ≡ phase.Done → IsDone c frames m.ran.units m.a m.b
  none_in = is_at c m events s phase.Done

  all_is : NoneComes m.a → NoneComes m.b → (records_of c (files 0) ≡ ga) × (records_of c (files 1) ≡ gb)
  all_is none_a none_b = (
    all_a front follow c events held_a held_b m.next m.a m.b ga gb s.both files places are none_a none_b,
    all_b front follow c events held_a held_b m.next m.a m.b ga gb s.both files places are none_a none_b,
  )

  early : NoneComes m.a → NoneComes m.b → (input : ℕ) → input < 2 → AreEarly (records_of c (files input))
  early = early_all front follow c events held_a held_b m.next m.a m.b ga gb s.both files places are

  units_all : NoneComes m.a → NoneComes m.b → units_of c files ≡ pipe c.pid (remade_packets c frames)
  units_all none_a none_b =
      let all = all_is none_a none_b in
      ap₂ (λ (ra rb : List FrameRecord). pipe c.pid (packets_of c (picks c ra rb))) all.0 all.1

  pub merges_all : m.phase ≡ phase.Done → (m.next == 0) ≡ false → MergesAll c files m.ran (gave events)
  merges_all done some =
      let i = none_in done in
      let all = all_is i.none_a i.none_b in
      let picked : picked_of c files ≡ picks c ga gb = ap₂ (λ (ra rb : List FrameRecord). picks c ra rb) all.0 all.1 in
      let units = units_all i.none_a i.none_b in
      record {
        some = some_all front follow c events held_a held_b m.next m.a m.b ga gb s.both files places
            are i.none_a i.none_b some;
        early = early i.none_a i.none_b;
        output = gave_all c m.merger _ frames m.ran.units (gave events) i.all s.sends ∙ ap joined (sym units);
        ran_is = s.ran_is ∙ ap₂ counted (sym picked) (sym i.all ∙ ap length (sym units));
      }

  pub has_none : m.phase ≡ phase.Done → (m.next == 0) ≡ true → HasNone c files (gave events)
  has_none done first =
      let i = none_in done in
      let given = none_given c events held_a held_b m.next m.a m.b ga gb s.both first in
      let none : picks c ga gb ≡ [] =
      ap₂ (λ (ra rb : List FrameRecord). picks c ra rb) given.0 given.1 ∙ picks_nothing c in
      record {
        none = none_all front follow c events held_a held_b m.next m.a m.b ga gb s.both files places
            are i.none_a i.none_b first;
        empty = gave_all c m.merger _ frames m.ran.units (gave events) i.all s.sends
            ∙ ap (λ (ps : List Picked). joined (pipe c.pid (packets_of c ps))) none ∙ nothing_sent c;
      }

  -- ---- a late record waits

  pub has_late : m.phase ≡ phase.Reads → IsLate (waiting_of m.a) (feed.has_ended m.a) (waiting_of m.b)
      (feed.has_ended m.b)
      → HasLate c files (gave events)
  has_late reads l =
      let r = both_in c m events s phase.Reads reads in
      record {
        late = late_is front follow c events m.next m.a m.b ga gb r files places are l;
        is = complete_below MOST_FRAMES s.both.early (late_a front follow c events m.next m.a m.b ga
            gb r files places are l)
            (late_b front follow c events m.next m.a m.b ga gb r files places are l) reads;
      }

  -- ---- an input is wanted

  has_written : (input taken : ℕ) → m.phase ≡ phase.Reads → end_by c (files input) taken ≡ m.next
      → HasWritten c input taken files (gave events)
  has_written input taken reads same = record {
    early = (let e = s.both.early in omega (arith, same, e));
    is = subst (λ (n : ℕ). AreCompleteBelow c files n (gave events)) (sym same)
        (let r = both_in c m events s phase.Reads reads in
        complete_below m.next (omega arith) r.behind_a r.behind_b reads);
  }

  -- ---- some were given

  -- once no more frames come, both files ended
  over_in : (p : Phase) → IsIn c m frames p → has_finished m.merger ≡ true → NoneComes m.a × NoneComes m.b
  over_in phase.Reads i over = absurd (true≢false (sym over ∙ i.is_open))
  over_in phase.Gives i over = absurd (true≢false (sym over ∙ i.is_open))
  over_in phase.Rests i over = (i.none_a, i.none_b)
  over_in phase.Done i over = (i.none_a, i.none_b)

  -- what was given is a front of what may be written
  pub gave_front : (rest : List ℕ) × MayWrite c files (gave events ++ rest)
  gave_front = bool_cases (has_finished m.merger) ended going
    where
      -- some units, and more behind what was given
      gave_more : (rest : List (List ℕ)) → gave events ++ joined rest ≡ joined (s.sends.units ++ rest)
      gave_more rest = ap (λ (l : List ℕ). l ++ joined rest) s.sends.gave_is ∙ sym (joined_append s.sends.units rest)

      ended : has_finished m.merger ≡ true → (rest : List ℕ) × MayWrite c files (gave events ++ rest)
      ended over =
          let n = over_in m.phase s.is_in over in
          let p = s.sends.front [] (λ _. refl) in
          let all : s.sends.units ++ p.0 ≡ units_of c files =
          sym p.1 ∙ ap (pipe c.pid) (append-nil (remade_packets c frames)) ∙ sym (units_all n.0 n.1) in
          (joined p.0, inl (early n.0 n.1, gave_more p.0 ∙ ap joined all))

      going : has_finished m.merger ≡ false → (rest : List ℕ) × MayWrite c files (gave events ++ rest)
      going off =
          let e = s.both.early in
          let sum : m.next + (MOST_FRAMES - m.next) ≡ MOST_FRAMES = omega (arith, e) in
          let more = picks_front c (records_of c (files 0)) (records_of c (files 1)) m.next (MOST_FRAMES - m.next) in
          let picked : picked_below c files MOST_FRAMES ≡ picks c ga gb ++ more.0 =
          ap (picked_below c files) (sym sum) ∙ more.1
          ∙ ap (λ (l : List Picked). l ++ more.0) (picked_is m.next (omega arith) s.both.behind_a s.both.behind_b) in
          let q = packets_more c frames (frames_of more.0) in
          let packets : packets_of c (picked_below c files MOST_FRAMES) ≡ remade_packets c frames ++ q.0 =
          ap (packets_of c) picked ∙ ap (remade_packets c) (frames_append (picks c ga gb) more.0) ∙ q.1 in
          let p = s.sends.front q.0 (λ over. absurd (true≢false (sym over ∙ off))) in
          let l = law c.pid (remade_packets c frames) q.0 in
          let count = s.sends.count_is in
          let few = s.sends.whole off in
          let f = shorter_front s.sends.units (complete_units c.pid (remade_packets c frames)) p.0 l.rest (sym p.1
          ∙ l.units)
          (omega (arith, count, few)) in
          let all : s.sends.units ++ (f.0 ++ l.others) ≡ complete_units c.pid
          (packets_of c (picked_below c files MOST_FRAMES)) =
          sym (append_assoc s.sends.units f.0 l.others) ∙ ap (λ (x : List (List ℕ)). x ++ l.others) (sym f.1)
          ∙ sym l.complete
          ∙ ap (complete_units c.pid) (sym packets) in
          (joined (f.0 ++ l.others), inr (gave_more (f.0 ++ l.others) ∙ ap joined all))

  -- ---- how far the inputs were read

  -- the frames below a number are those of the records that were given
  picked_low : picked_below c files s.live.low ≡ picks_below c ga gb s.live.low
  picked_low =
      let p = split_a front follow c events held_a held_b m.next m.a m.b ga gb s.both files places are
      m.next s.both.behind_a in
      let q = split_b front follow c events held_a held_b m.next m.a m.b ga gb s.both files places are
      m.next s.both.behind_b in
      ap₂ (λ (ra rb : List FrameRecord). picks_below c ra rb s.live.low) p.all q.all
      ∙ below_split c ga p.after gb q.after m.next s.live.low s.live.within p.from q.from

  -- the complete units of the frames below a lower number were given
  given_since : (end : ℕ) → end ≤ s.live.low
      → (end ≤ MOST_FRAMES) × IsPrefix (joined (complete_units c.pid (packets_of c (picked_below c files end))))
      (gave events)
  given_since end le =
      let low : ℕ = s.live.low in
      let within = s.live.within in
      let few_frames = s.both.early in
      let next_is = s.both.next_is in
      let sum : end + (low - end) ≡ low = omega (arith, le) in
      let u = picks_front c (records_of c (files 0)) (records_of c (files 1)) end (low - end) in
      let low_is : picks_below c ga gb low ≡ picked_below c files end ++ u.0 =
      sym picked_low ∙ ap (picked_below c files) (sym sum) ∙ u.1 in
      let top : low + (m.next - low) ≡ m.next = omega (arith, within) in
      let v = picks_front c ga gb low (m.next - low) in
      let all_is : picks c ga gb ≡ picks_below c ga gb low ++ v.0 =
      all_below c ga gb m.next (below_of m.next ga (omega (arith, next_is)))
      (below_of m.next gb (omega (arith, next_is)))
      ∙ ap (picks_below c ga gb) (sym top) ∙ v.1 in
      let few : List (List ℕ) = packets_of c (picked_below c files end) in
      let more = packets_more c (frames_of (picked_below c files end)) (frames_of u.0) in
      let low_packets : packets_of c (picks_below c ga gb low) ≡ few ++ more.0 =
      ap (packets_of c) low_is ∙ ap (remade_packets c) (frames_append (picked_below c files end) u.0) ∙ more.1 in
      let rest = packets_more c (frames_of (picks_below c ga gb low)) (frames_of v.0) in
      let packets : remade_packets c frames ≡ (few ++ more.0) ++ rest.0 =
      ap (packets_of c) all_is ∙ ap (remade_packets c) (frames_append (picks_below c ga gb low) v.0) ∙ rest.1
      ∙ ap (λ (l : List (List ℕ)). l ++ rest.0) low_packets in
      let p = s.sends.front [] (λ _. refl) in
      let count = s.sends.count_is in
      let done = subst (λ (l : List (List ℕ)). length (complete_units c.pid l) ≤ m.ran.units) low_packets s.live.done in
      let f = given_front law c.pid few more.0 rest.0 s.sends.units p.0 (omega (arith, done, count))
      (ap (pipe c.pid) (sym packets ∙ sym (append-nil (remade_packets c frames))) ∙ p.1) in (
        omega (arith, le, within, few_frames),
        (joined f.0, s.sends.gave_is ∙ ap joined f.1 ∙ joined_append (complete_units c.pid few) f.0),
      )

  -- so all complete units were given that follow of fewer bytes than were fed
  pub since : (input taken : ℕ) → input < 2 → taken < length (fed input events)
      → (end_by c (files input) taken ≤ MOST_FRAMES) × IsPrefix (complete_by c files input taken) (gave events)
  since input taken lt less =
      given_since (end_by c (files input) taken)
      (ends_before front follow c events held_a held_b m.next m.a m.b ga gb s.both files places are s.live.low
      s.live.due_a s.live.due_b
      input taken lt less)

  -- no input was read further than by what is read ahead
  pub ahead : (n : ℕ) → m.next ≤ n → AreWithin 2 places (reach_of m) → ReadsAhead c n files places
  ahead n le near =
      let low = s.live.within in
      reads_ahead front follow c events held_a held_b m.next m.a m.b ga gb s.both files places are s.live.low
      n s.live.due_a s.live.due_b
      (omega (arith, low, le)) near

  -- so it is when an input is to be read on
  pub has_read : (input taken : ℕ) → Wants (waiting_of m.a) (feed.has_ended m.a) (waiting_of m.b) (feed.has_ended m.b)
      input
      → m.phase ≡ phase.Reads → taken ≡ length (fed input events) → AreWithin 2 places (reach_of m)
      → HasRead c input taken files places (gave events)
  has_read input taken wants reads is near =
      let same = ap (end_by c (files input)) is
      ∙ ends_next front follow c events m.next m.a m.b ga gb (both_in c m events s phase.Reads reads) files places
      are input wants in
      record {
        written = has_written input taken reads same;
        ahead = ahead (end_by c (files input) taken) (omega (arith, same)) near;
      }
