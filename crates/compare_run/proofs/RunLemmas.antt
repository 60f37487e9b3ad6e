-- What a comparison does by its files.
use Rattle.std.proofs.Common.{◌≡◌, ℕ, ◌+◌, ◌-◌, ◌<◌, ◌≤◌, ◌==◌, Bool, true, false, List, [], ◌∷◌, ◌++◌, length, Option}
use Rattle.std.proofs.Common.{Some, None, refl, ap, ap₂, sym, subst, ◌∙◌, inl, inr, arith, append_assoc}
use Rattle.std.specs.Prelude.{Err, slice_index}
use Rattle.std.proofs.lemmas.Bool.{ltb-false}
use Rattle.terms.proofs.CaseLemmas.{bool_cases}
use Rattle.file_run.specs.Reading.{longest_file}
use Rattle.plp_config.specs.declared.config.Config.{Config}
use Rattle.plp_config.specs.declared.moment.TheConstants.{MOST_FRAMES}
use Rattle.terms.specs.Lists.{IsPrefix}
use Rattle.frame_groups.specs.Modulated.{FrameRecord, Numbered}
use Rattle.modulator.specs.Laws.{DueFront, DueFollow}
use Rattle.modulator.specs.StandsFor.{records_of}
use Rattle.feed_merge.specs.FeedStandsFor.{waiting_of}
use Rattle.feed_merge.specs.Groups.{AreGroups, groups_of}
use Rattle.feed_merge.specs.FeedStandsFor as feed
use Rattle.file_run.specs.Events.{Event, fed, gave}
use Rattle.file_run.specs.FileRun.{AreFed, IsFed}
use Rattle.file_run.specs.Steps.{Needs, FallsShort}
use Rattle.file_run.specs.Work.{AreWhole, AreWithin, IsRightAtEnd, GaveSome, DoesWork}
use Rattle.file_run.specs.declared.machine.Step.TheVariants.{End}
use Rattle.file_run.specs.declared.stop.RunFault.TheVariants.{TooLong, ReadFault}
use Rattle.file_run.specs.declared.stop.RunStop.TheVariants.{Files}
use Rattle.file_run.proofs.StandsLemmas.{fed_since}
use Rattle.feed_merge.specs.Both.{IsDueBelow}
use Rattle.feed_merge.specs.Fed.{AreEarly, end_by, ReadsAhead, IsBehind}
use Rattle.feed_merge.proofs.BothLemmas.{above_a, above_b, none_given, split_a, split_b, ends_before, reads_ahead}
use Rattle.feed_merge.proofs.BothLemmas.{all_a, all_b, whole_all, early_all, none_all, some_all, due_below, ends_next}
use Rattle.feed_merge.proofs.BothLemmas.{late_a, late_b, late_is}
use Rattle.feed_merge.proofs.StepLemmas.{Wants, IsLate, is_late, needs_by, short_by}
use Rattle.feed_merge.proofs.WantLemmas.{fed_count}
use Rattle.compare_run.specs.Comparing.{Answered, answers, answers_below, PlpDifference}
use Rattle.compare_run.specs.AnswerLaws.{frames_by}
use Rattle.compare_run.specs.Lines.{known_text, text_of}
use Rattle.compare_run.specs.Runs.{counts_of}
use Rattle.compare_run.specs.TallyStandsFor.{counts_in, plps_in}
use Rattle.compare_run.specs.declared.counts.CompareRan.{CompareRan}
use Rattle.compare_run.proofs.GrowLemmas.{answers_nothing, before_more}
use Rattle.compare_run.proofs.PlpLemmas.{said_so_far}
use Rattle.compare_run.proofs.LineLemmas.{nothing_told, known_front}
use Rattle.compare_run.specs.AsMachine.{Becomes, ending_by, ending_in, ending_of}
use Rattle.compare_run.specs.CompareRun.{compared_below, compared_of, differing_of, all_text, text_below, HaveRecords}
use Rattle.compare_run.specs.CompareRun.{AreAlike, AreOther, HasNone, IsKnownBelow, HasLate, HasSaid, MaySay, HasSome}
use Rattle.compare_run.specs.CompareRun.{compare_work, HasRead}
use Rattle.compare_run.specs.Shown.{Shown, IsTold, text_in, untold}
use Rattle.compare_run.specs.Steps.{step_of, reach_of, is_telling}
use Rattle.compare_run.specs.declared.machine.CompareMachine.{CompareMachine, CompareMachine}
use Rattle.compare_run.proofs.SplitLemmas.{answers_front, answers_split, none_above}
use Rattle.compare_run.proofs.StepLemmas.{asked, ends_told, ends}

-- ---- what is known of two files by what was fed of them

module _ (front : DueFront) (follow : DueFollow) (c : Config) (m : CompareMachine) (events : List Event)
    (s : Shown c events m) (files : ℕ → List ℕ) (places : List ℕ) (are : AreFed 2 files places events) where
  abbrev ga : List FrameRecord
  ga = s.given_a

  abbrev gb : List FrameRecord
  gb = s.given_b

  -- the groups of both files
  abbrev groups_a : List Numbered
  groups_a = groups_of c (files 0)

  abbrev groups_b : List Numbered
  groups_b = groups_of c (files 1)

  abbrev told : List Answered
  told = answers c (frames_by ga groups_a) (frames_by gb groups_b)

  groups_fed : (file : List ℕ) (place : ℕ) (bytes : List ℕ) (ended : Bool) → IsFed file place bytes ended
      → AreGroups c bytes ended (groups_of c file)
  groups_fed file place bytes ended f = record { more = f.more; none = f.end; are = ap (groups_of c) f.parts }

  abbrev of : ℕ → List PlpDifference
  of = differing_of c files

  is_told : IsTold c m ga gb s.low (gave events) groups_a groups_b
  is_told = s.told groups_a groups_b (groups_fed (files 0) _ _ _ (are 0 (omega arith)))
      (groups_fed (files 1) _ _ _ (are 1 (omega arith)))

  -- if no PLP is left to tell, the lines were said
  gave_is : is_telling m ≡ false → gave events ≡ text_in m.done of told
  gave_is off = said_so_far c m is_told (ltb-false m.plp (plps_in m.carried) off)

  -- the frames that were compared are those below a number that is behind both
  told_is : (n : ℕ) → m.next ≤ n → IsBehind n m.a ga → IsBehind n m.b gb → compared_below c files n ≡ told
  told_is n le x y =
      let p = split_a front follow c events false false m.next m.a m.b ga gb s.both files places are n x in
      let q = split_b front follow c events false false m.next m.a m.b ga gb s.both files places are n y in
      let is = s.both.next_is in
      ap₂ (λ (ra rb : List FrameRecord). answers_below c (frames_by ra groups_a) (frames_by rb groups_b) n) p.all q.all
      ∙ answers_split c groups_a groups_b ga p.after gb q.after n (omega (arith, is, le)) (omega (arith, is, le))
      p.from q.from

  -- so the lines that are known by these were said
  known_below : (n : ℕ) → m.next ≤ n → IsBehind n m.a ga → IsBehind n m.b gb → is_telling m ≡ false → m.done ≡ false
      → IsKnownBelow c files n (gave events)
  known_below n le x y off going =
      gave_is off ∙ ap (λ (d : Bool). text_in d of told) going ∙ ap (known_text of) (sym (told_is n le x y))

  -- ---- all was given

  all_is : m.done ≡ true → (records_of c (files 0) ≡ ga) × (records_of c (files 1) ≡ gb)
  all_is done =
      let none = s.over done in (
        all_a front follow c events false false m.next m.a m.b ga gb s.both files places are none.0 none.1,
        all_b front follow c events false false m.next m.a m.b ga gb s.both files places are none.0 none.1,
      )

  told_all : m.done ≡ true → compared_of c files ≡ told
  told_all done =
      let all = all_is done in
      ap₂ (λ (ra rb : List FrameRecord). answers c (frames_by ra groups_a) (frames_by rb groups_b)) all.0 all.1

  all_said : m.done ≡ true → text_in m.done of told ≡ all_text c files
  all_said done = ap (λ (d : Bool). text_in d of told) done ∙ ap (text_of of) (sym (told_all done))

  said_all : is_telling m ≡ false → m.done ≡ true → gave events ≡ all_text c files
  said_all off done = gave_is off ∙ all_said done

  early : m.done ≡ true → (input : ℕ) → input < 2 → AreEarly (records_of c (files input))
  early done =
      let none = s.over done in
      early_all front follow c events false false m.next m.a m.b ga gb s.both files places are none.0 none.1

  have : m.done ≡ true → (m.next == 0) ≡ false → HaveRecords c files
  have done some =
      let none = s.over done in
      record {
        some = some_all front follow c events false false m.next m.a m.b ga gb s.both files places are
            none.0 none.1 some;
        early = early done;
      }

  counts_all : m.done ≡ true → counts_in m.tally ≡ counts_of (compared_of c files)
  counts_all done = is_told.tallied.counts ∙ ap counts_of (sym (told_all done))

  are_alike : is_telling m ≡ false → m.done ≡ true → (m.next == 0) ≡ false → (counts_in m.tally).first ≡ None
      → AreAlike c files (counts_in m.tally) (gave events)
  are_alike off done some none = record {
    have = have done some;
    none = ap (λ (n : CompareRan). n.first) (sym (counts_all done)) ∙ none;
    is = said_all off done;
    counts_are = counts_all done;
  }

  are_other : (frame : ℕ) → is_telling m ≡ false → m.done ≡ true → (m.next == 0) ≡ false
      → (counts_in m.tally).first ≡ Some frame → AreOther c files frame (gave events)
  are_other frame off done some first = record {
    have = have done some;
    first = ap (λ (n : CompareRan). n.first) (sym (counts_all done)) ∙ first;
    is = said_all off done;
  }

  has_none : is_telling m ≡ false → m.done ≡ true → (m.next == 0) ≡ true → HasNone c files (gave events)
  has_none off done zero =
      let none = s.over done in
      let given = none_given c events false false m.next m.a m.b ga gb s.both zero in
      let nothing : told ≡ [] =
      ap₂ (λ (ra rb : List FrameRecord). answers c (frames_by ra groups_a) (frames_by rb groups_b)) given.0 given.1
      ∙ answers_nothing c groups_a groups_b in
      record {
        none = none_all front follow c events false false m.next m.a m.b ga gb s.both files places are
            none.0 none.1 zero;
        empty = gave_is off ∙ ap (λ (d : Bool). text_in d of told) done ∙ ap (text_of of) nothing ∙ nothing_told of;
      }

  -- ---- a late record waits

  has_late : is_telling m ≡ false → m.done ≡ false
      → IsLate (waiting_of m.a) (feed.has_ended m.a) (waiting_of m.b) (feed.has_ended m.b)
      → HasLate c files (gave events)
  has_late off going l = record {
    late = late_is front follow c events m.next m.a m.b ga gb s.both files places are l;
    is = known_below MOST_FRAMES s.both.early (late_a front follow c events m.next m.a m.b ga gb s.both
        files places are l)
        (late_b front follow c events m.next m.a m.b ga gb s.both files places are l) off going;
  }

  -- ---- an input is wanted

  has_said : (input taken : ℕ) → is_telling m ≡ false → m.done ≡ false → end_by c (files input) taken ≡ m.next
      → HasSaid c input taken files (gave events)
  has_said input taken off going same = record {
    early = (let e = s.both.early in omega (arith, same, e));
    is = subst (λ (n : ℕ). IsKnownBelow c files n (gave events)) (sym same)
        (known_below m.next (omega arith) s.both.behind_a s.both.behind_b off going);
  }

  -- ---- some were said

  -- what was said is the beginning of what may be said
  gave_front : (rest : List ℕ) × MaySay c files (gave events ++ rest)
  gave_front = bool_cases m.done ended going
    where
      ended : m.done ≡ true → (rest : List ℕ) × MaySay c files (gave events ++ rest)
      ended done = (untold c m, inl (early done, is_told.said_is ∙ all_said done))

      going : m.done ≡ false → (rest : List ℕ) × MaySay c files (gave events ++ rest)
      going off =
          let e = s.both.early in
          let sum : m.next + (MOST_FRAMES - m.next) ≡ MOST_FRAMES = omega (arith, e) in
          let p = answers_front c groups_a groups_b (records_of c (files 0)) (records_of c (files 1))
          m.next (MOST_FRAMES - m.next) in
          let all : compared_below c files MOST_FRAMES ≡ told ++ p.0 =
          ap (compared_below c files) (sym sum) ∙ p.1
          ∙ ap (λ (l : List Answered). l ++ p.0) (told_is m.next (omega arith) s.both.behind_a s.both.behind_b) in
          let k = known_front of told p.0 in (
            untold c m ++ k.0,
            inr (sym (append_assoc (gave events) (untold c m) k.0)
                ∙ ap (λ (l : List ℕ). l ++ k.0) (is_told.said_is ∙ ap (λ (d : Bool). text_in d of told) off) ∙ sym k.1
                ∙ ap (known_text of) (sym all)),
          )

  -- ---- how far the inputs were read

  -- the frames below the number below which all is said
  low_is : compared_below c files s.low ≡ answers_below c (frames_by ga groups_a) (frames_by gb groups_b) s.low
  low_is =
      let p =
      split_a front follow c events false false m.next m.a m.b ga gb s.both files places are m.next s.both.behind_a in
      let q =
      split_b front follow c events false false m.next m.a m.b ga gb s.both files places are m.next s.both.behind_b in
      let few = s.few in
      ap₂ (λ (ra rb : List FrameRecord). answers_below c (frames_by ra groups_a) (frames_by rb groups_b) s.low)
      p.all q.all
      ∙ before_more c groups_a groups_b ga gb p.after q.after s.low
      (λ k lt. none_above m.next k p.after p.from (omega (arith, lt, few)))
      (λ k lt. none_above m.next k q.after q.from (omega (arith, lt, few)))

  -- what is known by the frames below a lower number was said
  said_since : (end : ℕ) → end ≤ s.low → (end ≤ MOST_FRAMES) × IsPrefix (text_below c files end) (gave events)
  said_since end le =
      let early = s.both.early in
      let few = s.few in
      let sum : end + (s.low - end) ≡ s.low = omega (arith, le) in
      let p = answers_front c groups_a groups_b (records_of c (files 0)) (records_of c (files 1)) end (s.low - end) in
      let k = known_front of (compared_below c files end) p.0 in
      let since = is_told.since in (
        omega (arith, le, few, early),
        (
          k.0 ++ since.0,
          since.1
              ∙ ap (λ (l : List ℕ). l ++ since.0)
              (ap (known_text of) (sym low_is ∙ ap (compared_below c files) (sym sum) ∙ p.1) ∙ k.1)
              ∙ append_assoc (text_below c files end) k.0 since.0,
        ),
      )

  due_a : IsDueBelow c m.next (fed 0 events)
  due_a = due_below c m.a _ _ ga m.next (above_a c events false false m.next m.a m.b ga gb s.both) s.both.of_a

  due_b : IsDueBelow c m.next (fed 1 events)
  due_b = due_below c m.b _ _ gb m.next (above_b c events false false m.next m.a m.b ga gb s.both) s.both.of_b

  -- so all was said that is known by fewer bytes than were fed
  since : (input taken : ℕ) → input < 2 → taken < length (fed input events)
      → (end_by c (files input) taken ≤ MOST_FRAMES)
      × IsPrefix (text_below c files (end_by c (files input) taken)) (gave events)
  since input taken lt less =
      said_since (end_by c (files input) taken)
      (ends_before front follow c events false false m.next m.a m.b ga gb s.both files places are s.low s.due_a s.due_b
      input taken lt less)

  -- no input was read further than by what is read ahead
  ahead : (n : ℕ) → m.next ≤ n → AreWithin 2 places (reach_of m) → ReadsAhead c n files places
  ahead n le near = reads_ahead front follow c events false false m.next m.a m.b ga gb s.both files places
      are m.next n due_a due_b le near

  -- so it is when an input is to be read on
  has_read : (input taken : ℕ) → Wants (waiting_of m.a) (feed.has_ended m.a) (waiting_of m.b) (feed.has_ended m.b) input
      → is_telling m ≡ false → m.done ≡ false → taken ≡ length (fed input events) → AreWithin 2 places (reach_of m)
      → HasRead c input taken files places (gave events)
  has_read input taken wants off going is near =
      let same = ap (end_by c (files input)) is
      ∙ ends_next front follow c events m.next m.a m.b ga gb s.both files places are input wants in
      record {
        said = has_said input taken off going same;
        ahead = ahead (end_by c (files input) taken) (omega (arith, same)) near;
      }

-- ---- what the machine does

module _ (front : DueFront) (follow : DueFollow) (start now : CompareMachine) (files : ℕ → List ℕ)
    (places : List ℕ) (events : List Event) (all : length places ≡ 2) (are : AreFed 2 files places events)
    (within : AreWithin 2 places (reach_of now)) (s : Shown start.plan.now events now) where
  abbrev k : Config
  k = start.plan.now

  whole : now.done ≡ true → AreWhole files places
  whole done =
      let none = s.over done in
      whole_all front follow k events false false now.next now.a now.b s.given_a s.given_b s.both files
      places are none.0 none.1 all

  ends_by : is_telling now ≡ false → now.done ≡ true → (now.next == 0) ≡ false → (first : Option ℕ)
      → (counts_in now.tally).first ≡ first
      → IsRightAtEnd (compare_work k) files places (gave events) (ending_by first (counts_in now.tally))
  ends_by off is some None none =
      (whole is, are_alike front follow k now events s files places are off is some none)
  ends_by off is some (Some frame) first =
      (whole is, are_other front follow k now events s files places are frame off is some first)

  ends_in : (done : Bool) → now.done ≡ done → step_of now ≡ End
      → IsRightAtEnd (compare_work k) files places (gave events) (ending_in done now.next (counts_in now.tally))
  ends_in false is end = (
    has_late front follow k now events s files places are (ends_told (is_telling now) _ end) is
        (is_late _ _ _ _ (ends (is_telling now) now.done _ is end)),
    ahead front follow k now events s files places are MOST_FRAMES s.both.early within,
  )
  ends_in true is end =
      let off = ends_told (is_telling now) _ end in
      bool_cases (now.next == 0)
      (λ none. rw none (whole is, has_none front follow k now events s files places are off is none))
      (λ some. rw some (ends_by off is some (counts_in now.tally).first refl))

  too_long : (input : ℕ) → input < 2 → slice_index places input ≡ longest_file
      → Needs (step_of now) input (slice_index places input - length (fed input events))
      → compare_work k files (Err (Files (TooLong input))) places (gave events)
  too_long input lt most wants =
      let w = asked Needs (λ i k h. h) (λ i k h. h) (is_telling now) now.done _ input _ wants in
      let n = needs_by _ _ _ _ input _ w.2 in
      let few = n.1 in
      let most_fed = (are input lt).ahead in
      record {
        taken = length (fed input events);
        near = omega (arith, few, most);
        within = omega (arith, most_fed, most);
        has = has_read front follow k now events s files places are input (length (fed input events)) n.0 w.0 w.1 refl
            within;
      }

  unread : (input : ℕ) → input < 2
      → FallsShort (step_of now) input (slice_index places input - length (fed input events))
      → compare_work k files (Err (Files (ReadFault input))) places (gave events)
  unread input lt wants =
      let w = asked FallsShort (λ i k h. h) (λ i k h. h) (is_telling now) now.done _ input _ wants in
      let n = short_by _ _ _ _ input _ w.2 in
      let none = n.1 in
      let most_fed = (are input lt).ahead in
      has_read front follow k now events s files places are input (slice_index places input) n.0 w.0 w.1
      (omega (arith, most_fed, none)) within

unsaid : DueFront → DueFollow → (start now : CompareMachine) (files : ℕ → List ℕ) (places : List ℕ)
    (events : List Event) (bytes : List ℕ) → AreFed 2 files places events
    → GaveSome reach_of step_of (Becomes start) 2 places events now bytes
    → HasSome start.plan.now places files bytes
unsaid front follow start now files places events bytes are g =
    let k : Config = start.plan.now in
    let p = gave_front front follow k now (events ++ g.late) g.came_late files places
    (fed_since 2 files places events g.late g.only are) in
    record {
      more = g.more ++ p.0;
      some = λ z. g.some (front_empty g.more p.0 z);
      begins = subst (MaySay k files) (ap (λ (l : List ℕ). l ++ p.0) g.parts ∙ append_assoc bytes g.more p.0) p.1;
      since = λ input taken lt less.
          let within = g.within input lt in
          let m = g.mid in
          let count = fed_count k events false false m.next m.a m.b g.came.given_a g.came.given_b g.came.both
          input lt in
          let d = since front follow k g.mid events g.came files places are input taken lt
          (omega (arith, less, within, count)) in (
            d.0,
            (d.1.0 ++ g.front, g.is ∙ ap (λ (l : List ℕ). l ++ g.front) d.1.1 ∙ append_assoc _ d.1.0 g.front),
          );
    }
  where
    front_empty : (xs ys : List ℕ) → xs ++ ys ≡ [] → xs ≡ []
    front_empty [] ys e = refl
    front_empty (x ∷ xs) ys e = absurd (let n = ap length e in omega (arith, n))

pub compare_does : DueFront → DueFollow → (start : CompareMachine) → DoesWork (compare_work start.plan.now) 2
    reach_of step_of (Becomes start) ending_of
compare_does front follow start = record {
  ends = λ files places events now all are within came end.
      ends_in front follow start now files places events all are within came now.done refl end;
  too_long = λ files places events now input all are within came lt most wants.
      too_long front follow start now files places events all are within came input lt most wants;
  unread = λ files places events now input all are within came lt wants.
      unread front follow start now files places events all are within came input lt wants;
  unwritten = λ files places events now bytes all are g. unsaid front follow start now files places events bytes are g;
}
