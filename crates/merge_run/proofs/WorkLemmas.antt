-- What a merger does by its files.
use Rattle.std.proofs.Common.{◌≡◌, ℕ, ◌-◌, ◌<◌, ◌==◌, List, [], ◌∷◌, ◌++◌, length, refl, ap, subst, ◌∙◌, arith}
use Rattle.std.proofs.Common.{append_assoc}
use Rattle.std.specs.Prelude.{Err, slice_index}
use Rattle.terms.proofs.CaseLemmas.{bool_cases}
use Rattle.plp_config.specs.declared.config.Config.{Config}
use Rattle.plp_config.specs.declared.moment.TheConstants.{MOST_FRAMES}
use Rattle.file_run.specs.Reading.{longest_file}
use Rattle.modulator.specs.Laws.{DueFront, DueFollow}
use Rattle.t2mi_stream.specs.CompleteLaws.{CompleteLaw}
use Rattle.file_run.specs.Events.{Event, fed, gave}
use Rattle.file_run.specs.FileRun.{AreFed}
use Rattle.file_run.specs.Steps.{Needs, FallsShort}
use Rattle.file_run.specs.Work.{AreWhole, AreWithin, IsRightAtEnd, GaveSome, DoesWork}
use Rattle.file_run.specs.declared.machine.Step.TheVariants.{Give, End}
use Rattle.file_run.specs.declared.stop.RunFault.TheVariants.{TooLong, ReadFault}
use Rattle.file_run.specs.declared.stop.RunStop.TheVariants.{Files}
use Rattle.file_run.proofs.StandsLemmas.{fed_since}
use Rattle.merge_run.specs.AsMachine.{Becomes, ending_in, ending_of}
use Rattle.merge_run.specs.MergeRun.{MayWrite, HasSome, merge_work}
use Rattle.merge_run.specs.Shown.{Shown, IsDone, is_held}
use Rattle.feed_merge.specs.declared.seen.Feed.TheVariants.{A, B}
use Rattle.feed_merge.specs.Reading.{step_for}
use Rattle.merge_run.specs.Steps.{step_in, step_of, reach_of}
use Rattle.merge_run.specs.declared.machine.MergeMachine.{MergeMachine}
use Rattle.merge_run.specs.declared.phase.Phase.{Phase}
use Rattle.merge_run.specs.declared.phase.Phase.TheVariants as phase
use Rattle.feed_merge.proofs.BothLemmas.{whole_all}
use Rattle.feed_merge.proofs.StepLemmas.{is_late, needs_by, short_by}
use Rattle.feed_merge.proofs.WantLemmas.{fed_count}
use Rattle.merge_run.proofs.ShownLemmas.{frames, is_at}
use Rattle.merge_run.proofs.StepLemmas.{asked}
use Rattle.merge_run.proofs.FilesLemmas.{merges_all, has_none, has_late, has_read, ahead, gave_front, since}

module _ (front : DueFront) (follow : DueFollow) (law : CompleteLaw) (start now : MergeMachine) (files : ℕ → List ℕ)
    (places : List ℕ) (events : List Event) (all : length places ≡ 2) (are : AreFed 2 files places events)
    (within : AreWithin 2 places (reach_of now)) (s : Shown start.plan.now events now) where
  abbrev k : Config
  k = start.plan.now

  whole : now.phase ≡ phase.Done → AreWhole files places
  whole done =
      let i : IsDone k (frames k now events s) now.ran.units now.a now.b = is_at k now events s phase.Done done in
      whole_all front follow k events (is_held now.phase now.source A) (is_held now.phase now.source B)
      now.next now.a now.b s.given_a
      s.given_b s.both files places are i.none_a i.none_b all

  ends_in : (p : Phase) → now.phase ≡ p
      → step_in p (step_for now.a now.b) ≡ End → IsRightAtEnd (merge_work k) files places (gave events)
      (ending_in p now.next now.ran)
  ends_in phase.Reads is end = (
    has_late front follow law k now events s files places are is (is_late _ _ _ _ end),
    ahead front follow law k now events s files places are MOST_FRAMES s.both.early within,
  )
  ends_in phase.Gives is end = absurd (let z : Give ≡ End = end in cc)
  ends_in phase.Rests is end = absurd (let z : Give ≡ End = end in cc)
  ends_in phase.Done is end =
      bool_cases (now.next == 0)
      (λ none. rw none (whole is, has_none front follow law k now events s files places are is none))
      (λ some. rw some (whole is, merges_all front follow law k now events s files places are is some))

  too_long : (input : ℕ) → input < 2 → slice_index places input ≡ longest_file
      → Needs (step_of now) input (slice_index places input - length (fed input events))
      → merge_work k files (Err (Files (TooLong input))) places (gave events)
  too_long input lt most wants =
      let w = asked Needs (λ i k h. h) (λ i k h. h) now.phase _ input _ wants in
      let n = needs_by _ _ _ _ input _ w.1 in
      let few = n.1 in
      let most_fed = (are input lt).ahead in
      record {
        taken = length (fed input events);
        near = omega (arith, few, most);
        within = omega (arith, most_fed, most);
        has = has_read front follow law k now events s files places are input (length (fed input events))
            n.0 w.0 refl within;
      }

  unread : (input : ℕ) → input < 2
      → FallsShort (step_of now) input (slice_index places input - length (fed input events))
      → merge_work k files (Err (Files (ReadFault input))) places (gave events)
  unread input lt wants =
      let w = asked FallsShort (λ i k h. h) (λ i k h. h) now.phase _ input _ wants in
      let n = short_by _ _ _ _ input _ w.1 in
      let none = n.1 in
      let most_fed = (are input lt).ahead in
      has_read front follow law k now events s files places are input (slice_index places input) n.0 w.0
      (omega (arith, most_fed, none)) within

unwritten : DueFront → DueFollow → CompleteLaw → (start now : MergeMachine) (files : ℕ → List ℕ) (places : List ℕ)
    (events : List Event)
    (bytes : List ℕ) → AreFed 2 files places events
    → GaveSome reach_of step_of (Becomes start) 2 places events now bytes
    → HasSome start.plan.now places files bytes
unwritten front follow law start now files places events bytes are g =
    let k : Config = start.plan.now in
    let p = gave_front front follow law k now (events ++ g.late) g.came_late files places
    (fed_since 2 files places events g.late g.only are) in
    record {
      more = g.more ++ p.0;
      some = λ z. g.some (front_empty g.more p.0 z);
      begins = subst (MayWrite k files) (ap (λ (l : List ℕ). l ++ p.0) g.parts ∙ append_assoc bytes g.more p.0) p.1;
      since = λ input taken lt less.
          let within = g.within input lt in
          let m = g.mid in
          let count = fed_count k events (is_held m.phase m.source A) (is_held m.phase m.source B) m.next
          m.a m.b g.came.given_a g.came.given_b
          g.came.both input lt in
          let d = since front follow law k g.mid events g.came files places are input taken lt
          (omega (arith, less, within, count)) in (
            d.0,
            (d.1.0 ++ g.front, g.is ∙ ap (λ (l : List ℕ). l ++ g.front) d.1.1 ∙ append_assoc _ d.1.0 g.front),
          );
    }
  where
    front_empty : (xs ys : List ℕ) → xs ++ ys ≡ [] → xs ≡ []
    front_empty [] ys e = refl
    front_empty (x ∷ xs) ys e = absurd (let n = ap length e in omega (arith, n))

pub merge_does : DueFront → DueFollow → CompleteLaw → (start : MergeMachine) → DoesWork (merge_work start.plan.now) 2
    reach_of step_of (Becomes start) ending_of
merge_does front follow law start = record {
  ends = λ files places events now all are within came end.
      ends_in front follow law start now files places events all are within came now.phase refl end;
  too_long = λ files places events now input all are within came lt most wants.
      too_long front follow law start now files places events all are within came input lt most wants;
  unread = λ files places events now input all are within came lt wants.
      unread front follow law start now files places events all are within came input lt wants;
  unwritten = λ files places events now bytes all are g. unwritten front follow law start now files places
      events bytes are g;
}
