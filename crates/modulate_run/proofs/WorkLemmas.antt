-- What a machine does by its file.
use Rattle.std.proofs.Common.{◌≡◌, ◌≢◌, ℕ, ◌+◌, ◌-◌, ◌<◌, ◌≤◌, ◌==◌, Bool, true, false, cond, List, [], ◌∷◌, ◌++◌}
use Rattle.std.proofs.Common.{length, take, Option, Some, None, refl, ap, sym, subst, ◌∙◌, arith, append_assoc}
use Rattle.std.proofs.Common.{append-nil, eqb-true}
use Rattle.std.specs.Prelude.{Err, nat_lt, slice_index, flat_map}
use Rattle.std.proofs.lemmas.Bool.{eqb-false, ltb-false, ltb-true}
use Rattle.std.proofs.lemmas.List.{take_at, take-append-le, nil_from_length}
use Rattle.std.proofs.lemmas.List.Concat.{flat_map-append}
use Rattle.terms.proofs.CaseLemmas.{bool_cases}
use Rattle.modulator.proofs.WaitLemmas.{front_due}
use Rattle.plp_config.specs.declared.config.Config.{Config}
use Rattle.plp_config.specs.declared.moment.TheConstants.{MOST_FRAMES}
use Rattle.terms.specs.Lists.{IsPrefix}
use Rattle.frame_groups.specs.Modulated.{FrameRecord}
use Rattle.frame_groups.specs.declared.waiting.Waiting.{Waiting}
use Rattle.open_group.specs.Written.{spelled}
use Rattle.modulator.specs.Laws.{DueFront}
use Rattle.modulator.specs.StandsFor.{records_due, bytes_due, config_of, fed_of, next_of, records_of}
use Rattle.file_run.specs.Reading.{longest_file}
use Rattle.file_run.specs.Events.{Event, fed, has_ended, gave}
use Rattle.file_run.specs.FileRun.{IsFed, AreFed, read_ahead}
use Rattle.file_run.specs.Steps.{Needs, FallsShort}
use Rattle.file_run.specs.Work.{AreWhole, IsRightAtEnd, GaveSome, DoesWork}
use Rattle.file_run.specs.declared.machine.Step.TheVariants.{Read, Give, End}
use Rattle.file_run.specs.declared.stop.RunFault.TheVariants.{TooLong, ReadFault}
use Rattle.file_run.specs.declared.stop.RunStop.TheVariants.{Files}
use Rattle.file_run.proofs.OneInputLemmas.{whole_file}
use Rattle.file_run.proofs.StandsLemmas.{fed_since}
use Rattle.file_run.proofs.WorkLemmas.{are_whole}
use Rattle.modulate_run.specs.AsMachine.{step_of, Behind, IsNext, IsAll, Becomes, ending_of}
use Rattle.modulate_run.specs.Counted.{counted}
use Rattle.modulate_run.specs.ModulateRun.{output_of, AreEarly, HasWritten, HasEarly, HasSome, modulate_work}
use Rattle.modulate_run.specs.declared.machine.ModulatorMachine.{ModulatorMachine}
use Rattle.modulate_run.specs.declared.stop.ModulateRan.{ModulateRan}
use Rattle.modulate_run.proofs.CountLemmas.{early_one}
use Rattle.modulate_run.proofs.MachineLemmas.{falls_short}

-- ---- what is due

-- of some first records, each early, what was taken is a front
record GivesEarly (c : Config) (ended : Bool) (bytes taken : List ℕ) : Type 0 where
  given : List FrameRecord
  later : List FrameRecord
  all : records_due c ended bytes ≡ given ++ later
  early : AreEarly given
  rest : List ℕ
  is : flat_map (spelled c) given ≡ taken ++ rest

gives_late : (c : Config) (ended : Bool) (bytes taken : List ℕ) (w : Waiting) (ran : ModulateRan)
    → IsNext c ended bytes taken w ran
    → w.frame ≡ MOST_FRAMES → GivesEarly c ended bytes taken
gives_late c ended bytes taken w ran n late =
    let a = n.waits in
    record {
      given = a.before;
      later = a.next ∷ a.after;
      all = a.all;
      early = n.early;
      rest = [];
      is = sym (append-nil _) ∙ ap (λ (l : List ℕ). flat_map (spelled c) a.before ++ l) (sym (n.late late))
          ∙ sym a.taken_is
          ∙ sym (append-nil taken);
    }

gives_next : (c : Config) (ended : Bool) (bytes taken : List ℕ) (w : Waiting) (ran : ModulateRan)
    → IsNext c ended bytes taken w ran
    → w.frame < MOST_FRAMES → GivesEarly c ended bytes taken
gives_next c ended bytes taken w ran n small =
    let a = n.waits in
    let first : List ℕ = flat_map (spelled c) a.before in
    record {
      given = a.before ++ a.next ∷ [];
      later = a.after;
      all = a.all ∙ sym (append_assoc a.before (a.next ∷ []) a.after);
      early = early_one a.before a.next n.early (let m = a.number in omega (arith, m, small));
      rest = a.rest;
      is = flat_map-append (spelled c) a.before (a.next ∷ [])
          ∙ ap (λ (l : List ℕ). first ++ l) (append-nil (spelled c a.next) ∙ a.cut)
          ∙ sym (append_assoc first a.part a.rest)
          ∙ ap (λ (l : List ℕ). l ++ a.rest) (sym a.taken_is);
    }

gives_early : (c : Config) (ended : Bool) (bytes taken : List ℕ) (o : Option Waiting) (ran : ModulateRan)
    → Behind c ended bytes taken o ran → ((w : Waiting) → o ≡ Some w → w.frame ≤ MOST_FRAMES)
    → GivesEarly c ended bytes taken
gives_early c ended bytes taken None ran b few =
    record {
      given = records_due c ended bytes;
      later = [];
      all = sym (append-nil _);
      early = b.early;
      rest = [];
      is = b.all
          ∙ sym (append-nil taken);
    }
gives_early c ended bytes taken (Some w) ran n few =
    bool_cases (nat_lt w.frame MOST_FRAMES)
    (λ early. gives_next c ended bytes taken w ran n (ltb-true w.frame MOST_FRAMES early))
    (λ late. let l = ltb-false w.frame MOST_FRAMES late in let f = few w refl in
    gives_late c ended bytes taken w ran n (omega (arith, l, f)))

-- ---- steps

given_last : (b : Bool) → cond b Give End ≡ End → b ≡ false
given_last true e = absurd (let z : Give ≡ End = e in cc)
given_last false e = refl

no_needs : (b : Bool) (input count : ℕ) → Needs (cond b Give End) input count → ⊥
no_needs true input count h = h
no_needs false input count h = h

wanted : (o : Option Waiting) (e : Bool) (input count : ℕ) → Needs (step_of o e) input count → (o ≡ None)
    × (e ≡ false) × (0 ≡ input)
    × (count ≤ 1)
wanted (Some w) e input count h = absurd (no_needs (nat_lt w.frame MOST_FRAMES) input count h)
wanted None true input count h = absurd h
wanted None false input count h = (refl, refl, h.0, h.1)

-- ---- what was done to a machine by a file

module _ (law : DueFront) (start now : ModulatorMachine) (files : ℕ → List ℕ) (places : List ℕ) (events : List Event)
    (all : length places ≡ 1) (are : AreFed 1 files places events) (came : Becomes start events now) where
  abbrev c : Config
  c = config_of now.modulator

  abbrev place : ℕ
  place = slice_index places 0

  abbrev got : List ℕ
  got = fed 0 events

  first : IsFed (files 0) place got (has_ended 0 events)
  first = are 0 (omega arith)

  -- the same front of the file and of what was fed
  front_of : (n : ℕ) → n ≤ length got → take n (files 0) ≡ take n got
  front_of n few = ap (take n) first.parts ∙ take-append-le n got first.more few

  -- nothing waits
  all_of : (e : Bool) → now.waiting ≡ None → now.ended ≡ e → IsAll c e got (gave events) now.ran
  all_of e none ended =
      subst (λ (e : Bool). IsAll c e got (gave events) now.ran) ended
      (subst (λ (o : Option Waiting). Behind c now.ended got (gave events) o now.ran) none came.1.behind)

  fed_front : (xs : List FrameRecord) × (records_of c (files 0) ≡ records_due c now.ended got ++ xs)
  fed_front = front_due law c now.ended (files 0) got first.more first.parts (λ e. first.end (sym came.1.end ∙ e))

  meets_late : (w : Waiting) → now.waiting ≡ Some w → w.frame ≡ MOST_FRAMES → HasEarly c (files 0) (gave events)
  meets_late w is late =
      let next : IsNext c now.ended got (gave events) w now.ran =
      subst (λ (o : Option Waiting). Behind c now.ended got (gave events) o now.ran) is came.1.behind in
      let a = next.waits in
      let front = fed_front in
      record {
        before = a.before;
        next = a.next;
        after = a.after ++ front.0;
        all = front.1 ∙ ap (λ (xs : List FrameRecord). xs ++ front.0) a.all
            ∙ append_assoc a.before (a.next ∷ a.after) front.0;
        early = next.early;
        number = a.number ∙ late;
        is = a.taken_is ∙ ap (λ (l : List ℕ). flat_map (spelled c) a.before ++ l) (next.late late) ∙ append-nil _;
      }

  ends_in : (o : Option Waiting) (e : Bool) → now.waiting ≡ o → now.ended ≡ e → step_of o e ≡ End
      → IsRightAtEnd (modulate_work c) files places (gave events) (ending_of o now.ran)
  ends_in (Some w) e is ended end =
      let last : nat_lt w.frame MOST_FRAMES ≡ false = given_last (nat_lt w.frame MOST_FRAMES) end in
      let few : next_of now.modulator ≤ MOST_FRAMES = now.early in
      let number : w.frame ≡ next_of now.modulator = now.number w is in
      let least = ltb-false w.frame MOST_FRAMES last in
      meets_late w is (omega (arith, least, few, number))
  ends_in None false is ended end = absurd (let z : Read 0 1 read_ahead ≡ End = end in cc)
  ends_in None true is ended end =
      let a = all_of true is ended in
      let whole : got ≡ files 0 = (whole_file (files 0) place got (has_ended 0 events) first (sym came.1.end
      ∙ ended)).0 in
      let ends : AreWhole files places = are_whole 1 files places events all are
      (λ input lt. let zero : 0 ≡ input = omega (arith, lt) in
      subst (λ (k : ℕ). has_ended k events ≡ true) zero (sym came.1.end ∙ ended)) in
      let records : records_of c got ≡ records_of c (files 0) = ap (records_of c) whole in
      bool_cases (now.ran.records == 0)
      (λ zero.
      let few : length (records_of c got) ≡ 0 = sym (ap (λ (x : ModulateRan). x.records) a.ran_is)
      ∙ eqb-true now.ran.records 0 zero in
      let empty : records_of c got ≡ [] = nil_from_length _ few in
      rw zero (ends, record { none = sym records ∙ empty; empty = sym a.all ∙ ap (flat_map (spelled c)) empty }))
      (λ some. rw some (
        ends,
        record {
          some = λ e. eqb-false now.ran.records 0 some (ap (λ (x : ModulateRan). x.records) a.ran_is ∙ ap length
              (records ∙ e));
          early = subst AreEarly records a.early;
          output = sym a.all ∙ ap (output_of c) whole;
          ran_is = a.ran_is ∙ ap counted records;
        },
      ))

  has_written : now.waiting ≡ None → now.ended ≡ false → HasWritten c (length got) (files 0) (gave events)
  has_written none going =
      let a = all_of false none going in
      let is : take (length got) (files 0) ≡ got = ap (take (length got)) first.parts
      ∙ take_at got first.more (length got) refl in
      record {
        early = subst (λ (l : List ℕ). AreEarly (records_due c false l)) (sym is) a.early;
        is = sym a.all ∙ ap (bytes_due c false) (sym is);
      }

  too_long : (input : ℕ) → input < 1 → slice_index places input ≡ longest_file
      → Needs (step_of now.waiting now.ended) input (slice_index places input - length (fed input events))
      → modulate_work c files (Err (Files (TooLong input))) places (gave events)
  too_long input lt most wants =
      let w = wanted now.waiting now.ended input _ wants in
      let few = subst (λ (k : ℕ). slice_index places k - length (fed k events) ≤ 1) (sym w.2) w.3 in
      let is : place ≡ longest_file = ap (slice_index places) w.2 ∙ most in
      let ahead = first.ahead in
      record {
        taken = length got;
        near = omega (arith, few, is);
        within = omega (arith, ahead, is);
        has = has_written w.0 w.1;
      }

  unread : (input : ℕ) → FallsShort (step_of now.waiting now.ended) input (slice_index places input -
      length (fed input events))
      → modulate_work c files (Err (Files (ReadFault input))) places (gave events)
  unread input wants =
      let w = falls_short now.waiting now.ended input _ wants in
      let none = subst (λ (k : ℕ). slice_index places k - length (fed k events) ≡ 0) (sym w.2) w.3 in
      let ahead = first.ahead in
      let size : length got ≡ place = omega (arith, ahead, none) in
      subst (λ (n : ℕ). HasWritten c n (files 0) (gave events)) size (has_written w.0 w.1)

  -- of some first records, each early, these bytes are a front
  gives_some : (bytes more : List ℕ) → more ≢ [] → gave events ≡ bytes ++ more
      → ((taken : ℕ) → taken + read_ahead < place → IsPrefix (bytes_due c false (take taken (files 0))) bytes)
      → HasSome c place (files 0) bytes
  gives_some bytes more some parts since =
      let e = gives_early c now.ended got (gave events) now.waiting now.ran came.1.behind
      (λ w is. let n = now.number w is in let m = now.early in omega (arith, n, m)) in
      let front = fed_front in
      record {
        given = e.given;
        later = e.later ++ front.0;
        all = front.1 ∙ ap (λ (xs : List FrameRecord). xs ++ front.0) e.all ∙ append_assoc e.given e.later front.0;
        early = e.early;
        more = more ++ e.rest;
        some = λ z. some (front_empty more e.rest z);
        begins = e.is ∙ ap (λ (l : List ℕ). l ++ e.rest) parts ∙ append_assoc bytes more e.rest;
        since = since;
      }
    where
      front_empty : (xs ys : List ℕ) → xs ++ ys ≡ [] → xs ≡ []
      front_empty [] ys e = refl
      front_empty (x ∷ xs) ys e = absurd (let n = ap length e in omega (arith, n))

  -- by fewer bytes than were fed, all that is due was given
  given_by : (taken : ℕ) → taken < length got → IsPrefix (bytes_due c false (take taken (files 0))) (gave events)
  given_by taken less =
      subst (λ (l : List ℕ). IsPrefix (bytes_due c false l) (gave events)) (sym (front_of taken (omega (arith, less))))
      (came.1.front taken less)

-- ---- the work of a machine

abbrev reach_of : ModulatorMachine → ℕ → ℕ
reach_of m input = fed_of m.modulator + read_ahead

abbrev Wrote : ModulatorMachine → List ℕ → List Event → ModulatorMachine → List ℕ → Type 0
Wrote start places events now bytes = GaveSome reach_of (λ m. step_of m.waiting m.ended) (Becomes start)
    1 places events now bytes

unwritten : DueFront → (start now : ModulatorMachine) (files : ℕ → List ℕ) (places : List ℕ) (events : List Event)
    (bytes : List ℕ)
    → length places ≡ 1 → AreFed 1 files places events → Wrote start places events now bytes
    → HasSome (config_of start.modulator) (slice_index places 0) (files 0) bytes
unwritten law start now files places events bytes all are g =
    let s = config_of start.modulator in
    subst (λ (k : Config). HasSome k (slice_index places 0) (files 0) bytes) g.came_late.0
    (gives_some law start now files places (events ++ g.late) all (fed_since 1 files places events g.late g.only are)
    g.came_late
    bytes g.more g.some g.parts (λ taken less.
    let within = g.within 0 (omega arith) in
    let count = g.came.1.count in
    let p = given_by law start g.mid files places events all are g.came taken (omega (arith, less, within, count)) in
    let same : config_of g.mid.modulator ≡ config_of now.modulator = g.came.0 ∙ sym g.came_late.0 in
    let due = subst (λ (k : Config). IsPrefix (bytes_due k false (take taken (files 0))) (gave events)) same p in
    (due.0 ++ g.front, g.is ∙ ap (λ (l : List ℕ). l ++ g.front) due.1 ∙ append_assoc _ due.0 g.front)))

pub modulate_does : DueFront → (start : ModulatorMachine) → DoesWork (modulate_work (config_of start.modulator))
    1 reach_of
    (λ m. step_of m.waiting m.ended) (Becomes start) (λ m. ending_of m.waiting m.ran)
modulate_does law start = record {
  ends = λ files places events now all are within came end.
      subst (λ (k : Config). IsRightAtEnd (modulate_work k) files places (gave events) (ending_of now.waiting now.ran))
      came.0
      (ends_in law start now files places events all are came now.waiting now.ended refl refl end);
  too_long = λ files places events now input all are within came lt most wants.
      subst (λ (k : Config). modulate_work k files (Err (Files (TooLong input))) places (gave events)) came.0
      (too_long law start now files places events all are came input lt most wants);
  unread = λ files places events now input all are within came lt wants.
      subst (λ (k : Config). modulate_work k files (Err (Files (ReadFault input))) places (gave events)) came.0
      (unread law start now files places events all are came input wants);
  unwritten = λ files places events now bytes all are g. unwritten law start now files places events bytes all are g;
}
