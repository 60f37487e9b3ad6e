-- What the machine wants, and what it knows if it is fed.
use Rattle.std.proofs.Common.{◌≡◌, ℕ, zero, suc, ◌+◌, ◌<◌, ◌≤◌, List, [], ◌∷◌, length, Option, Some, None, refl, sym}
use Rattle.std.proofs.Common.{subst, ◌∙◌, arith}
use Rattle.std.proofs.lemmas.Option.{same_Some}
use Rattle.terms.proofs.OptionLemmas.{none_some}
use Rattle.plp_config.specs.declared.config.Config.{Config}
use Rattle.plp_config.specs.declared.moment.TheConstants.{MOST_FRAMES}
use Rattle.site_frame.specs.declared.fault.RecordWhy.{RecordWhy}
use Rattle.site_frame.specs.declared.reading.RecordView.{RecordView}
use Rattle.site_frame.specs.FeedLaws.{TakesOn}
use Rattle.site_frame.specs.FeedStandsFor.{coming_of, came_of, lacks_at, left_of, lacks_of}
use Rattle.site_frame.specs.declared.coming.Coming.{Coming}
use Rattle.site_frame.specs.declared.coming.Coming.TheVariants.{Head, Rest, Whole, Refused, NoRoom, Finished}
use Rattle.plp_receiver.specs.JointStandsFor.{network_of, plp_of, joins_of, due_of}
use Rattle.file_run.specs.Reading.{longest_file}
use Rattle.file_run.specs.Events.{Event, fed, has_ended, gave}
use Rattle.file_run.specs.Steps.{Suffices, FallsShort, Needs, CanBeRead, HasRoom}
use Rattle.file_run.specs.declared.machine.Step.{Step}
use Rattle.file_run.specs.declared.machine.Step.TheVariants.{Read, Give, End}
use Rattle.receive_run.specs.AsMachine.{next_of, reach_of, IsReady, Given, first_of, Shown, Becomes}
use Rattle.receive_run.specs.NextStep.{next_from, left_by}
use Rattle.receive_run.specs.Taking.{expected_by, Awaits}
use Rattle.receive_run.specs.declared.machine.ReceiverMachine.{ReceiverMachine}
use Rattle.receive_run.proofs.StepLemmas.{expects}

-- Nothing is due, no record is misplaced, and bytes are lacking of the only input.
pub record Wants (due : ℕ) (misplaced : Option RecordWhy) (lacks input : ℕ) : Type 0 where
  pub idle : due ≡ 0
  pub none : misplaced ≡ None
  pub some : 0 < lacks
  pub only : input ≡ 0

abbrev pub WantsOf : ReceiverMachine → ℕ → Type 0
WantsOf m input = Wants (due_of m.receiver) m.misplaced (lacks_of m.feed) input

-- what is asked of the next step, which neither gives nor is the end, is asked of reading
wants_if : (P : Step → Type 0) → (P Give → ⊥) → (P End → ⊥) → (due : ℕ) (misplaced : Option RecordWhy) (lacks : ℕ)
    → P (next_from due misplaced lacks) → (due ≡ 0) × (misplaced ≡ None) × (0 < lacks) × P (Read 0 1 lacks)
wants_if P give end (suc due) misplaced lacks p = absurd (give p)
wants_if P give end zero (Some why) lacks p = absurd (end p)
wants_if P give end zero None zero p = absurd (end p)
wants_if P give end zero None (suc lacks) p = (refl, refl, omega arith, p)

pub short : (m : ReceiverMachine) (input count : ℕ) → FallsShort (next_of m) input count → WantsOf m input × (count < 1)
short m input count s =
    let w = wants_if (λ step. FallsShort step input count) (λ e. e) (λ e. e) (due_of m.receiver)
    m.misplaced (lacks_of m.feed) s in
    (record { idle = w.0; none = w.1; some = w.2; only = sym w.3.0 }, w.3.1)

pub needs : (m : ReceiverMachine) (input count : ℕ) → Needs (next_of m) input count → WantsOf m input × (count ≤ 1)
needs m input count s =
    let w = wants_if (λ step. Needs step input count) (λ e. e) (λ e. e) (due_of m.receiver) m.misplaced
    (lacks_of m.feed) s in
    (record { idle = w.0; none = w.1; some = w.2; only = sym w.3.0 }, w.3.1)

pub enough : (m : ReceiverMachine) (input count : ℕ) → Suffices (next_of m) input count → WantsOf m input × (0 < count)
enough m input count s =
    let w = wants_if (λ step. Suffices step input count) (λ e. e) (λ e. e) (due_of m.receiver) m.misplaced
    (lacks_of m.feed) s in
    let k = w.3.1 in (record { idle = w.0; none = w.1; some = w.2; only = sym w.3.0 }, omega (arith, k))

-- a machine that gives has packets that are due
pub some_due : (due : ℕ) (misplaced : Option RecordWhy) (lacks : ℕ) → next_from due misplaced lacks ≡ Give → 0 < due
some_due (suc due) misplaced lacks e = omega arith
some_due zero (Some why) lacks e = absurd (let f : End ≡ Give = e in cc)
some_due zero None zero e = absurd (let f : End ≡ Give = e in cc)
some_due zero None (suc lacks) e = absurd (let f : Read 0 1 (suc lacks) ≡ Give = e in cc)

-- at the end nothing is due, and nothing more is taken
pub none_due : (due : ℕ) (misplaced : Option RecordWhy) (lacks : ℕ) → next_from due misplaced lacks ≡ End → due ≡ 0
none_due (suc due) misplaced lacks e = absurd (let f : Give ≡ End = e in cc)
none_due zero misplaced lacks e = refl

pub none_taken : (due lacks : ℕ) → next_from due None lacks ≡ End → lacks ≡ 0
none_taken (suc due) lacks e = absurd (let f : Give ≡ End = e in cc)
none_taken zero zero e = refl
none_taken zero (suc lacks) e = absurd (let f : Read 0 1 (suc lacks) ≡ End = e in cc)

-- how far the input may have been read
pub near_left : (due left : ℕ) → left_by due left ≤ left
near_left zero left = omega arith
near_left (suc due) left = omega arith

pub none_left : (due left : ℕ) → 0 < due → left_by due left ≡ 0
none_left zero left some = absurd (omega (arith, some))
none_left (suc due) left some = refl

pub all_left : (due left : ℕ) → due ≡ 0 → left_by due left ≡ left
all_left zero left none = refl
all_left (suc due) left none = absurd (omega (arith, none))

-- giving brings it no nearer
pub near_given : (came due later left : ℕ) → 0 < due → came + left_by due left ≤ came + left_by later left
near_given came due later left some = let none = none_left due left some in omega (arith, none)

pub lacks_left : (coming : Coming) (left : ℕ) → lacks_at coming left ≤ left
lacks_left Head left = omega arith
lacks_left Rest left = omega arith
lacks_left Whole left = omega arith
lacks_left (Refused why) left = omega arith
lacks_left NoRoom left = omega arith
lacks_left Finished left = omega arith

-- what was fed fits
pub fits : (m : ReceiverMachine) (input count : ℕ) → HasRoom Becomes m input count → input ≡ 0
    → came_of m.feed + count ≤ longest_file
fits m input count room one =
    let few : length (fed 0 room.events) + count ≤ longest_file =
    subst (λ (k : ℕ). length (fed k room.events) + count ≤ longest_file) one room.few in
    let p = room.came.shown.feed.size in omega (arith, few, p)

-- a machine that wants bytes is ready for a record
ready_by : (joins : Option ℕ) (c : Config) (plp : ℕ) (m : ReceiverMachine) (events : List Event) (count : ℕ)
    → due_of m.receiver ≡ 0
    → (s : Shown joins c plp m events) → count ≡ length s.views → IsReady m.receiver m.first count
ready_by joins c plp m events count idle s number = record {
  none = idle;
  awaits = subst (Awaits m.receiver) (sym (expects joins c plp m events s count number)) (awaits s.views s.given);
  few = (let a = s.successive.small in omega (arith, number, a));
  fits = λ n is. within s.views s.first_is number s.successive.small n is;
}
  where
    awaits : (views : List RecordView) → Given joins c plp m.receiver s.first views m.slots (gave events)
        → Awaits m.receiver (expected_by (first_of s.first views) (length views))
    awaits [] g = g.0
    awaits (v ∷ vs) g = g.frame

    within : (views : List RecordView) → m.first ≡ first_of s.first views → count ≡ length views
        → s.first + length views ≤ MOST_FRAMES → (n : ℕ) → m.first ≡ Some n → n + count ≤ MOST_FRAMES
    within [] first number small n is = none_some n (sym first ∙ is)
    within (v ∷ vs) first number small n is =
        let e = same_Some s.first n (sym first ∙ is) in omega (arith, e, number, small)

pub is_ready : (m : ReceiverMachine) (input given count : ℕ) → HasRoom Becomes m input given → due_of m.receiver ≡ 0
    → count ≡ m.feed.count → IsReady m.receiver m.first count
is_ready m input given count room idle same =
    ready_by (joins_of room.start.receiver) (network_of room.start.receiver) (plp_of room.start.receiver)
    m room.events count idle room.came.shown
    (same ∙ room.came.shown.feed.number)

-- what is wanted can be read
pub can_be_read : TakesOn → (start m : ReceiverMachine) (events : List Event) (lacks : ℕ) → Becomes start events m
    → due_of m.receiver ≡ 0 → lacks ≡ lacks_of m.feed → 0 < lacks → CanBeRead 1 events (reach_of m) 0 1 lacks
can_be_read takes start m events lacks b idle is some =
    let s = b.shown in
    let size = s.feed.size in
    let near = all_left (due_of m.receiver) (left_of m.feed) idle in
    let few = lacks_left (coming_of m.feed) (left_of m.feed) in
    record {
      place = omega arith;
      is_open = (takes m.feed s.views (fed 0 events) (has_ended 0 events) s.feed (omega (arith, is, some))).1;
      some = omega arith;
      few = omega arith;
      order = omega (arith, some);
      near = omega (arith, size, near, few, is);
    }
