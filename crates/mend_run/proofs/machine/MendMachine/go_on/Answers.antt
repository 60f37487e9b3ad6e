use Rattle.std.proofs.Common.{◌≡◌, ◌<◌, true, false, List, length, Some, None, refl, ap, sym, ◌∙◌, arith}
use Rattle.feed_events.specs.declared.course.Head.TheVariants as head
use Rattle.mended_frames.specs.Heads.{head_at, least_head, is_passed}
use Rattle.mended_frames.specs.Mended.{low_of}
use Rattle.mended_frames.specs.StandsFor.{Feed}
use Rattle.mend_run.specs.AsMachine.{step_in}
use Rattle.mend_run.specs.declared.phase.Phase.{Phase}
use Rattle.mend_run.specs.declared.phase.Phase.TheVariants as phase
use Rattle.mend_run.proofs.ShownLemmas.{at_place, shown_passes}
use Rattle.mend_run.proofs.StepLemmas.{all_over, early_at, gives_known, least_at, low_next, passes_at, silent_next}
use Rattle.mend_run.proofs.StepLemmas.{step_left}
use Rattle.mend_run.proofs.machine.MendMachine.go_on.Goals as goal

pub make-requires-clause-early : goal.make-requires-clause-early
make-requires-clause-early c =
    let feeds : List Feed = c.args.self.now.feeds.items in
    let least : least_head (length feeds) (head_at feeds) ≡ Some c.in-Some.number =
    rw c.deref.ensures.value at (sym c.least_number.ensures ∙ c.in-Some.is) in
    early_at feeds c.in-Some.number (least_at feeds (length feeds) c.in-Some.number least)

pub returns-then-number-self-clause-shown : goal.returns-then-number-self-clause-shown
returns-then-number-self-clause-shown c = λ k count done came.
    let m = c.args.self.now in
    let feeds : List Feed = m.feeds.items in
    let n = c.in-Some.number in
    let known = gives_known feeds (sym (ap (λ (p : Phase). step_in p feeds) c.requires.looks) ∙ c.requires.gives) in
    let s = at_place k count done m phase.Looks c.requires.looks came in
    let least : least_head (length feeds) (head_at feeds) ≡ Some n =
    rw c.deref.ensures.value at (sym c.least_number.ensures ∙ c.in-Some.is) in
    let least_count = rw s.come.count at least in
    let low_is = s.low in
    let low : n < low_of s.past = omega (arith, low_is, c.if-number-self.true) in
    c.pass.ensures.shown k count done
    (shown_passes k count done m m (Some n) false s refl refl s.mends refl refl known
    (λ xs ys all. low_next k count feeds done s.gone s.come known s.past xs ys all n least_count low))

pub returns-then-number-self-clause-left : goal.returns-then-number-self-clause-left
returns-then-number-self-clause-left c =
    let m = c.args.self.now in
    let feeds : List Feed = m.feeds.items in
    let n = c.in-Some.number in
    let least : least_head (length feeds) (head_at feeds) ≡ Some n =
    rw c.deref.ensures.value at (sym c.least_number.ensures ∙ c.in-Some.is) in
    step_left m c.pass.new.self c.requires.looks c.pass.ensures.phase
    (c.pass.ensures.left (passes_at feeds n false (least_at feeds (length feeds) n least)))

pub returns-else-number-self-clause-shown : goal.returns-else-number-self-clause-shown
returns-else-number-self-clause-shown c = λ k count done came.
    let m = c.args.self.now in
    let feeds : List Feed = m.feeds.items in
    let n = c.in-Some.number in
    let known = gives_known feeds (sym (ap (λ (p : Phase). step_in p feeds) c.requires.looks) ∙ c.requires.gives) in
    let least : least_head (length feeds) (head_at feeds) ≡ Some n =
    rw c.deref.ensures.value at (sym c.least_number.ensures ∙ c.in-Some.is) in
    c.make.ensures.shown k count done came known least (omega (arith, c.if-number-self.false))

pub returns-else-number-self-clause-left : goal.returns-else-number-self-clause-left
returns-else-number-self-clause-left c =
    let m = c.args.self.now in
    let feeds : List Feed = m.feeds.items in
    let n = c.in-Some.number in
    let least : least_head (length feeds) (head_at feeds) ≡ Some n =
    rw c.deref.ensures.value at (sym c.least_number.ensures ∙ c.in-Some.is) in
    c.make.ensures.left (passes_at feeds n true (least_at feeds (length feeds) n least))

pub returns-then-is_silent-clause-shown : goal.returns-then-is_silent-clause-shown
returns-then-is_silent-clause-shown c = λ k count done came.
    let m = c.args.self.now in
    let feeds : List Feed = m.feeds.items in
    let known = gives_known feeds (sym (ap (λ (p : Phase). step_in p feeds) c.requires.looks) ∙ c.requires.gives) in
    let s = at_place k count done m phase.Looks c.requires.looks came in
    let least : least_head (length feeds) (head_at feeds) ≡ None =
    rw c.deref.ensures.value at (sym c.least_number.ensures ∙ c.in-None.is) in
    let least_count = rw s.come.count at least in
    let value = c.deref-in-None.ensures.value in
    let y = c.is_silent.ensures.«yes» c.if-is_silent.true in
    let there : head_at feeds y.0 ≡ head.Silent = rw value at y.2 in
    let inside = rw value at y.1 in
    let all_count = s.come.count in
    c.pass-then-is_silent.ensures.shown k count done
    (shown_passes k count done m m None true s refl refl s.mends refl refl known
    (λ xs ys all. silent_next k count feeds done s.gone s.come known s.past xs ys all y.0
    (omega (arith, inside, all_count)) there
    least_count))

pub returns-then-is_silent-clause-left : goal.returns-then-is_silent-clause-left
returns-then-is_silent-clause-left c =
    let m = c.args.self.now in
    let feeds : List Feed = m.feeds.items in
    let value = c.deref-in-None.ensures.value in
    let y = c.is_silent.ensures.«yes» c.if-is_silent.true in
    step_left m c.pass-then-is_silent.new.self c.requires.looks c.pass-then-is_silent.ensures.phase
    (c.pass-then-is_silent.ensures.left (record {
      input = y.0;
      inside = rw value at y.1;
      passed = ap (is_passed None true) (rw value at y.2);
    }))

pub returns-else-is_silent-clause-shown : goal.returns-else-is_silent-clause-shown
returns-else-is_silent-clause-shown c = λ k count done came.
    let m = c.args.self.now in
    let feeds : List Feed = m.feeds.items in
    let known = gives_known feeds (sym (ap (λ (p : Phase). step_in p feeds) c.requires.looks) ∙ c.requires.gives) in
    let s = at_place k count done m phase.Looks c.requires.looks came in
    let least : least_head (length feeds) (head_at feeds) ≡ None =
    rw c.deref.ensures.value at (sym c.least_number.ensures ∙ c.in-None.is) in
    c.finish.ensures.shown k count done came
    (all_over feeds count known (rw s.come.count at least)
    (λ i e. c.is_silent.ensures.«no» c.if-is_silent.false i (rw c.deref-in-None.ensures.value e)))
