use Rattle.std.proofs.Common.{◌≡◌, ℕ, length, ap, sym, subst, refl, ◌∙◌}
use Rattle.file_run.specs.Events.{fed, has_ended}
use Rattle.file_run.specs.TellingOn.{Telling}
use Rattle.file_run.specs.declared.stop.RunFault.TheVariants.{TooLong, ReadFault, WriteFault}
use Rattle.file_run.proofs.OpenLemmas.{reads_fail}
use Rattle.file_run.proofs.TellLemmas.{telling_fed, telling_read, place_within, is_zero, needs, falls_short}
use Rattle.file_run.proofs.RunningLemmas.{came_fed}
use Rattle.file_run.proofs.telling.tell_on.Goals as goal

pub returns-in-Err-clause-err : goal.returns-in-Err-clause-err
returns-in-Err-clause-err g c = λ begin start name t. let lost = c.in-Err.ensures.err begin start name
    c.args.reader.now t in
    (lost.0, lost.1, (λ other. absurd (other refl)), λ same. lost.2)

pub feed-requires-clause-within : goal.feed-requires-clause-within
feed-requires-clause-within g c =
    let b = c.requires.begun in
    let t = c.loop-input.invariant.telling b.begin b.start b.name b.telling in
    let w = c.in-Read.ensures.wanted b.begin t.events t.came in
    (w.order, w.few, w.some)

pub feed-requires-clause-opened : goal.feed-requires-clause-opened
feed-requires-clause-opened g c =
    let b = c.requires.begun in
    place_within _ g.M.Machine.next _ _ _ _ _ _ (c.loop-input.invariant.telling b.begin b.start b.name b.telling)

pub feed-requires-clause-going : goal.feed-requires-clause-going
feed-requires-clause-going g c =
    let b = c.requires.begun in
    let t = c.loop-input.invariant.telling b.begin b.start b.name b.telling in
    let w = c.in-Read.ensures.wanted b.begin t.events t.came in
    t.goes_on (t.ended ∙ ap (λ (k : ℕ). has_ended k t.events) (sym (is_zero _ _ w.place b.one)) ∙ w.is_open)

pub feed-requires-clause-reader : goal.feed-requires-clause-reader
feed-requires-clause-reader g c =
    let b = c.requires.begun in
    let t = c.loop-input.invariant.telling b.begin b.start b.name b.telling in
    let w = c.in-Read.ensures.wanted b.begin t.events t.came in
    record {
      start = b.begin;
      events = t.events;
      came = t.came;
      taken = subst (λ (k : ℕ). c.loop-input.reader.taken ≡ length (fed k t.events)) (sym (is_zero _ _ w.place b.one))
          t.taken;
    }

pub feed-requires-clause-is_open : goal.feed-requires-clause-is_open
feed-requires-clause-is_open g c =
    let b = c.requires.begun in
    let t = c.loop-input.invariant.telling b.begin b.start b.name b.telling in
    let w = c.in-Read.ensures.wanted b.begin t.events t.came in
    t.ended ∙ ap (λ (k : ℕ). has_ended k t.events) (sym (is_zero _ _ w.place b.one)) ∙ w.is_open

pub returns-in-Err-TooLong-clause-err : goal.returns-in-Err-TooLong-clause-err
returns-in-Err-TooLong-clause-err g c = λ begin start name t.
    let n = c.in-Err-TooLong.ensures in (
      _,
      subst (λ (m : g.row.M.Denot). Telling (g.M.Machine.Becomes begin) g.M.Machine.next start
          (g.D.Desk.state c.feed.new.desk) name m c.feed.new.reader c.loop-input.page) (sym n.machine)
          (telling_read _ g.M.Machine.next _ start _ _ name _ _ _ n.reads n.none n.goes_on
          (c.loop-input.invariant.telling begin start name t)),
      (λ other. refl),
      λ same. absurd (let e : TooLong 0 ≡ WriteFault = same in cc),
    )

pub returns-in-Err-TooLong-clause-cause : goal.returns-in-Err-TooLong-clause-cause
returns-in-Err-TooLong-clause-cause g c =
    let b = c.requires.begun in
    let t = c.loop-input.invariant.telling b.begin b.start b.name b.telling in
    let w = c.in-Read.ensures.wanted b.begin t.events t.came in
    let n = c.in-Err-TooLong.ensures in
    let why = rw c.in-Err-TooLong.field-0-is at n.err in (
      refl,
      why.0,
      needs g.M.Machine.next _ _ c.feed.new.reader _ _ _ n.machine (sym c.step.ensures.next ∙ c.in-Read.is)
          (is_zero _ _ w.place b.one) why.1,
      why.2 ∙ c.loop-input.invariant.counts,
    )

pub returns-in-Err-Fault-clause-err : goal.returns-in-Err-Fault-clause-err
returns-in-Err-Fault-clause-err g c = λ begin start name t.
    let n = c.in-Err-Fault.ensures in (
      _,
      subst (λ (m : g.row.M.Denot). Telling (g.M.Machine.Becomes begin) g.M.Machine.next start
          (g.D.Desk.state c.feed.new.desk) name m c.feed.new.reader c.loop-input.page) (sym n.machine)
          (telling_read _ g.M.Machine.next _ start _ _ name _ _ _ n.reads n.none n.goes_on
          (c.loop-input.invariant.telling begin start name t)),
      (λ other. refl),
      λ same. absurd (let e : ReadFault 0 ≡ WriteFault = same in cc),
    )

pub returns-in-Err-Fault-clause-cause : goal.returns-in-Err-Fault-clause-cause
returns-in-Err-Fault-clause-cause g c =
    let b = c.requires.begun in
    let t = c.loop-input.invariant.telling b.begin b.start b.name b.telling in
    let w = c.in-Read.ensures.wanted b.begin t.events t.came in
    let n = c.in-Err-Fault.ensures in
    let why = rw c.in-Err-Fault.field-0-is at n.err in (
      refl,
      why.0,
      falls_short g.M.Machine.next _ _ c.feed.new.reader _ _ _ n.machine (sym c.step.ensures.next ∙ c.in-Read.is)
          (is_zero _ _ w.place b.one) why.1,
      reads_fail _ _ _ c.loop-input.invariant.counts why.2,
    )

pub loop-input-preserved : goal.loop-input-preserved
loop-input-preserved g c = record {
  telling = λ begin start name t.
      let told = c.loop-input.invariant.telling begin start name t in
      let b = c.requires.begun in
      let u = c.loop-input.invariant.telling b.begin b.start b.name b.telling in
      let w = c.in-Read.ensures.wanted b.begin u.events u.came in
      c.in-Ok-gather.ensures.ok begin start name _
      (telling_fed g.M.Machine.Becomes g.M.Machine.next begin _ _ start _ _ name _ _ _ _
      (is_zero _ _ w.place b.one) c.feed.ensures.reads c.in-Ok-feed.ensures.feeds told);
  counts = c.in-Ok-gather.ensures.counts.ok ∙ c.in-Ok-feed.ensures.counts ∙ c.loop-input.invariant.counts;
  short = c.in-Ok-feed.ensures.short;
  dry = c.in-Ok-gather.ensures.dry;
}

pub returns-in-Err-gather-clause-err : goal.returns-in-Err-gather-clause-err
returns-in-Err-gather-clause-err g c = λ begin start name t.
    let told = c.loop-input.invariant.telling begin start name t in
    let b = c.requires.begun in
    let u = c.loop-input.invariant.telling b.begin b.start b.name b.telling in
    let w = c.in-Read.ensures.wanted b.begin u.events u.came in
    let lost =
    c.in-Err-gather.ensures.err begin start name _
    (telling_fed g.M.Machine.Becomes g.M.Machine.next begin _ _ start _ _ name _ _ _ _
    (is_zero _ _ w.place b.one) c.feed.ensures.reads c.in-Ok-feed.ensures.feeds told) in
    (lost.0, lost.1, (λ other. absurd (other refl)), λ same. lost.2)

pub gather-requires-in-Read : goal.gather-requires-in-Read
gather-requires-in-Read g c =
    let b = c.requires.begun in
    let t = c.loop-input.invariant.telling b.begin b.start b.name b.telling in
    record {
      came = came_fed _ _ _ _ _ _ _ _ (record { start = b.begin; events = t.events; came = t.came })
          c.in-Ok-feed.ensures.feeds;
    }
