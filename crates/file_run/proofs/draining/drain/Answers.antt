use Rattle.std.proofs.Common.{refl, sym, ◌∙◌, inl, inr, arith}
use Rattle.std.proofs.lemmas.Result.{on_ok_weaker, on_err_weaker, err_from_is_err_and}
use Rattle.file_run.proofs.DrainLemmas.{drained_none, drained_some, drained_more, drained_all, drained_short}
use Rattle.file_run.proofs.DrainLemmas.{gave_first, waits_first}
use Rattle.file_run.proofs.draining.drain.Goals as goal

pub loop-desk-init : goal.loop-desk-init
loop-desk-init g c = record {
  part = drained_none c.appends_law.ensures.none _ _ _ _ _ c.requires.nothing;
  first = inl (refl, c.requires.nothing);
  reach = λ other. omega arith;
  counts = refl;
}

pub loop-desk-preserved : goal.loop-desk-preserved
loop-desk-preserved g c = record {
  part = drained_more _ _ _ _ _ _ _ _ _
      (drained_some c.appends_law.ensures.then _ _ _ _ _ _ _ _ _ c.loop-desk.invariant.part
      c.in_ok-make_room.ensures.ok)
      c.take_from.ensures.gathers;
  first = inr (gave_first _ c.loop-desk.machine _ g.M.Machine.next c.loop-desk.invariant.first
      (sym c.step.ensures.next ∙ c.in-Give.is));
  reach = λ other. let u = c.take_from.ensures.reach other in let v = c.loop-desk.invariant.reach other in
      omega (arith, u, v);
  counts = c.in_ok-make_room.ensures.counts.ok ∙ c.loop-desk.invariant.counts;
}

pub returns-in_err-make_room-clause-err : goal.returns-in_err-make_room-clause-err
returns-in_err-make_room-clause-err g c =
    let p = err_from_is_err_and c.from_residual.result c.from_residual.ensures.1 in
    rw p.1 (drained_short c.appends_law.ensures.then _ _ _ _ _ _ _ _ c.loop-desk.invariant.part
    c.in_err-make_room.ensures.err)

pub returns-in_err-make_room-clause-gives : goal.returns-in_err-make_room-clause-gives
returns-in_err-make_room-clause-gives g c =
    let p = err_from_is_err_and c.from_residual.result c.from_residual.ensures.1 in
    rw p.1 (gave_first _ c.loop-desk.machine _ g.M.Machine.next c.loop-desk.invariant.first
    (sym c.step.ensures.next ∙ c.in-Give.is))

pub returns-clause-ok : goal.returns-clause-ok
returns-clause-ok g c =
    on_ok_weaker c.flush.result (λ a. drained_all c.appends_law.ensures.then _ _ _ _ _ _ _ _ c.loop-desk.invariant.part
    a)
    c.flush.ensures.ok

pub returns-clause-err : goal.returns-clause-err
returns-clause-err g c =
    on_err_weaker c.flush.result (λ a. drained_short c.appends_law.ensures.then _ _ _ _ _ _ _ _
    c.loop-desk.invariant.part a)
    c.flush.ensures.err

pub returns-clause-gives : goal.returns-clause-gives
returns-clause-gives g c =
    on_err_weaker c.flush.result
    (λ a. waits_first _ c.loop-desk.machine _ a.front a.more g.M.Machine.next c.loop-desk.invariant.first
    a.parts a.some)
    c.flush.ensures.err

pub returns-clause-dry : goal.returns-clause-dry
returns-clause-dry g c = on_ok_weaker c.flush.result (λ a e. c.in_default.not-Give (c.step.ensures.next ∙ e))
    c.flush.ensures.ok
