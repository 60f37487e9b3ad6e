use Rattle.std.proofs.Common.{[], ◌∷◌, ◌++◌, sym, ◌∙◌}
use Rattle.std.proofs.lemmas.Result.{err_from_is_err_and}
use Rattle.file_run.specs.Events.{Gave}
use Rattle.file_run.proofs.TellLemmas.{page_grown, room_made, telling_kept}
use Rattle.file_run.proofs.telling.gather.Goals as goal

pub loop-desk-preserved : goal.loop-desk-preserved
loop-desk-preserved g c = record {
  telling = λ begin start name r t.
      page_grown g.M.Machine.Becomes g.M.Machine.next begin _ _ start _ name r _ _ c.take_from.ensures.gathers
      c.in_ok-make_room.ensures.room c.take_from.ensures.few (sym c.step.ensures.next ∙ c.in-Give.is)
      (room_made _ g.M.Machine.next _ start _ _ name r _ _ c.in_ok-make_room.ensures.ok
      (c.loop-desk.invariant.telling begin start name r t));
  came =
      let h = c.loop-desk.invariant.came in
      let t = c.take_from.ensures.gathers in
      record { start = h.start; events = h.events ++ Gave t.piece ∷ []; came = t.becomes h.start h.events h.came };
  counts = c.in_ok-make_room.ensures.counts.ok ∙ c.loop-desk.invariant.counts;
}

pub returns-in_err-make_room-clause-err : goal.returns-in_err-make_room-clause-err
returns-in_err-make_room-clause-err g c =
    let p = err_from_is_err_and c.from_residual.result c.from_residual.ensures.1 in
    rw p.1 (λ begin start name r t. (
      _,
      telling_kept _ g.M.Machine.next _ start _ _ name r _ c.in_err-make_room.ensures.err
          (c.loop-desk.invariant.telling begin start name r t),
      c.in_err-make_room.ensures.some,
    ))
