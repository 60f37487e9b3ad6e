use Rattle.std.proofs.Common.{rules, refl, ◌∙◌}
use Rattle.std.proofs.lemmas.List.{take_rest}
use Rattle.std.proofs.lemmas.Result.{err_from_is_err_and}
use Rattle.file_run.proofs.WriteLemmas.{more_written, front_written, appends_none}
use Rattle.file_run.proofs.writing.write_all.Goals as goal

pub returns-in_err-done-clause-err : goal.returns-in_err-done-clause-err
returns-in_err-done-clause-err g c =
    let p = err_from_is_err_and c.from_residual.result c.from_residual.ensures.1 in
    rw p.1 (front_written _ _ _ _ c.args.piece.now c.loop-done.done c.loop-done-test.true c.loop-done.invariant.front
    c.in_err-done.ensures.err)

pub loop-done-preserved : goal.loop-done-preserved
loop-done-preserved g c = record {
  within = search rules;
  front = more_written _ _ _ _ _ _ _ c.loop-done.invariant.front (rw take_rest at c.in_ok-done.ensures.ok);
  counts = c.in_ok-done.ensures.counts.ok ∙ c.loop-done.invariant.counts;
}

pub loop-done-init : goal.loop-done-init
loop-done-init g c = record { within = search rules; front = appends_none _ _; counts = refl }
