use Rattle.std.proofs.Common.{arith}
use Rattle.file_run.proofs.OpenLemmas.{none_opened, opened_next, opening_failed}
use Rattle.file_run.proofs.opening.open_files.Goals as goal

pub loop-input-init : goal.loop-input-init
loop-input-init g c = none_opened _

pub returns-in-Err-clause-err : goal.returns-in-Err-clause-err
returns-in-Err-clause-err g c =
    let f = c.open.ensures.counts in
    opening_failed _ _ _ _ c.loop-input.input _ c.in-Err.ensures.err
    (record {
      rose = c.in-Err.ensures.counts.err;
      first = c.in-Err.ensures.counts.first;
      later = f.later;
      others = f.others;
    })
    c.loop-input-test.true c.loop-input.invariant

pub loop-input-preserved : goal.loop-input-preserved
loop-input-preserved g c =
    opened_next _ _ _ c.args.ins.now c.loop-input.readers c.loop-input.input _ c.index-ins-input.result
    _ _ c.loop-input-test.true
    (omega (arith, c.loop-input.auto.readers, c.requires, c.loop-input-test.true)) c.as_str.ensures c.index-ins-input.is
    c.in-Ok.ensures.ok c.in-Ok.ensures.counts.ok c.begin.ensures c.loop-input.invariant
