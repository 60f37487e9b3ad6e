use Rattle.std.proofs.Common.{Some, None, ap}
use Rattle.mend_run.specs.Row.{wants}
use Rattle.mend_run.proofs.RowLemmas.{waiting_is}
use Rattle.mend_run.proofs.row.next_step.Goals as goal

pub returns-in-Some : goal.returns-in-Some
returns-in-Some c =
    let told = c.in-Some.ensures in
    ap wants (waiting_is c.args.feeds.now (Some c.in-Some.input) told.some told.first told.none)

pub returns-in-None : goal.returns-in-None
returns-in-None c =
    let told = c.in-None.ensures in
    ap wants (waiting_is c.args.feeds.now None told.some told.first told.none)
