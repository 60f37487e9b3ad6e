use Rattle.mend_run.proofs.PassLemmas.{pass_row, left_passed, of_passed}
use Rattle.mend_run.proofs.row.pass_next.Goals as goal

pub returns-clause-passes : goal.returns-clause-passes
returns-clause-passes c = λ k count done gone come known.
    pass_row k count c.args.number c.args.silent c.args.feeds.now c.pass_all.new.feeds done gone come
    c.look_all.ensures c.pass_all.ensures
    known

pub returns-clause-left : goal.returns-clause-left
returns-clause-left c =
    left_passed c.args.number c.args.silent c.args.feeds.now c.pass_all.new.feeds c.pass_all.ensures

pub returns-clause-of : goal.returns-clause-of
returns-clause-of c = of_passed c.args.number c.args.silent c.args.feeds.now c.pass_all.new.feeds c.pass_all.ensures
