use Rattle.std.proofs.Common.{sym, ◌∙◌}
use Rattle.std.specs.Option.{option_copied}
use Rattle.compare_run.specs.TallyStandsFor.{lists_in}
use Rattle.compare_run.proofs.CarriedLemmas.{noted_here, noted_before}
use Rattle.compare_run.proofs.answering.noted.Goals as goal

pub returns-then-begin-number : goal.returns-then-begin-number
returns-then-begin-number c = λ ga gb was a b na nb.
    noted_here c.args.plan.now c.args.plp c.args.number ga gb (lists_in (option_copied c.args.a))
    (lists_in (option_copied c.args.b))
    c.first_other.result c.requires.inside (sym c.begin_of-begin.ensures ∙ c.if-begin-number.true) c.first_other.ensures
    a b

pub returns : goal.returns
returns c = λ ga gb was a b na nb.
    noted_before c.interleaving_law.ensures.first c.interleaving_law.ensures.last c.args.plan.now c.args.plp
    c.args.next c.args.number
    c.begin_of-begin.result ga gb c.args.before c.rules_law.ensures.plan.rules c.requires.inside
    (sym c.begin_of-begin.ensures)
    c.if-begin-next.false c.requires.forward was
