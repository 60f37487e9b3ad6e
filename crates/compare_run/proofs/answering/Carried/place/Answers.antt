use Rattle.std.proofs.Common.{◌∙◌, sym, ap, List, Option, None, slice_index_or}
use Rattle.compare_run.specs.Comparing.{block_place}
use Rattle.compare_run.specs.declared.answer.Other.{Other}
use Rattle.compare_run.proofs.CarriedLemmas.{l1_differs, block_differs, are_others}
use Rattle.compare_run.proofs.answering.Carried.place.Goals as goal

pub returns-then-not-same : goal.returns-then-not-same
returns-then-not-same c = λ n ga gb stands ra rb da db.
    l1_differs c.args.plan.now n ga gb c.args.a.now c.args.b.now da db (sym c.if-not-same.ensures)

pub returns : goal.returns
returns c = λ n ga gb stands ra rb da db.
    c.block_place.ensures
    ∙ ap (λ (l : List (Option Other)). block_place c.args.plan.now (λ plp. slice_index_or l plp None))
    c.as_slice.ensures.value
    ∙ block_differs c.args.plan.now n ga gb c.args.a.now c.args.b.now da db (sym c.if-not-same.ensures) c.args.self.now
    (are_others c.args.plan.now n ga gb c.args.self.now stands ra rb)
