use Rattle.std.proofs.Common.{◌∙◌, ap, sym}
use Rattle.compare_run.specs.Taking.{side_at}
use Rattle.compare_run.proofs.TakeLemmas.{differ_whole}
use Rattle.compare_run.proofs.taking.answer_at.Goals as goal

pub returns-clause-others : goal.returns-clause-others
returns-clause-others c = λ same_a same_b ga gb stands a b on.
    let first = c.side_at-first.ensures ∙ ap (side_at c.args.number) c.waiting.ensures in
    let second = c.side_at-second.ensures ∙ ap (side_at c.args.number) c.waiting-2.ensures in
    let whole = differ_whole _ _ _ _ (sym c.unwrap.ensures ∙ c.answer_by.ensures) on in
    (c.place_at-place.ensures same_a same_b ga gb stands a b (sym first ∙ whole.0) (sym second ∙ whole.1)).1
