use Rattle.std.proofs.Common.{List, ℕ, Vec, Global, length, map, refl, ap, ◌∙◌}
use Rattle.trial_run.specs.TrialInput.{input_of}
use Rattle.trial_run.proofs.TrialLemmas.{plp_text}
use Rattle.trial_run.proofs.trial.line_of.Goals as goal

pub returns-clause-text : goal.returns-clause-text
returns-clause-text c = λ frames seed made.
    let plan = c.args.plan.now in
    let inputs = ap (λ (l : List (Vec ℕ Global)). map (λ input. input.items) l) c.deref-3.ensures.value ∙ made.inputs in
    plp_text plan frames seed c.args.plp c.args.made.now _ _ c.in_ok-whole.whole.items c.in_ok-lossy.lossy.items
    _ _ _ made
    c.plp_id.ensures (c.input_at.ensures (input_of plan frames seed) (length plan.plps) inputs c.requires.plp)
    c.deref.ensures.value c.deref-2.ensures.value c.in_ok-whole.ensures c.in_ok-lossy.ensures
    (c.in_ok-line.ensures.text ∙ rw (c.deref-4.ensures.value, c.deref-5.ensures.value) refl)
