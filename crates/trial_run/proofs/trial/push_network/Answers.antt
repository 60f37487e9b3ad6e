use Rattle.std.proofs.Common.{List, ℕ, ◌++◌, refl, ap, ◌∙◌}
use Rattle.trial_run.proofs.TrialLemmas.{network_text}
use Rattle.trial_run.proofs.trial.push_network.Goals as goal

pub returns-clause-text : goal.returns-clause-text
returns-clause-text c = λ config frames seed made.
    network_text config frames seed c.args.made.now _ _ _ _ _ _ _ _ _ _ c.deref.ensures.value c.deref-2.ensures.value
    c.in_ok-same.ensures c.in_ok-stream_line.ensures.text c.in_ok-whole_line.ensures.text
    c.in_ok-lossy_line.ensures.text (c.push.ensures.text ∙ rw (c.requires, c.as_bytes.ensures) refl)
    (c.push-2.ensures.text ∙ ap (λ (t : List ℕ). c.push.new.self ++ t) c.as_bytes-2.ensures)
    (c.push-3.ensures.text ∙ ap (λ (t : List ℕ). c.push-2.new.self ++ t) c.as_bytes-3.ensures) refl made
