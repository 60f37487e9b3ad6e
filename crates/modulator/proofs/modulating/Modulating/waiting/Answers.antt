use Rattle.std.proofs.Common.{◌≡◌, ◌∙◌, false, ap, sym}
use Rattle.std.specs.Prelude.{is_some}
use Rattle.modulator.specs.Modulating.{has_record}
use Rattle.modulator.proofs.StandsLemmas.{some_from, none_from, comes_next, all_given}
use Rattle.modulator.proofs.modulating.Modulating.waiting.Goals as goal

pub returns-clause-some : goal.returns-clause-some
returns-clause-some c = some_from c.waiting.result _ (λ w e bytes given group h gs.
    comes_next c.due_law.ensures c.front_law.ensures c.args.self.now bytes given w group
    (λ off. c.is_ready-ready.ensures.none (c.is_ready-ready.ensures.is ∙ off)) (sym c.waiting.ensures ∙ e) h gs)

pub returns-clause-none : goal.returns-clause-none
returns-clause-none c = none_from c.waiting.result _ (λ e bytes given h.
    let m = c.args.self.now in
    let w : has_record m ≡ false = ap is_some (sym c.waiting.ensures ∙ e) in
    all_given c.due_law.ensures m bytes given
    (c.is_ready-ready.ensures.none (c.is_ready-ready.ensures.is ∙ c.requires.settled.done w)) c.requires.settled w h)
