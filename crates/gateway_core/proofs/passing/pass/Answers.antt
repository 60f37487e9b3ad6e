use Rattle.std.proofs.Common.{◌∙◌, sym}
use Rattle.gateway_core.proofs.PassLemmas.{none_passes}
use Rattle.gateway_core.proofs.passing.pass.Goals as goal

pub returns-then-not-has_held-clause-held : goal.returns-then-not-has_held-clause-held
returns-then-not-has_held-clause-held c =
    none_passes c.args.plan.now c.args.held.now c.args.turn _ (sym c.has_held.ensures ∙ c.if-not-has_held.true)
