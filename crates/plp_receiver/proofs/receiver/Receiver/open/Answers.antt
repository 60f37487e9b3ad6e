use Rattle.std.proofs.Common.{subst, sym}
use Rattle.plp_config.specs.declared.config.Config.{Config}
use Rattle.plp_receiver.specs.StandsFor.{IsFresh, Fresh}
use Rattle.plp_receiver.proofs.receiver.Receiver.open.Goals as goal

pub returns-clause-fresh : goal.returns-clause-fresh
unfolding IsFresh
returns-clause-fresh c =
    subst (λ (d : Config). Fresh d c.args.plp c.in_ok-open_slots.field-0 c.in_ok-open-4.field-0)
    (sym c.in_ok-open.ensures)
    (record { fresh = c.in_ok-open_slots.ensures.fresh; none = c.in_ok-open-4.ensures.none })
