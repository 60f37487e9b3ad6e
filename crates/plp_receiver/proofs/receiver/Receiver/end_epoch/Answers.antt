use Rattle.std.proofs.Common.{◌∙◌, ap, sym}
use Rattle.plp_config.specs.Plps.{plp_at}
use Rattle.plp_config.specs.declared.config.Config.{Config}
use Rattle.plp_receiver.proofs.HeldLemmas.{epoch_told}
use Rattle.plp_receiver.proofs.receiver.Receiver.end_epoch.Goals as goal

pub returns-then-is_there-clause-ends : goal.returns-then-is_there-clause-ends
returns-then-is_there-clause-ends c = λ parts b h.
    let v = c.args.self.now in
    epoch_told v.network v.plp c.deletes-deletes.result v.held v.slots c.take_epoch.new.slots
    (sym c.is_there.ensures ∙ c.if-is_there.true)
    (c.deletes-deletes.ensures ∙ ap (λ (d : Config). (plp_at d.plps v.plp).delete) c.plan.ensures)
    c.take_epoch.ensures.takes
    parts b h
