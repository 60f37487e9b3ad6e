use Rattle.std.proofs.Common.{◌≡◌, ◌+◌, ◌*◌, true, arith, ap, sym, ◌∙◌}
use Rattle.plp_config.specs.InterleavingFrames.{is_first}
use Rattle.plp_config.specs.SlotTime.{slots_by}
use Rattle.plp_config.specs.declared.config.Config.{Config}
use Rattle.gateway_core.specs.IsFed.{Bounds}
use Rattle.gateway_core.proofs.InputsLemmas.{cuts_one, same_most}
use Rattle.gateway_core.proofs.inputs.cut_one.Goals as goal

pub returns-clause-cuts : goal.returns-clause-cuts
returns-clause-cuts c =
    let same : c.from-ticks.result ≡ c.args.plan.now.ticks = c.from-ticks.ensures
    ∙ ap (λ (k : Config). k.ticks) c.config.ensures.value in
    let due : c.slots_by-due.result ≡ slots_by c.args.plan.now c.args.plp ((c.args.frame + 1) * c.args.plan.now.ticks) =
    rw same at c.slots_by-due.ensures.count in
    let on : is_first c.args.plan.now c.args.plp c.args.frame ≡ true = sym c.is_first.ensures
    ∙ c.if-not-is_first.false in
    cuts_one c.args.inputs.now c.args.plp c.index-inputs-plp-2.result c.cut.new.self c.args.plan.now c.args.frame
    c.slots_by-due.result c.args.pool.now c.cut.new.pool c.args.before c.cut.result c.requires.place
    c.config.ensures.plan (omega arith) on due c.cut.ensures.cut c.cut.ensures.few c.cut.ensures.others

pub returns-clause-most : goal.returns-clause-most
returns-clause-most c =
    same_most c.args.inputs.now c.args.plp c.index-inputs-plp-2.result c.cut.new.self c.requires.place
    (ap (λ (b : Bounds). b.most) c.cut.ensures.bounds)
