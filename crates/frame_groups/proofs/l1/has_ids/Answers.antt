use Rattle.std.proofs.Common.{sym, ◌∙◌, arith}
use Rattle.l1_signal.specs.L1Dynamic.{no_dyn_plp}
use Rattle.frame_groups.proofs.IdLemmas.{ids_same, ids_differ}
use Rattle.frame_groups.proofs.l1.has_ids.Goals as goal

pub returns-then-told_id-plp_id : goal.returns-then-told_id-plp_id
returns-then-told_id-plp_id c =
    sym (ids_differ c.args.dynamic.now.plps c.args.plan.now.plps c.loop-plp.plp c.requires (omega arith)
    (λ e. c.if-told_id-plp_id.true (c.told_id.ensures no_dyn_plp ∙ e ∙ sym c.plp_id.ensures)))

pub returns : goal.returns
returns c =
    sym (ids_same c.args.dynamic.now.plps c.args.plan.now.plps c.requires (λ k l. c.loop-plp.invariant
    k (omega (arith, l))))
