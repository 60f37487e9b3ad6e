use Rattle.std.proofs.Common.{◌∙◌, sym}
use Rattle.plp_receiver.proofs.SizeLemmas.{begun_is, none_begun}
use Rattle.plp_receiver.proofs.parts.begun_count.Goals as goal

pub returns-then-is_first : goal.returns-then-is_first
returns-then-is_first c =
    begun_is c.args.plan.now c.args.number c.args.shape.now c.args.plp c.count.result c.requires.inside
    (sym c.is_first.ensures ∙ c.if-is_first.true) c.count.ensures

pub returns-else-is_first : goal.returns-else-is_first
returns-else-is_first c =
    none_begun c.args.plan.now c.args.number c.args.shape.now c.args.plp c.requires.inside
    (sym c.is_first.ensures ∙ c.if-is_first.false)
