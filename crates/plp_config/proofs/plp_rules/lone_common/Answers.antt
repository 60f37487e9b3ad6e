use Rattle.std.proofs.Common.{below_more}
use Rattle.plp_config.specs.Rules.{PlaceHolds, CommonShared}
use Rattle.plp_config.proofs.plp_rules.lone_common.Goals as goal

pub loop-place-preserved : goal.loop-place-preserved
loop-place-preserved c =
    below_more (PlaceHolds CommonShared c.args.config.now) c.loop-place.place c.loop-place.invariant
    (c.is_shared.ensures.0 c.if-not-is_shared.false)
