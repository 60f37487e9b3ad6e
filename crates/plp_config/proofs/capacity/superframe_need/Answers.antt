use Rattle.std.proofs.Common.{arith}
use Rattle.std.proofs.lemmas.List.Sums.{sum_by_more}
use Rattle.plp_config.specs.Capacity.{superframe_room}
use Rattle.plp_config.specs.Plps.{no_plp}
use Rattle.plp_config.specs.Rules.{PlpCount}
use Rattle.plp_config.proofs.capacity.superframe_need.Goals as goal

pub overflow_add-need : goal.overflow_add-need
overflow_add-need c = omega (arith, c.requires PlpCount)

pub loop-plp-preserved : goal.loop-plp-preserved
loop-plp-preserved c =
    let more = sum_by_more (superframe_room c.args.config.now.frames) c.args.config.now.plps c.loop-plp.plp
    no_plp (omega arith) in
    record { sum = omega (arith, more); bound = omega arith }

pub returns-clause-small : goal.returns-clause-small
returns-clause-small c = omega (arith, c.requires PlpCount)
