use Rattle.std.proofs.Common.{◌≤◌, arith}
use Rattle.std.specs.Prelude.{min}
use Rattle.plp_config.specs.Plps.{plp_at}
use Rattle.plp_config.specs.Rules.{BlockLimit, InterleaverLength}
use Rattle.l1_signal.proofs.values.conf_plp_at.Goals as goal

pub conf_plp_of-requires-clause-blocks : goal.conf_plp_of-requires-clause-blocks
conf_plp_of-requires-clause-blocks c =
    rw c.plp_at.ensures.value (c.plp_at.ensures.plan.rules BlockLimit c.args.place c.requires).1

pub conf_plp_of-requires-clause-interleave : goal.conf_plp_of-requires-clause-interleave
conf_plp_of-requires-clause-interleave c =
    let plp = plp_at c.args.plan.now.plps c.args.place in
    let limit : plp.interleave ≤ min plp.blocks 255 = c.plp_at.ensures.plan.rules InterleaverLength c.args.place
    c.requires in
    rw c.plp_at.ensures.value (omega (arith, limit))
