use Rattle.std.proofs.Common.{◌≤◌, arith}
use Rattle.std.specs.Prelude.{slice_index}
use Rattle.plp_config.specs.Plps.{plp_at}
use Rattle.cell_map.proofs.MeetingLemmas.{never_law}
use Rattle.cell_map.proofs.ShareLemmas.{beyond_law, beyond_empty}
use Rattle.cell_map.proofs.faults.is_beyond.Goals as goal

pub returns-then-it-eq0 : goal.returns-then-it-eq0
returns-then-it-eq0 c =
    let it = c.plp_in_frame-it in
    let few : slice_index c.args.shape.now.counts c.args.plp ≤ (plp_at c.args.plan.now.plps c.args.plp).blocks =
    omega (arith, c.plp_in_frame-it.ensures.row.blocks, c.plp_in_frame-it.ensures.count, c.if-it.false) in
    never_law
    (beyond_empty c.args.plan.now c.args.shape.now c.args.plp c.plp_in_frame-it.result.slices
    c.plp_in_frame-it.ensures.plan
    few c.plp_in_frame-it.ensures.slices c.if-it-eq0.true)

pub returns : goal.returns
returns c =
    let few : slice_index c.args.shape.now.counts c.args.plp ≤ (plp_at c.args.plan.now.plps c.args.plp).blocks =
    omega (arith, c.plp_in_frame-it.ensures.row.blocks, c.plp_in_frame-it.ensures.count, c.if-it.false) in
    rw (c.from.ensures, c.interval.ensures, c.from-2.ensures, c.config.ensures.value)
    (beyond_law c.args.plan.now c.args.shape.now c.args.plp c.plp_in_frame-it.result.slices
    c.plp_in_frame-it.ensures.plan
    c.requires.plp few c.plp_in_frame-it.ensures.slices c.plp_in_frame-it.ensures.some c.if-it-eq0.false)
