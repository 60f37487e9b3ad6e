use Rattle.std.proofs.Common.{◌≤◌, ◌∙◌, arith}
use Rattle.plp_config.specs.Capacity.{CellAddresses}
use Rattle.cell_map.proofs.FrameLemmas.{computes, computes_single}
use Rattle.cell_map.proofs.places.address_at.Goals as goal

pub overflow_add-result : goal.overflow_add-result
overflow_add-result c =
    let it = c.plp_in_frame-it.ensures in
    let is = computes_single c.args.plan.now c.args.shape.now c.args.frame_idx c.args.plp c.args.block c.args.cell
    c.plp_in_frame-it.result
    c.start-start.result c.args.place it.plan c.requires.passes c.requires.there
    (record { row = it.row; count = it.count; slices = it.slices }) c.start-start.ensures c.requires.place
    c.if-it-eq1.true in
    let few : c.args.plan.now.cells ≤ 4194303 = it.plan.tests CellAddresses in
    omega (arith, is.1, few)

pub returns-then-it-eq1-clause-value : goal.returns-then-it-eq1-clause-value
returns-then-it-eq1-clause-value c =
    let it = c.plp_in_frame-it.ensures in
    (computes_single c.args.plan.now c.args.shape.now c.args.frame_idx c.args.plp c.args.block c.args.cell
    c.plp_in_frame-it.result
    c.start-start.result c.args.place it.plan c.requires.passes c.requires.there
    (record { row = it.row; count = it.count; slices = it.slices }) c.start-start.ensures c.requires.place
    c.if-it-eq1.true).0

pub returns-then-it-eq1-clause-below : goal.returns-then-it-eq1-clause-below
returns-then-it-eq1-clause-below c =
    let it = c.plp_in_frame-it.ensures in
    (computes_single c.args.plan.now c.args.shape.now c.args.frame_idx c.args.plp c.args.block c.args.cell
    c.plp_in_frame-it.result
    c.start-start.result c.args.place it.plan c.requires.passes c.requires.there
    (record { row = it.row; count = it.count; slices = it.slices }) c.start-start.ensures c.requires.place
    c.if-it-eq1.true).1

pub in_slices-requires-clause-some : goal.in_slices-requires-clause-some
in_slices-requires-clause-some c =
    let it = c.plp_in_frame-it.ensures in
    (computes c.args.plan.now c.args.shape.now c.args.frame_idx c.args.plp c.args.block c.args.cell
    c.plp_in_frame-it.result
    c.start-start.result
    c.args.place c.interval.result it.plan c.requires.passes c.requires.there
    (record { row = it.row; count = it.count; slices = it.slices }) c.start-start.ensures c.requires.place
    c.interval.ensures).some

pub in_slices-requires-clause-small : goal.in_slices-requires-clause-small
in_slices-requires-clause-small c =
    let it = c.plp_in_frame-it.ensures in
    let is = computes c.args.plan.now c.args.shape.now c.args.frame_idx c.args.plp c.args.block c.args.cell
    c.plp_in_frame-it.result
    c.start-start.result c.args.place c.interval.result it.plan c.requires.passes c.requires.there
    (record { row = it.row; count = it.count; slices = it.slices }) c.start-start.ensures c.requires.place
    c.interval.ensures in
    let few : c.args.plan.now.cells ≤ 4194303 = it.plan.tests CellAddresses in
    omega (arith, is.below, few)

pub returns-clause-value : goal.returns-clause-value
returns-clause-value c =
    let it = c.plp_in_frame-it.ensures in
    let is = computes c.args.plan.now c.args.shape.now c.args.frame_idx c.args.plp c.args.block c.args.cell
    c.plp_in_frame-it.result
    c.start-start.result c.args.place c.interval.result it.plan c.requires.passes c.requires.there
    (record { row = it.row; count = it.count; slices = it.slices }) c.start-start.ensures c.requires.place
    c.interval.ensures in
    c.in_slices.ensures ∙ is.value

pub returns-clause-below : goal.returns-clause-below
returns-clause-below c =
    let it = c.plp_in_frame-it.ensures in
    let is = computes c.args.plan.now c.args.shape.now c.args.frame_idx c.args.plp c.args.block c.args.cell
    c.plp_in_frame-it.result
    c.start-start.result c.args.place c.interval.result it.plan c.requires.passes c.requires.there
    (record { row = it.row; count = it.count; slices = it.slices }) c.start-start.ensures c.requires.place
    c.interval.ensures in
    omega (arith, c.in_slices.ensures, is.below)
