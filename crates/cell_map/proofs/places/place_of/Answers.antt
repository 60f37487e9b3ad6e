use Rattle.std.proofs.Common.{ℕ, ◌+◌, ◌*◌, ◌∙◌, ap}
use Rattle.cell_map.proofs.ShareLemmas.{alone_at, nowhere, place_law}
use Rattle.cell_map.proofs.places.place_of.Goals as goal

pub locate-requires-clause-apart : goal.locate-requires-clause-apart
locate-requires-clause-apart c =
    alone_at c.args.plan.now c.args.shape.now c.args.plp c.plp_in_frame-it.result.slices c.from.result
    c.plp_in_frame-it.ensures.plan c.requires.passes c.requires.plp c.plp_in_frame-it.ensures.slices
    (c.from.ensures ∙ c.interval.ensures)

pub returns-in-None-clause-none : goal.returns-in-None-clause-none
returns-in-None-clause-none c =
    nowhere c.args.plan.now c.args.shape.now c.args.frame_idx c.args.plp c.plp_in_frame-it.result.slices c.from.result
    c.args.address
    c.from-2.result c.plp_in_frame-it.ensures.plan c.plp_in_frame-it.ensures.slices
    (c.from.ensures ∙ c.interval.ensures) c.from-2.ensures c.in-None.ensures.none

pub returns-in-Some-clause-some : goal.returns-in-Some-clause-some
returns-in-Some-clause-some c =
    let some = c.in-Some.ensures.some in
    let it = c.plp_in_frame-it.ensures.row in
    place_law c.args.plan.now c.args.shape.now c.args.frame_idx c.args.plp c.plp_in_frame-it.result.slices c.from.result
    c.args.address
    c.from-2.result c.in-Some.slice c.in-Some.inner c.place_at.result c.plp_in_frame-it.result.count
    c.plp_in_frame-it.ensures.count c.plp_in_frame-it.ensures.plan c.requires.plp c.plp_in_frame-it.ensures.slices
    (c.from.ensures ∙ c.interval.ensures) c.from-2.ensures
    some.0 some.1 some.2 c.place_at.ensures.block (rw it.cells at c.place_at.ensures.cell)
    (rw (it.cells, it.interleave) at c.place_at.ensures.value
    ∙ ap (λ (n : ℕ). n + (c.in-Some.slice * c.plp_in_frame-it.result.slices.len + c.in-Some.inner))
    c.first_position.ensures.value)
