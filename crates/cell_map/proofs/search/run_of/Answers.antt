use Rattle.std.proofs.Common.{ℕ, refl, ap, ◌∙◌, ◌+◌, ◌-◌, ◌*◌}
use Rattle.cell_map.proofs.ShareLemmas.{alone_at, nowhere}
use Rattle.cell_map.proofs.ReadingLemmas.{begins}
use Rattle.cell_map.proofs.search.run_of.Goals as goal

pub locate-requires-clause-apart : goal.locate-requires-clause-apart
locate-requires-clause-apart c =
    alone_at c.args.plan.now c.args.shape.now c.args.plp c.plp_in_frame-it.result.slices c.from.result
    c.plp_in_frame-it.ensures.plan c.requires.passes c.requires.plp c.plp_in_frame-it.ensures.slices
    (c.from.ensures ∙ c.interval.ensures)

pub returns-in-None-clause-none : goal.returns-in-None-clause-none
returns-in-None-clause-none c =
    nowhere c.args.plan.now c.args.shape.now c.args.frame_idx c.args.plp c.plp_in_frame-it.result.slices c.from.result
    c.args.address
    c.from-2.result c.plp_in_frame-it.ensures.plan c.plp_in_frame-it.ensures.slices
    (c.from.ensures ∙ c.interval.ensures) c.from-2.ensures c.in-None.ensures.none

pub returns-in-Some-clause-some : goal.returns-in-Some-clause-some
returns-in-Some-clause-some c =
    let some = c.in-Some.ensures.some in
    let it = c.plp_in_frame-it.ensures.row in
    begins c.args.plan.now c.args.shape.now c.args.frame_idx c.args.plp c.plp_in_frame-it.result.slices c.from.result
    c.args.address
    c.from-2.result c.in-Some.slice c.in-Some.inner
    c.plp_in_frame-it.result.row.cells c.plp_in_frame-it.result.row.interleave c.plp_in_frame-it.result.count
    c.args.before
    (c.first_position.result + (c.in-Some.slice * c.plp_in_frame-it.result.slices.len + c.in-Some.inner))
    (c.plp_in_frame-it.result.slices.len - c.in-Some.inner) c.run_at.result
    c.plp_in_frame-it.ensures.plan c.requires.plp c.plp_in_frame-it.ensures.slices
    (c.from.ensures ∙ c.interval.ensures) c.from-2.ensures
    it.cells it.interleave c.plp_in_frame-it.ensures.count c.requires.before some.0 some.1 some.2
    (ap (λ (n : ℕ). n + (c.in-Some.slice * c.plp_in_frame-it.result.slices.len + c.in-Some.inner))
    c.first_position.ensures.value)
    refl c.run_at.ensures
