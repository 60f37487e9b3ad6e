use Rattle.std.proofs.Common.{arith, ◌∙◌}
use Rattle.cell_map.proofs.ShareLemmas.{alone_at, leaves_free, has_cell}
use Rattle.cell_map.proofs.search.free_of.Goals as goal

pub free-requires : goal.free-requires
free-requires c =
    record {
      some = c.plp_in_frame-it.ensures.some;
      apart = alone_at c.args.plan.now c.args.shape.now c.args.plp c.plp_in_frame-it.result.slices
          c.from-interval.result
          c.plp_in_frame-it.ensures.plan c.requires.passes c.requires.plp c.plp_in_frame-it.ensures.slices
          (c.from-interval.ensures ∙ c.interval.ensures);
    }

pub returns-clause-free : goal.returns-clause-free
returns-clause-free c =
    leaves_free c.args.plan.now c.args.shape.now c.args.frame_idx c.args.plp c.plp_in_frame-it.result.slices
    c.from-interval.result c.args.address
    c.from.result c.free.result c.plp_in_frame-it.ensures.plan c.plp_in_frame-it.ensures.slices
    (c.from-interval.ensures ∙ c.interval.ensures) c.from.ensures c.free.ensures.none

pub returns-clause-greatest : goal.returns-clause-greatest
returns-clause-greatest c = λ more.
    has_cell c.args.plan.now c.args.shape.now c.args.frame_idx c.args.plp c.plp_in_frame-it.result.slices
    c.from-interval.result
    c.args.address
    c.from.result c.free.result c.plp_in_frame-it.ensures.plan c.requires.plp c.plp_in_frame-it.ensures.slices
    (c.from-interval.ensures ∙ c.interval.ensures) c.from.ensures
    (c.free.ensures.greatest (omega (arith, more)))
