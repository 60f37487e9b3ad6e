use Rattle.cell_map.proofs.MapLemmas.{get-is}
use Rattle.cell_map.proofs.places.at.Goals as goal

pub returns : goal.returns
returns c = get-is c.args.plan.now c.args.shape.now c.args.frame_idx c.args.address c.found.result c.requires.passes
    c.found.ensures.none
    c.found.ensures.some
