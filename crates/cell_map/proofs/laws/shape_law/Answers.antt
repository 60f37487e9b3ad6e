use Rattle.std.proofs.Common.{◌≤◌, ℕ, sym, List, subst}
use Rattle.std.specs.Prelude.{slice_index}
use Rattle.plp_config.specs.Plps.{plp_at}
use Rattle.scheduler.specs.Shape.{shape_of}
use Rattle.cell_map.proofs.PassLemmas.{shape_passes}
use Rattle.cell_map.proofs.laws.shape_law.Goals as goal

pub returns : goal.returns
returns c = λ config counts is fit.
    let same = c.order_law.ensures.counts config counts in
    shape_passes config (shape_of config counts) is
    (λ plp inside. subst (λ (ns : List ℕ). slice_index ns plp ≤ (plp_at config.plps plp).blocks) (sym same)
    (fit.within plp inside))
    (c.order_law.ensures.order config counts is fit)
