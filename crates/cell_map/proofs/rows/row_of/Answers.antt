use Rattle.std.proofs.Common.{◌≡◌, ◌∙◌, ap, rules}
use Rattle.plp_config.specs.Plps.{plp_at}
use Rattle.plp_config.specs.declared.plp.Plp.{Plp}
use Rattle.cell_map.proofs.FrameLemmas.{row_is}
use Rattle.cell_map.proofs.rows.row_of.Goals as goal

pub returns-clause-row : goal.returns-clause-row
returns-clause-row c =
    let entry : c.unwrap-entry.result.now ≡ plp_at c.args.plan.now.plps c.args.plp = search rules in
    row_is c.args.plan.now c.args.plp c.block_cells.result c.from.result c.from-2.result c.slice_count.result
    c.spread.result
    c.config.ensures.plan c.requires c.block_cells.ensures.value
    (c.from.ensures ∙ ap (λ (p : Plp). p.blocks) entry) (c.from-2.ensures ∙ ap (λ (p : Plp). p.interleave) entry)
    c.slice_count.ensures c.spread.ensures.value
