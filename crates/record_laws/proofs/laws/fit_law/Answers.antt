use Rattle.record_laws.specs.Laws.{EveryFrameFits, FrameFits}
use Rattle.record_laws.proofs.FitLemmas.{counts_fit, few_blocks, every_frame_fits, muted_fits, frame_fits, records_fit}
use Rattle.record_laws.proofs.FitLemmas.{range_fits}
use Rattle.record_laws.proofs.laws.fit_law.Goals as goal

pub returns-clause-told : goal.returns-clause-told
returns-clause-told c = counts_fit c.length_law.ensures.slot c.block_law.ensures.field c.count_law.ensures

pub returns-clause-few : goal.returns-clause-few
returns-clause-few c = few_blocks c.block_law.ensures.field

pub returns-clause-every : goal.returns-clause-every
returns-clause-every c =
    every_frame_fits c.pre_law.ensures.bits c.emission_law.ensures.fits c.block_law.ensures.field
    c.map_law.ensures.small

pub returns-clause-muted : goal.returns-clause-muted
returns-clause-muted c = muted_fits c.emission_law.ensures.fits

pub returns-clause-frame : goal.returns-clause-frame
returns-clause-frame c =
    let every : EveryFrameFits =
    every_frame_fits c.pre_law.ensures.bits c.emission_law.ensures.fits c.block_law.ensures.field
    c.map_law.ensures.small in
    frame_fits c.bit_counts_law.ensures c.length_law.ensures.slot c.block_law.ensures.field c.count_law.ensures
    c.post_law.ensures.len
    c.order_law.ensures.counts c.shape_law.ensures every

pub returns-clause-range : goal.returns-clause-range
returns-clause-range c =
    let every : EveryFrameFits =
    every_frame_fits c.pre_law.ensures.bits c.emission_law.ensures.fits c.block_law.ensures.field
    c.map_law.ensures.small in
    let frame : FrameFits =
    frame_fits c.bit_counts_law.ensures c.length_law.ensures.slot c.block_law.ensures.field c.count_law.ensures
    c.post_law.ensures.len
    c.order_law.ensures.counts c.shape_law.ensures every in
    range_fits c.emission_law.ensures.fits frame

pub returns-clause-records : goal.returns-clause-records
returns-clause-records c =
    let every : EveryFrameFits =
    every_frame_fits c.pre_law.ensures.bits c.emission_law.ensures.fits c.block_law.ensures.field
    c.map_law.ensures.small in
    let frame : FrameFits =
    frame_fits c.bit_counts_law.ensures c.length_law.ensures.slot c.block_law.ensures.field c.count_law.ensures
    c.post_law.ensures.len
    c.order_law.ensures.counts c.shape_law.ensures every in
    records_fit c.emission_law.ensures.fits frame
