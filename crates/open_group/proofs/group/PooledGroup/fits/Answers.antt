use Rattle.std.proofs.Common.{ap₂, ◌∙◌, arith}
use Rattle.std.specs.Prelude.{nat_le}
use Rattle.open_group.proofs.FitsLemmas.{told_fits}
use Rattle.open_group.proofs.group.PooledGroup.fits.Goals as goal

pub returns-clause-value : goal.returns-clause-value
returns-clause-value c = λ past h held.
    let g = c.args.self.now in
    let told = c.chunks-chunks.ensures in
    let chunks = told.chunks in
    let small = told.small in
    ap₂ nat_le told.need chunks
    ∙ told_fits g.network g.blocks h.packets held.counts g.chunks (omega (arith, chunks, small))
