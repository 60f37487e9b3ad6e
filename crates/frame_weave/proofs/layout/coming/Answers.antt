use Rattle.std.proofs.Common.{Bool, ap, sym, ◌∙◌}
use Rattle.std.specs.Prelude.{slice_index, if◌then◌else◌}
use Rattle.plp_config.specs.InterleavingFrames.{is_first}
use Rattle.frame_groups.proofs.TallyLemmas.{at_place}
use Rattle.frame_weave.proofs.layout.coming.Goals as goal

pub returns-then-is_first : goal.returns-then-is_first
returns-then-is_first c =
    let counts = c.args.shape.now.counts in
    c.count.ensures
    ∙ ap (λ (t : Bool). if t then slice_index counts c.args.plp else 0) (sym (sym c.is_first.ensures
    ∙ c.if-is_first.true))
    ∙ sym (at_place c.args.plan.now (λ plp. if is_first c.args.plan.now plp c.args.number then slice_index
    counts plp else 0)
    c.args.plp c.requires.inside)

pub returns : goal.returns
returns c =
    let counts = c.args.shape.now.counts in
    ap (λ (t : Bool). if t then slice_index counts c.args.plp else 0) (sym (sym c.is_first.ensures
    ∙ c.if-is_first.false))
    ∙ sym (at_place c.args.plan.now (λ plp. if is_first c.args.plan.now plp c.args.number then slice_index
    counts plp else 0)
    c.args.plp c.requires.inside)
