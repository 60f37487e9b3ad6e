use Rattle.std.proofs.Common.{◌∙◌, ◌&&◌, ◌+◌, ◌%◌, ℕ, Bool, false, get_or, ap}
use Rattle.plp_receiver.specs.Seeing.{all_seen}
use Rattle.plp_receiver.proofs.SeenLemmas.{seen_stand}
use Rattle.plp_receiver.proofs.standing.see_standing.Goals as goal

pub returns-clause-each : goal.returns-clause-each
returns-clause-each c = λ blocks k l sent.
    let was : Bool = get_or c.args.stands.now k false in
    c.see_all.ensures.each k l
    ∙ ap (λ (i : ℕ). was && all_seen c.args.plan.now c.args.shape.now i c.args.cells.now
    (c.first_ordinal-first.result + k))
    c.frame_idx.ensures
    ∙ ap (λ (n : ℕ). was
    && all_seen c.args.plan.now c.args.shape.now (c.args.number % c.args.plan.now.frames) c.args.cells.now (n + k))
    c.first_ordinal-first.ensures.value
    ∙ ap (λ (b : Bool). was && b)
    (seen_stand c.map_law.ensures.each c.map_law.ensures.only c.args.plan.now c.args.shape.now c.args.cells.now
    c.args.number
    blocks c.args.plp k c.requires.passes c.requires.inside sent)
