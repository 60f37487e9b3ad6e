use Rattle.std.proofs.Common.{◌∙◌, ◌+◌, ◌&&◌, Bool, false, get_or, ap, sym}
use Rattle.std.proofs.Math.Bool.{and-true}
use Rattle.plp_receiver.proofs.SeenLemmas.{all_own}
use Rattle.plp_receiver.proofs.standing.see_piece.Goals as goal

pub returns-then-agree-clause-each : goal.returns-then-agree-clause-each
returns-then-agree-clause-each c = λ k l.
    sym (and-true (get_or c.args.stands.now k false))
    ∙ ap (λ (t : Bool). get_or c.args.stands.now k false && t)
    (sym (all_own c.args.plan.now c.args.shape.now c.args.frame_idx c.args.cells.now (c.args.first + k) c.args.address
    c.args.count
    (c.agree.ensures.same.0 c.if-agree.true)))
