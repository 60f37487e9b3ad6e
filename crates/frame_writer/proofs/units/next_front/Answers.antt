use Rattle.std.proofs.Common.{List, ℕ, ◌∷◌, [], drop, sym, subst}
use Rattle.std.proofs.lemmas.List.{take_at}
use Rattle.ts_packet.specs.declared.sizes.TheConstants.{SIZE}
use Rattle.frame_writer.specs.Units.{Gives}
use Rattle.frame_writer.proofs.units.next_front.Goals as goal

pub returns-clause-some : goal.returns-clause-some
returns-clause-some g c = λ on.
    let u = c.next_unit in
    subst (λ (l : List ℕ). Gives c.args.plan.now c.args.flow.now u.new.flow (g.S.FrameSource.number c.args.source.now)
    (g.S.FrameSource.left c.args.source.now c.args.frame.now c.args.plan.now)
    (g.S.FrameSource.left u.new.source c.args.frame.now c.args.plan.now) (l ∷ []))
    (sym (take_at u.new.unit (drop SIZE c.args.out.now) SIZE u.ensures.whole)) (u.ensures.some on)
