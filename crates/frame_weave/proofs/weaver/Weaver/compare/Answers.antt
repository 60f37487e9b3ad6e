use Rattle.std.proofs.Common.{Bool, ◌&&◌, [], Some, ap, sym, subst, ◌∙◌}
use Rattle.open_group.specs.Holds.{Holds}
use Rattle.open_group.specs.declared.group.PooledGroup.{PooledGroup}
use Rattle.frame_weave.proofs.weaver.Weaver.compare.Goals as goal

pub returns-clause-agree : goal.returns-clause-agree
returns-clause-agree c = λ past t h x y intact made held own other.
    let is = c.group.ensures in
    c.both-self.ensures
    ∙ ap (λ (b : Bool). c.args.self.now.agree && b)
    (c.same_dynamic-is_same.ensures x y
    (c.signalling.ensures [] t (ap (λ (g : PooledGroup). g.intact) is ∙ c.args.self.now.made.intact)
    (subst (λ (g : PooledGroup). Holds g [] (Some t)) (sym is) made) ∙ own)
    (c.signalling-2.ensures past h intact held ∙ other))
