use Rattle.std.proofs.Common.{Some, sym, subst}
use Rattle.frame_weave.specs.Holds.{HoldsMarked}
use Rattle.frame_weave.specs.declared.group.MarkedGroup.{MarkedGroup}
use Rattle.mended_frames.proofs.groups.look_one.Goals as goal

pub returns-then-is_at-clause-takes : goal.returns-then-is_at-clause-takes
returns-then-is_at-clause-takes c = λ on own h seen holds w.
    let marked = subst (λ (g : MarkedGroup). HoldsMarked g own (Some h)) (sym c.group.ensures.value) holds in
    c.look.ensures.weaves own h c.args.number seen marked w
