use Rattle.std.proofs.Common.{◌∷◌, [], ◌++◌, Some, sym, subst, ap}
use Rattle.plp_config.specs.declared.config.Config.{Config}
use Rattle.frame_groups.specs.Grouping.{one_more}
use Rattle.frame_groups.specs.Modulated.{Rules}
use Rattle.open_group.specs.Holds.{Holds}
use Rattle.open_group.specs.declared.group.PooledGroup.{PooledGroup}
use Rattle.frame_weave.specs.Holds.{HoldsMarks}
use Rattle.frame_weave.proofs.group.MarkedGroupOpenGroup.add.Goals as goal

pub returns-clause-group : goal.returns-clause-group
returns-clause-group c = λ past h held.
    let grown = c.add.ensures.group past h held.group in
    record {
      group = subst (λ (g : PooledGroup). Holds g past (Some (one_more h c.args.packet.now))) (sym c.mark.ensures.group)
          grown;
      marks = subst (λ (g : PooledGroup). HoldsMarks g.network c.mark.new.self.marks
          (h.packets ++ c.args.packet.now ∷ []))
          (sym c.mark.ensures.group)
          (c.mark.ensures.marks past h grown
          (subst (λ (k : Config). HoldsMarks k c.args.self.now.marks h.packets)
          (sym (ap (λ (r : Rules). r.network) c.add.ensures.rules)) held.marks));
    }
