use Rattle.std.proofs.Common.{◌∷◌, [], Some, sym, subst}
use Rattle.frame_groups.specs.Grouping.{one_packet}
use Rattle.frame_groups.specs.Sequenced.{past_of}
use Rattle.open_group.specs.Holds.{Holds}
use Rattle.open_group.specs.declared.group.PooledGroup.{PooledGroup}
use Rattle.frame_weave.proofs.MarkLemmas.{none_held}
use Rattle.frame_weave.specs.Holds.{HoldsMarks}
use Rattle.frame_weave.proofs.group.MarkedGroupOpenGroup.begin.Goals as goal

pub returns-clause-group : goal.returns-clause-group
returns-clause-group c = λ past g held above.
    let packet = c.args.packet.now in
    let begun = c.begin.ensures.group past g held.group above in
    record {
      group = subst (λ (x : PooledGroup). Holds x (past_of past g c.args.number) (Some (one_packet c.args.key packet)))
          (sym c.mark.ensures.group) begun;
      marks = subst (λ (x : PooledGroup). HoldsMarks x.network c.mark.new.self.marks (packet ∷ []))
          (sym c.mark.ensures.group)
          (c.mark.ensures.marks (past_of past g c.args.number) (record { key = c.args.key; packets = [] }) begun
          (none_held c.begin.new.self.network c.clear.new.self c.clear.ensures.marks c.clear.ensures.origin));
    }
