use Rattle.std.proofs.Common.{◌∙◌, Bool, ap, sym, subst}
use Rattle.plp_receiver.specs.Window.{Status, Reaches}
use Rattle.plp_receiver.specs.Times.{due_after}
use Rattle.plp_receiver.specs.SlotsStandFor.{PacketSlotsStandsFor, IsFresh}
use Rattle.plp_receiver.specs.declared.slot_rule.SlotRule.{SlotRule}
use Rattle.plp_receiver.proofs.SlotsStandLemmas.{begins, first_range}
use Rattle.plp_receiver.proofs.slots.PacketSlots.begin_at.Goals as goal

pub returns-clause-stands : goal.returns-clause-stands
unfolding PacketSlotsStandsFor IsFresh
returns-clause-stands c =
    λ r h. begins c.args.self.now.assembler c.args.self.now.window c.begin.new.self r c.args.first h c.begin.ensures

pub invariant_of-self : goal.invariant_of-self
invariant_of-self c =
    let p = c.args.self.now in
    let rule = ap (λ (s : Status). s.rule) c.begin.ensures in
    record {
      same = p.same ∙ sym rule;
      reached = subst (λ (b : Bool). Reaches c.begin.new.self.rule b c.args.first c.begin.new.self.end)
          (sym c.requires.outside)
          (first_range c.slot_time_law.ensures.count_rises p.window c.begin.new.self c.args.first c.begin.ensures);
      known = ap (λ (s : Status). s.due_end) c.begin.ensures
          ∙ ap (λ (q : SlotRule). due_after q c.args.first) (sym rule);
    }
