use Rattle.std.proofs.Common.{◌∙◌, ap, sym}
use Rattle.plp_receiver.specs.SlotsStandFor.{IsFresh}
use Rattle.plp_receiver.specs.Window.{Status}
use Rattle.plp_receiver.proofs.SlotsStandLemmas.{fresh_from, open_range, open_due}
use Rattle.plp_receiver.proofs.slots.PacketSlots.open.Goals as goal

pub returns-clause-fresh : goal.returns-clause-fresh
unfolding IsFresh
returns-clause-fresh c = fresh_from c.new.result c.in_ok-open.field-0 c.args.rule c.new.ensures.stands
    c.in_ok-open.ensures

pub invariant_of-result : goal.invariant_of-result
invariant_of-result c = record {
  same = c.new.ensures.rule ∙ sym (ap (λ (s : Status). s.rule) c.in_ok-open.ensures);
  reached = open_range c.in_ok-open.field-0 c.args.rule c.in_ok-open.ensures;
  known = open_due c.release_law.ensures.first c.in_ok-open.field-0 c.args.rule c.in_ok-open.ensures;
}
