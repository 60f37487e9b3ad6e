use Rattle.std.proofs.Common.{ℕ, ◌-◌, List, Option, subst, ap, ◌∙◌}
use Rattle.std.specs.Prelude.{nat_lt, if◌then◌else◌}
use Rattle.plp_receiver.specs.declared.slot_rule.SlotRule.{SlotRule}
use Rattle.plp_receiver.specs.Filling.{filled}
use Rattle.plp_config.specs.SlotTimes.{delay_of}
use Rattle.plp_receiver.specs.Window.{Status}
use Rattle.plp_receiver.specs.declared.assembler.Found.{Found}
use Rattle.plp_receiver.specs.Sound.{IsSound}
use Rattle.plp_receiver.specs.Pieces.{piece_items}
use Rattle.plp_receiver.specs.Assembles.{Gains}
use Rattle.plp_receiver.proofs.BothLemmas.{gain_none, gain_not, gain_put, moved, near_by, counts_as}
use Rattle.plp_receiver.proofs.block.take_piece.Goals as goal

pub returns-in_default-clause-both : goal.returns-in_default-clause-both
returns-in_default-clause-both c = λ r z h. record {
  assembles = c.piece.ensures.stands r z h.assembles;
  rule = h.rule;
  shows = gain_none r (subst IsSound h.rule c.args.window.now.sound) z _ c.args.epoch _ _ _ h.shows _
      (subst (λ (f : Option Found). Gains r z c.args.epoch (piece_items c.args.mark c.args.epoch c.args.bytes.now)
      c.piece.new.self.held f) c.in_default.is (c.piece.ensures.answer r z h.assembles));
}

pub returns-then-counts-clause-both : goal.returns-then-counts-clause-both
returns-then-counts-clause-both c = λ r z h. record {
  assembles = c.piece.ensures.stands r z h.assembles;
  rule = ap (λ (s : Status). s.rule) c.put.ensures ∙ h.rule;
  shows =
      moved r _ _ _ _ _ _ (ap (λ (s : Status). s.first) c.put.ensures) (ap (λ (s : Status). s.end) c.put.ensures)
      (gain_put r (subst IsSound h.rule c.args.window.now.sound) z _ c.args.epoch _ _ _ h.shows c.piece.new.self.held
      c.in-Some.found (delay_of c.args.window.now.rule.times) (ap (λ (q : SlotRule). delay_of q.times) h.rule)
      (near_by _ _ _ h.rule c.counts.ensures.near)
      (subst (λ (f : Option Found). Gains r z c.args.epoch (piece_items c.args.mark c.args.epoch c.args.bytes.now)
      c.piece.new.self.held f) c.in-Some.is (c.piece.ensures.answer r z h.assembles))
      (counts_as _ _ _ _ _ _ _ _ h.rule c.counts.ensures.value c.if-counts.true) _
      (ap (λ (s : Status). s.slots) c.put.ensures
      ∙ ap (λ (p : List ℕ). if nat_lt c.in-Some.found.slot c.args.window.now.first
      then c.args.window.now.slots.items else filled c.args.window.now.slots.items
      (c.in-Some.found.slot - c.args.window.now.first) p) c.packet.ensures));
}

pub returns-else-counts-clause-both : goal.returns-else-counts-clause-both
returns-else-counts-clause-both c = λ r z h. record {
  assembles = c.piece.ensures.stands r z h.assembles;
  rule = h.rule;
  shows =
      gain_not r (subst IsSound h.rule c.args.window.now.sound) z _ c.args.epoch _ _ _ h.shows c.piece.new.self.held
      c.in-Some.found (delay_of c.args.window.now.rule.times) (ap (λ (q : SlotRule). delay_of q.times) h.rule)
      (near_by _ _ _ h.rule c.counts.ensures.near)
      (subst (λ (f : Option Found). Gains r z c.args.epoch (piece_items c.args.mark c.args.epoch c.args.bytes.now)
      c.piece.new.self.held f) c.in-Some.is (c.piece.ensures.answer r z h.assembles))
      (counts_as _ _ _ _ _ _ _ _ h.rule c.counts.ensures.value c.if-counts.false);
}
