use Rattle.std.proofs.Common.{refl, ap, sym, ◌∙◌}
use Rattle.std.specs.Option.{option_or}
use Rattle.frame_groups.specs.Carried.{body_block}
use Rattle.frame_weave.proofs.MarkLemmas.{other_held, or_none}
use Rattle.frame_weave.specs.Marked.{l1_count}
use Rattle.frame_weave.specs.declared.marks.HeldMarks.{HeldMarks}
use Rattle.frame_weave.proofs.marks.HeldMarks.add.Goals as goal

pub returns-in-Block-clause-marks : goal.returns-in-Block-clause-marks
returns-in-Block-clause-marks c = λ packets blocks h.
    c.add_block.ensures.marks packets c.args.packet.now c.in-Block.frame_idx c.in-Block.first c.in-Block.is
    refl blocks h

pub returns-in-L1Current-clause-marks : goal.returns-in-L1Current-clause-marks
returns-in-L1Current-clause-marks c = λ packets blocks h.
    let p = c.args.packet.now in
    other_held c.args.plan.now packets p c.args.self.now c.add_l1.new.self (λ id. ap (body_block id) c.in-L1Current.is)
    (ap (λ (x : HeldMarks). x.marks.items) c.add_l1.ensures)
    (ap (λ (x : HeldMarks). x.origin) c.add_l1.ensures
    ∙ ap (option_or c.args.self.now.origin) (sym (ap (l1_count p.packet_count) c.in-L1Current.is))) h

pub returns-in-Timestamp-clause-marks : goal.returns-in-Timestamp-clause-marks
returns-in-Timestamp-clause-marks c = λ packets blocks h.
    let p = c.args.packet.now in
    other_held c.args.plan.now packets p c.args.self.now c.args.self.now (λ id. ap (body_block id) c.in-Timestamp.is)
    refl
    (or_none c.args.self.now.origin
    ∙ ap (option_or c.args.self.now.origin) (sym (ap (l1_count p.packet_count) c.in-Timestamp.is))) h

pub returns-in-Other-clause-marks : goal.returns-in-Other-clause-marks
returns-in-Other-clause-marks c = λ packets blocks h.
    let p = c.args.packet.now in
    other_held c.args.plan.now packets p c.args.self.now c.args.self.now (λ id. ap (body_block id) c.in-Other.is) refl
    (or_none c.args.self.now.origin
    ∙ ap (option_or c.args.self.now.origin) (sym (ap (l1_count p.packet_count) c.in-Other.is))) h
