use Rattle.std.proofs.Common.{◌∙◌, true, ap, sym}
use Rattle.frame_groups.specs.Tests.{read_whole, pre_agrees}
use Rattle.l1_signal.specs.L1Pre.{pre_reading}
use Rattle.plp_config.specs.declared.config.Config.{Config}
use Rattle.frame_groups.specs.Readable.{shape_agrees}
use Rattle.plp_receiver.proofs.ReadableLemmas.{told_readable}
use Rattle.plp_receiver.proofs.readable.is_readable.Goals as goal

pub returns-clause-value : goal.returns-clause-value
returns-clause-value c =
    told_readable c.args.network.now c.args.number c.args.pre.now c.args.post.now c.args.blocks.now c.args.cells.now
    c.is_post.new.dynamic c.tell_shape.new.out c.has_shape.result
    (ap (λ (x : Config). pre_agrees x (read_whole (pre_reading true c.args.pre.now))) (sym c.plan.ensures)
    ∙ sym c.is_pre.ensures
    ∙ c.if-not-is_pre.false)
    (sym c.is_post.ensures.agrees ∙ c.if-not-is_post.false)
    (c.is_post.ensures.told c.if-not-is_post.false) c.tell_shape.ensures.shape
    (c.has_shape.ensures
    ∙ ap (λ (x : Config). shape_agrees x c.args.number c.args.blocks.now c.args.cells.now c.tell_shape.new.out)
    c.plan-2.ensures)

pub returns-clause-agrees : goal.returns-clause-agrees
returns-clause-agrees c = λ e.
    sym (c.has_shape.ensures
    ∙ ap (λ (x : Config). shape_agrees x c.args.number c.args.blocks.now c.args.cells.now c.tell_shape.new.out)
    c.plan-2.ensures)
    ∙ e
