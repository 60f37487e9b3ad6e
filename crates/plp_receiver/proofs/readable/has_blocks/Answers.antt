use Rattle.std.proofs.Common.{◌∙◌, ◌&&◌, ◌-◌, ◌+◌, Bool, length, ap, arith}
use Rattle.std.specs.Cmp.Lexicographic.{pointwise}
use Rattle.frame_groups.specs.Readable.{has_size, coming}
use Rattle.plp_receiver.specs.Sizes.{sizes_from}
use Rattle.plp_receiver.proofs.SizeLemmas.{comes}
use Rattle.plp_receiver.proofs.readable.has_blocks.Goals as goal

pub loop-plp-preserved : goal.loop-plp-preserved
loop-plp-preserved c =
    c.loop-plp.invariant
    ∙ comes c.args.plan.now (coming c.args.plan.now c.args.number c.args.shape.now) c.loop-plp.rest c.come_next.new.rest
    (length c.args.plan.now.plps) c.loop-plp.plp
    c.begun_count-count.result c.plp_id-id.result
    c.block_bytes-len.result c.come_next.result (omega arith) c.begun_count-count.ensures c.plp_id-id.ensures
    c.block_bytes-len.ensures.value
    c.come_next.ensures
    ∙ ap (λ (t : Bool). t && pointwise has_size c.come_next.new.rest
    (sizes_from c.args.plan.now (coming c.args.plan.now c.args.number c.args.shape.now) (c.loop-plp.plp + 1)
    (length c.args.plan.now.plps - (c.loop-plp.plp + 1))))
    c.if-not-come_next.false
