use Rattle.std.proofs.Common.{◌<◌, ap, arith, length}
use Rattle.plp_config.specs.declared.config.Config.{Config}
use Rattle.linked_pool.specs.Pool.{State}
use Rattle.open_group.proofs.RecordLemmas.{block_given}
use Rattle.open_group.proofs.writer.build_block.Goals as goal

pub returns-then-next-end-clause-bytes : goal.returns-then-next-end-clause-bytes
returns-then-next-end-clause-bytes c = λ shape frame_idx.
    let n = ap (λ (c : Config). length c.plps) c.config.ensures.value in
    let inside : c.next_list-next.result < length c.args.pool.now.lists =
    omega (arith, c.if-next-end.true, c.len-end.ensures, n, c.requires.lists.plps) in
    block_given c.args.plan.now c.args.plp c.next_list-next.result c.args.pool.now.lists c.put_block.new.pool.lists
    c.put_block.new.out _
    (c.next_list-next.ensures.same c.args.plan.now) inside (c.next_list-next.ensures.some c.if-next-end.true)
    c.put_block.ensures.out (ap (λ (s : State). s.lists) c.put_block.ensures.pool)
