use Rattle.std.proofs.Common.{rules, ◌≡◌, ◌∙◌, ap}
use Rattle.open_group.specs.RecordBytes.{front_of, sent_bytes}
use Rattle.open_group.proofs.ScrambleLemmas.{head_is}
use Rattle.open_group.proofs.writer.put_block.Goals as goal

pub returns-clause-out : goal.returns-clause-out
returns-clause-out c =
    let block = c.unwrap-block.result in
    let is : block ≡ front_of c.args.pool.now.lists c.args.plp = search rules in
    head_is c.args.plan.now c.args.plp block _ _ _ _ c.plp_id.ensures c.put_head.ensures c.put_block.ensures
    (search rules)
    ∙ ap (sent_bytes c.args.plan.now c.args.plp) is
