use Rattle.std.proofs.Common.{◌≡◌, ◌++◌, ◌∙◌, Bool, List, length, refl, ap, arith}
use Rattle.t2mi_packet.specs.Layout.{rows_bits}
use Rattle.t2mi_packet.specs.Writing.{block_head}
use Rattle.t2mi_packet.proofs.PutLemmas.{roomy, block_covered, length-block_head}
use Rattle.t2mi_packet.proofs.writing.begin_block.Goals as goal

written : (c : goal.After-put_block_head) → c.put_block_head.new.sink ≡ rows_bits
    (block_head c.args.head.now c.args.bytes)
written c =
    let few : length c.clear.new.self ≡ 0 = ap length c.clear.ensures in
    roomy c.stops_law.ensures.full _ _ (rows_bits (block_head c.args.head.now c.args.bytes)) c.put_block_head.result _
    c.clear.ensures refl
    (omega (arith, few, length-block_head c.args.head.now c.args.bytes)) c.put_block_head.ensures.ok
    c.put_block_head.ensures.fault

pub returns-clause-len : goal.returns-clause-len
returns-clause-len c = ap length (written c) ∙ length-block_head c.args.head.now c.args.bytes

pub returns-clause-covered : goal.returns-clause-covered
returns-clause-covered c = λ block whole.
    ap (λ (front : List Bool). front ++ block) (written c) ∙ block_covered c.args.head.now c.args.bytes block whole
