use Rattle.std.proofs.Common.{◌+◌, ◌-◌, arith}
use Rattle.std.proofs.lemmas.Slice.{drop-put_mid}
use Rattle.plp_receiver.proofs.blocks.unscramble.Goals as goal

pub returns-clause-behind : goal.returns-clause-behind
returns-clause-behind c =
    let len = c.scramble.ensures.len in
    drop-put_mid c.args.at (c.args.at + c.args.len - c.args.at) c.args.bytes.now c.scramble.new.bytes
    (c.args.at + c.args.len)
    (omega arith) (omega (arith, c.requires)) (omega (arith, len, c.requires))
