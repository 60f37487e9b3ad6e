use Rattle.std.proofs.Common.{◌≡◌, ◌/◌, rules, arith, length}
use Rattle.terms.specs.Bits.{bytes_of}
use Rattle.linked_pool.proofs.FillLemmas.{bytes_len}
use Rattle.linked_pool.proofs.pool.Pool.append_bits.Goals as goal

pub returns-in_err-count-clause-full : goal.returns-in_err-count-clause-full
returns-in_err-count-clause-full c =
    let len : c.len-len.result / 8 ≡ length (bytes_of c.args.block.now) =
    bytes_len c.args.block.now (c.len-len.result / 8) (omega (arith, c.requires.bytes, c.len-len.ensures.len)) in
    rw (← len) (search rules)

pub returns-in_err-count-clause-told : goal.returns-in_err-count-clause-told
returns-in_err-count-clause-told c =
    let len : c.len-len.result / 8 ≡ length (bytes_of c.args.block.now) =
    bytes_len c.args.block.now (c.len-len.result / 8) (omega (arith, c.requires.bytes, c.len-len.ensures.len)) in
    rw (← len) (search rules)
