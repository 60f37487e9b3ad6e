use Rattle.std.proofs.Common.{◌+◌, ◌-◌, ◌/◌, ◌∙◌, arith}
use Rattle.bit_slice.proofs.FillingLemmas.{bytes_placed}
use Rattle.bit_slice.proofs.filling.put_bytes.Goals as goal

pub returns-clause-holds : goal.returns-clause-holds
returns-clause-holds c = λ front long held.
    bytes_placed c.args.bytes.now c.copy_bytes.new.out front c.args.bits.now c.args.used c.args.at c.args.count
    (c.args.used / 8 + c.args.count - c.args.used / 8) held long c.requires.aligned c.requires.part
    (omega arith)
    (c.copy_bytes.ensures.bits ∙ c.sub.ensures.bits)
