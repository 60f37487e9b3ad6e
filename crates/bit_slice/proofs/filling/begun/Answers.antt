use Rattle.std.proofs.Common.{◌/◌, ◌<◌, get_or, arith}
use Rattle.bit_slice.proofs.FillingLemmas.{begun_none, begun_some}
use Rattle.bit_slice.proofs.filling.begun.Goals as goal

pub returns-then-used-eq0 : goal.returns-then-used-eq0
returns-then-used-eq0 c = λ bits long held. begun_none bits c.args.used long (omega arith)

pub returns : goal.returns
returns c = λ bits long held.
    let small : get_or c.args.bytes.now (c.args.used / 8) 0 < 256 = omega (arith, c.type_inv.bytes (c.args.used / 8)) in
    begun_some c.args.bytes.now bits c.args.used long held small (omega arith)
