use Rattle.std.proofs.Common.{◌<◌, get_or, arith}
use Rattle.bit_slice.proofs.SliceLemmas.{number_more}
use Rattle.bit_slice.proofs.slice.number_of_bytes.Goals as goal

pub loop-byte-preserved : goal.loop-byte-preserved
loop-byte-preserved c =
    let small : get_or c.args.bytes.now c.loop-byte.byte-index 0 < 256 = omega
    (arith, c.type_inv.bytes c.loop-byte.byte-index) in
    rw c.from.ensures (number_more c.args.bytes.now c.loop-byte.byte-index c.loop-byte.number c.loop-byte-test.true
    (omega arith) small c.loop-byte.invariant)
