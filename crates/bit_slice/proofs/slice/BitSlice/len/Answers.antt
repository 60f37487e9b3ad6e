use Rattle.std.proofs.Common.{sym, arith}
use Rattle.bit_slice.proofs.SliceLemmas.{seen_length}
use Rattle.bit_slice.proofs.slice.BitSlice.len.Goals as goal

pub returns-clause-len : goal.returns-clause-len
returns-clause-len c =
    sym (seen_length c.self.inside.bytes.now c.self.inside.first c.self.inside.len c.args.self.now c.self.view_is
    (omega arith))
