use Rattle.std.proofs.Common.{arith}
use Rattle.bit_slice.proofs.FillingLemmas.{seen_long}
use Rattle.bit_slice.proofs.fixed.FixedBits.room.Goals as goal

pub returns : goal.returns
returns g c =
    let long = seen_long c.self.inside.bytes c.args.self.now c.self.inside.used c.self.view_is
    (omega (arith, c.self.told, c.self.invariant.0)) in
    record { room = omega (arith, long, c.self.invariant.0) }
