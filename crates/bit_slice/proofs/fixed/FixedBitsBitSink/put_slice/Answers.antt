use Rattle.std.proofs.Common.{◌+◌, ◌*◌, ◌++◌, sym, arith}
use Rattle.bit_slice.specs.Filling.{Holds}
use Rattle.bit_slice.proofs.FillingLemmas.{seen_long, seen_more, holds_seen}
use Rattle.bit_slice.proofs.SinkLemmas.{fixed_puts}
use Rattle.bit_slice.proofs.fixed.FixedBitsBitSink.put_slice.Goals as goal

pub put_bits-requires-clause-inside : goal.put_bits-requires-clause-inside
put_bits-requires-clause-inside g c =
    let long = seen_long c.self.inside.bytes c.args.self.now c.self.inside.used c.self.view_is
    (omega (arith, c.self.told, c.self.invariant.0)) in
    omega (arith, c.room-room.ensures.room, long, c.self.told, c.len-len.ensures.len)

pub invariant_of-self : goal.invariant_of-self
invariant_of-self g c =
    let bits = c.args.self.now in
    let long = seen_long c.self.inside.bytes bits c.self.inside.used c.self.view_is
    (omega (arith, c.self.told, c.self.invariant.0)) in
    let held : Holds c.put_bits.new.bytes (bits ++ c.args.bits) =
    c.put_bits.ensures.holds bits long (rw c.self.view_is at c.self.invariant.2) in
    let is = seen_more c.put_bits.new.bytes bits c.args.bits c.self.inside.used c.len-len.result held long
    (sym c.len-len.ensures.len) in (
      omega (arith, c.room-room.ensures.room, long),
      c.self.invariant.1,
      holds_seen c.put_bits.new.bytes (bits ++ c.args.bits)
          (c.self.inside.used + c.len-len.result) is held,
    )

pub returns-clause-ok : goal.returns-clause-ok
returns-clause-ok g c =
    let bits = c.args.self.now in
    let long = seen_long c.self.inside.bytes bits c.self.inside.used c.self.view_is
    (omega (arith, c.self.told, c.self.invariant.0)) in
    let held : Holds c.put_bits.new.bytes (bits ++ c.args.bits) =
    c.put_bits.ensures.holds bits long (rw c.self.view_is at c.self.invariant.2) in
    fixed_puts (8 * g.row.N) bits _ c.args.bits
    (seen_more c.put_bits.new.bytes bits c.args.bits c.self.inside.used c.len-len.result held long
    (sym c.len-len.ensures.len))
    (omega (arith, c.room-room.ensures.room, (sym c.len-len.ensures.len)))
