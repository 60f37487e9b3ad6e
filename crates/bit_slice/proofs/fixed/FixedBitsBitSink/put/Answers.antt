use Rattle.std.proofs.Common.{◌+◌, ◌*◌, ◌++◌, arith}
use Rattle.terms.specs.Bits.{field}
use Rattle.terms.proofs.BitLemmas.{length-field}
use Rattle.bit_slice.specs.Filling.{Holds}
use Rattle.bit_slice.proofs.FillingLemmas.{seen_long, seen_more, holds_seen}
use Rattle.bit_slice.proofs.SinkLemmas.{fixed_puts}
use Rattle.bit_slice.proofs.fixed.FixedBitsBitSink.put.Goals as goal

pub put_field-requires-clause-inside : goal.put_field-requires-clause-inside
put_field-requires-clause-inside g c =
    let long = seen_long c.self.inside.bytes c.args.self.now c.self.inside.used c.self.view_is
    (omega (arith, c.self.told, c.self.invariant.0)) in
    omega (arith, c.room-room.ensures.room, long, c.self.told)

pub invariant_of-self : goal.invariant_of-self
invariant_of-self g c =
    let bits = c.args.self.now in
    let long = seen_long c.self.inside.bytes bits c.self.inside.used c.self.view_is
    (omega (arith, c.self.told, c.self.invariant.0)) in
    let held : Holds c.put_field.new.bytes (bits ++ (field c.args.width c.args.value)) =
    c.put_field.ensures.holds bits long (rw c.self.view_is at c.self.invariant.2) in
    let is = seen_more c.put_field.new.bytes bits (field c.args.width c.args.value) c.self.inside.used
    c.args.width held long
    (length-field c.args.width c.args.value) in (
      omega (arith, c.room-room.ensures.room, long),
      c.self.invariant.1,
      holds_seen c.put_field.new.bytes (bits ++ (field c.args.width c.args.value)) (c.self.inside.used + c.args.width)
          is held,
    )

pub returns-clause-ok : goal.returns-clause-ok
returns-clause-ok g c =
    let bits = c.args.self.now in
    let long = seen_long c.self.inside.bytes bits c.self.inside.used c.self.view_is
    (omega (arith, c.self.told, c.self.invariant.0)) in
    let held : Holds c.put_field.new.bytes (bits ++ (field c.args.width c.args.value)) =
    c.put_field.ensures.holds bits long (rw c.self.view_is at c.self.invariant.2) in
    fixed_puts (8 * g.row.N) bits _ (field c.args.width c.args.value)
    (seen_more c.put_field.new.bytes bits (field c.args.width c.args.value) c.self.inside.used c.args.width held long
    (length-field c.args.width c.args.value))
    (omega (arith, c.room-room.ensures.room, (length-field c.args.width c.args.value)))
