use Rattle.std.proofs.Common.{◌+◌, ◌++◌, sym, ◌∙◌, arith}
use Rattle.bit_slice.specs.Filling.{Holds}
use Rattle.bit_slice.proofs.FillingLemmas.{seen_long, seen_more, holds_seen, written_back}
use Rattle.bit_slice.proofs.SinkLemmas.{grown_puts}
use Rattle.bit_slice.proofs.buf.BitBufBitSink.put_slice.Goals as goal

pub invariant_of-self-2 : goal.invariant_of-self-2
invariant_of-self-2 c =
    let bits = c.args.self.now in
    let old = c.self.inside.bytes.items in
    let new = c.put_bits.new.bytes in
    let long = seen_long old bits c.self.inside.used c.self.view_is (omega (arith, c.self.invariant.0)) in
    let longer = c.lengthen.ensures.holds c.if-not-lengthen.false bits long (rw c.self.view_is at c.self.invariant.2) in
    let held : Holds new (bits ++ c.args.bits) = c.put_bits.ensures.holds bits long
    (rw c.deref_mut.ensures.value longer) in
    let back = written_back new c.lengthen.new.bytes.items c.lengthen.new.bytes.len
    (c.put_bits.ensures.len ∙ c.deref_mut.ensures.len) in
    let is = seen_more new bits c.args.bits c.self.inside.used c.len-len.result held long
    (sym c.len-len.ensures.len) in (
      c.lengthen.ensures.len c.if-not-lengthen.false,
      c.lengthen.ensures.short c.if-not-lengthen.false,
      rw back (holds_seen new (bits ++ c.args.bits) (c.self.inside.used + c.len-len.result) is held),
    )

pub returns-clause-ok : goal.returns-clause-ok
returns-clause-ok c =
    let bits = c.args.self.now in
    let old = c.self.inside.bytes.items in
    let new = c.put_bits.new.bytes in
    let long = seen_long old bits c.self.inside.used c.self.view_is (omega (arith, c.self.invariant.0)) in
    let longer = c.lengthen.ensures.holds c.if-not-lengthen.false bits long (rw c.self.view_is at c.self.invariant.2) in
    let held : Holds new (bits ++ c.args.bits) = c.put_bits.ensures.holds bits long
    (rw c.deref_mut.ensures.value longer) in
    let back = written_back new c.lengthen.new.bytes.items c.lengthen.new.bytes.len
    (c.put_bits.ensures.len ∙ c.deref_mut.ensures.len) in
    let is = seen_more new bits c.args.bits c.self.inside.used c.len-len.result held long (sym c.len-len.ensures.len) in
    grown_puts bits _ c.args.bits (rw back is)
