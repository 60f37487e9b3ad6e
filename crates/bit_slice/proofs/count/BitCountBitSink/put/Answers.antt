use Rattle.std.proofs.Common.{◌++◌, length, List, Bool, ap, sym, ◌∙◌, arith}
use Rattle.terms.specs.Bits.{field}
use Rattle.terms.proofs.BitLemmas.{length-field}
use Rattle.bit_slice.proofs.SinkLemmas.{counted, fixed_puts}
use Rattle.bit_slice.proofs.count.BitCountBitSink.put.Goals as goal

pub invariant_of-self : goal.invariant_of-self
invariant_of-self c = counted c.self.inside.put.bits (field c.args.width c.args.value)
    c.and_field-self-inside.result.bits
    c.self.inside.bits _ c.self.invariant (c.from-need.ensures ∙ sym (length-field c.args.width c.args.value))
    c.and_field-self-inside.ensures

pub returns-clause-ok : goal.returns-clause-ok
returns-clause-ok c =
    let is = c.and_field-self-inside.ensures ∙ ap (λ (t : List Bool). t ++ (field c.args.width c.args.value))
    c.self.view_is in
    fixed_puts 0xFFFF_FFFF_FFFF_FFFF c.args.self.now _ (field c.args.width c.args.value) is
    (omega (arith, c.self.invariant, ap length c.self.view_is, (sym (length-field c.args.width c.args.value))))
