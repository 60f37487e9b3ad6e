use Rattle.std.proofs.Common.{◌++◌, length, List, Bool, ap, ◌∙◌, arith}
use Rattle.bit_slice.proofs.SinkLemmas.{counted, fixed_puts}
use Rattle.bit_slice.proofs.count.BitCountBitSink.put_slice.Goals as goal

pub invariant_of-self : goal.invariant_of-self
invariant_of-self c =
    counted c.self.inside.put.bits c.args.bits c.and_slice-self-inside.result.bits c.self.inside.bits _ c.self.invariant
    c.len.ensures.len c.and_slice-self-inside.ensures

pub returns-clause-ok : goal.returns-clause-ok
returns-clause-ok c =
    let is = c.and_slice-self-inside.ensures ∙ ap (λ (t : List Bool). t ++ c.args.bits) c.self.view_is in
    fixed_puts 0xFFFF_FFFF_FFFF_FFFF c.args.self.now _ c.args.bits is
    (omega (arith, c.self.invariant, ap length c.self.view_is, c.len.ensures.len))
