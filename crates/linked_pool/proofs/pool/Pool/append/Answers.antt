use Rattle.std.proofs.Common.{ap, arith, ◌∙◌}
use Rattle.terms.specs.Bits.{bytes_of}
use Rattle.terms.proofs.BitLemmas.{bytes_of-bits_of}
use Rattle.linked_pool.specs.Pool.{appended}
use Rattle.linked_pool.proofs.pool.Pool.append.Goals as goal

pub returns-clause-ok : goal.returns-clause-ok
returns-clause-ok c =
    c.put_last.ensures.appended
    ∙ ap (appended c.args.self.now c.args.list)
    (ap bytes_of c.whole.ensures.bits ∙ bytes_of-bits_of c.args.block.now (λ k. omega (arith, c.type_inv.block k)))
