use Rattle.std.proofs.Common.{◌≡◌, arith}
use Rattle.std.proofs.lemmas.List.{append-nil}
use Rattle.terms.proofs.BitLemmas.{field-number_at}
use Rattle.bit_slice.proofs.filling.put_part.Goals as goal

pub returns-then-width-eq0-clause-holds : goal.returns-then-width-eq0-clause-holds
returns-then-width-eq0-clause-holds c = λ front long held.
    let none : c.args.width ≡ 0 = omega arith in rw (none, append-nil front) held

pub returns-clause-holds : goal.returns-clause-holds
returns-clause-holds c = λ front long held.
    rw (c.field.ensures.value, field-number_at c.args.bits.now c.args.at c.args.width c.requires.part) at
    (c.put_field.ensures.holds front long held)
