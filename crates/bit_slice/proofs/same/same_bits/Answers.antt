use Rattle.std.proofs.Common.{◌*◌, ◌/◌, ◌%◌, arith}
use Rattle.bit_slice.proofs.JoinLemmas.{words_same}
use Rattle.bit_slice.proofs.same.same_bits.Goals as goal

pub returns : goal.returns
returns c =
    let at = 64 * (c.len-len.result / 64) in
    let rest = c.len-len.result % 64 in
    let words = rw (← c.len-len.ensures.len) at (rw (c.if-not-same_words.false) at c.same_words.ensures) in
    words_same c.args.a.now c.args.b.now at rest c.field.result c.field-2.result (omega (arith, c.len-len.ensures.len))
    (omega (arith, c.len-len.ensures.len, c.len.ensures.len, c.if-len.false))
    words c.field.ensures.value c.field-2.ensures.value
