use Rattle.std.proofs.Common.{◌≡◌, ◌+◌, ◌*◌, ◌/◌, take, length, sym, ◌∙◌, arith}
use Rattle.bit_slice.proofs.JoinLemmas.{word_more, word_of}
use Rattle.bit_slice.proofs.same.same_words.Goals as goal

pub returns-then-field : goal.returns-then-field
returns-then-field c =
    let a = c.args.a.now in
    let b = c.args.b.now in (
      λ f. cc,
      λ e. absurd (c.if-field.true (c.field.ensures.value ∙ word_of a b (64 * c.loop-k.k) 64 (64 * (length a / 64))
          (omega (arith, c.len-k-end.ensures.len)) e
          ∙ sym c.field-in-loop-k.ensures.value)),
    )

pub loop-k-preserved : goal.loop-k-preserved
loop-k-preserved c =
    let a = c.args.a.now in
    let b = c.args.b.now in
    let at = 64 * c.loop-k.k in
    let next : 64 * (c.loop-k.k + 1) ≡ 64 * c.loop-k.k + 64 = omega arith in
    let more : take (64 * (c.loop-k.k + 1)) a ≡ take (64 * (c.loop-k.k + 1)) b =
    rw next (word_more a b at 64 (omega (arith, c.len-k-end.ensures.len))
    (omega (arith, c.len-k-end.ensures.len, c.requires))
    c.loop-k.invariant
    (sym c.field.ensures.value ∙ c.if-field.false ∙ c.field-in-loop-k.ensures.value)) in
    more
