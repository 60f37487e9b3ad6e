use Rattle.std.proofs.Common.{◌≡◌, ◌-◌, ◌+◌, length, List, Bool, ap, sym, ◌∙◌, arith, length-append}
use Rattle.terms.specs.Bits.{number_of, number_at}
use Rattle.bit_slice.proofs.JoinLemmas.{behind_part, seam_read}
use Rattle.bit_slice.proofs.joined.Joined.field.Goals as goal
use Rattle.terms.proofs.BitLemmas.{number_at-lt}

pub returns-then-at-seam-clause-value : goal.returns-then-at-seam-clause-value
returns-then-at-seam-clause-value c =
    let value = rw (c.len-seam.ensures.len) at c.field.ensures.value in
    value ∙ sym
    (ap number_of (behind_part c.self.inside.front c.self.inside.back c.args.at c.args.width
    (omega (arith, c.len-seam.ensures.len))))
    ∙ ap (λ (bits : List Bool). number_at bits c.args.at c.args.width) c.self.view_is

pub returns-clause-value : goal.returns-clause-value
returns-clause-value c =
    let front = c.self.inside.front in
    let back = c.self.inside.back in
    let size : length c.args.self.now ≡ length front + length back = sym (ap length c.self.view_is)
    ∙ length-append front back in
    seam_read front back c.args.at c.args.width (c.len-seam.result - c.args.at) c.field-2.result c.field-3.result
    (omega (arith, c.len-seam.ensures.len))
    (omega (arith, c.len-seam.ensures.len)) (omega arith) c.requires.narrow
    (omega (arith, size, c.len-seam.ensures.len))
    c.field-2.ensures.value c.field-3.ensures.value
    ∙ ap (λ (bits : List Bool). number_at bits c.args.at c.args.width) c.self.view_is

pub returns-clause-small : goal.returns-clause-small
returns-clause-small c = rw (returns-clause-value c) (number_at-lt c.args.self.now c.args.at c.args.width
    c.requires.inside)
