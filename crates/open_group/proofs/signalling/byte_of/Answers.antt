use Rattle.std.proofs.Common.{◌≡◌, ◌<◌, ◌*◌, ◌^◌, ◌-◌, ◌%◌, ap, arith, ◌∙◌}
use Rattle.open_group.proofs.ByteLemmas.{moved, last_byte}
use Rattle.open_group.proofs.signalling.byte_of.Goals as goal

pub overflow_cast-result-2 : goal.overflow_cast-result-2
overflow_cast-result-2 c =
    let left = c.len.result - 8 * c.args.k in
    let m : c.field-value.result * 2 ^ (8 - left) < 256 =
    moved left c.field-value.result (omega (arith, c.if-left-ge8.false)) c.field-value.ensures.small in
    omega (arith, m)

pub returns : goal.returns
returns c =
    let left = c.len.result - 8 * c.args.k in
    let m : c.field-value.result * 2 ^ (8 - left) < 256 =
    moved left c.field-value.result (omega (arith, c.if-left-ge8.false)) c.field-value.ensures.small in
    let same : c.field-value.result * 2 ^ (8 - left) % 18446744073709551616 ≡ c.field-value.result * 2 ^ (8 - left) =
    omega (arith, m) in
    same ∙ last_byte c.args.bits.now c.args.k left c.field-value.result (ap (λ n. n - 8 * c.args.k) c.len.ensures.len)
    (omega (arith, c.if-left-ge8.false)) c.field-value.ensures.value
