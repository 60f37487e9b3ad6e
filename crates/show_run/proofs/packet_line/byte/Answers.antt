use Rattle.std.proofs.Common.{◌≡◌, ℕ, ◌+◌, ◌-◌, ◌*◌, ◌%◌, ◌^◌, ◌<◌, ◌≤◌, length, take, drop, arith, ap, sym, ◌∙◌}
use Rattle.std.proofs.lemmas.List.{take_all, length-drop}
use Rattle.std.proofs.lemmas.Nat.{shl_below}
use Rattle.terms.specs.Bits.{number_of}
use Rattle.show_run.proofs.packet_line.byte.Goals as goal

-- a value of w bits, moved up to 8
moved : (v w : ℕ) → v < 2 ^ w → w ≤ 8 → v * 2 ^ (8 - w) < 2 ^ 8
moved v w small h =
    let e : w + (8 - w) ≡ 8 = omega arith in
    rw e at (shl_below v w (8 - w) small)

pub overflow_cast-result-else-left-ge8 : goal.overflow_cast-result-else-left-ge8
overflow_cast-result-else-left-ge8 c =
    let h = moved c.field-else-left-ge8.result (c.len.result - 8 * c.args.k) c.field-else-left-ge8.ensures.small
    (omega arith) in
    omega (arith, h)

pub returns-else-left-ge8 : goal.returns-else-left-ge8
returns-else-left-ge8 c =
    let left : ℕ = c.len.result - 8 * c.args.k in
    let h = moved c.field-else-left-ge8.result (c.len.result - 8 * c.args.k) c.field-else-left-ge8.ensures.small
    (omega arith) in
    let size : length (drop (8 * c.args.k) c.args.bits.now) ≡ left = simp length-drop (omega arith) in
    let all : take left (drop (8 * c.args.k) c.args.bits.now) ≡ drop (8 * c.args.k) c.args.bits.now =
    take_all left (drop (8 * c.args.k) c.args.bits.now) (omega arith) in
    let eight : take 8 (drop (8 * c.args.k) c.args.bits.now) ≡ drop (8 * c.args.k) c.args.bits.now =
    take_all 8 (drop (8 * c.args.k) c.args.bits.now) (omega arith) in
    let value : c.field-else-left-ge8.result ≡ number_of (take 8 (drop (8 * c.args.k) c.args.bits.now)) =
    c.field-else-left-ge8.ensures.value ∙ ap number_of (all ∙ sym eight) in
    let fits : c.field-else-left-ge8.result * 2 ^ (8 - left) % 2 ^ 64 ≡ c.field-else-left-ge8.result * 2 ^ (8 - left) =
    omega (arith, h) in
    fits ∙ ap (λ (x : ℕ). x * 2 ^ (8 - left)) value
    ∙ ap (λ (x : ℕ). number_of (take 8 (drop (8 * c.args.k) c.args.bits.now)) * 2 ^ (8 - x)) (sym size)
