-- Bits that fill bytes.
use Rattle.std.proofs.Common.{◌≡◌, ℕ, zero, suc, ◌-◌, ◌*◌, ◌^◌, ◌<◌, Bool, List, length, take, drop, ap, ap₂, sym, ◌∙◌}
use Rattle.std.proofs.Common.{arith}
use Rattle.std.proofs.lemmas.List.{take_all, length-drop}
use Rattle.terms.specs.Bits.{number_of, number_at, byte_at}

-- a number of fewer than eight bits, moved to the front of a byte
pub moved : (left v : ℕ) → left < 8 → v < 2 ^ left → v * 2 ^ (8 - left) < 256
moved zero v h s = omega (arith, s)
moved (suc zero) v h s = omega (arith, s)
moved (suc (suc zero)) v h s = omega (arith, s)
moved (suc (suc (suc zero))) v h s = omega (arith, s)
moved (suc (suc (suc (suc zero)))) v h s = omega (arith, s)
moved (suc (suc (suc (suc (suc zero))))) v h s = omega (arith, s)
moved (suc (suc (suc (suc (suc (suc zero)))))) v h s = omega (arith, s)
moved (suc (suc (suc (suc (suc (suc (suc zero))))))) v h s = omega (arith, s)
moved (suc (suc (suc (suc (suc (suc (suc (suc left)))))))) v h s = absurd (omega (arith, h))

-- the last byte
pub last_byte : (bits : List Bool) (k left v : ℕ) → left ≡ length bits - 8 * k → left < 8
    → v ≡ number_at bits (8 * k) left
    → v * 2 ^ (8 - left) ≡ byte_at bits k
last_byte bits k left v e h is =
    let d : length (drop (8 * k) bits) ≡ left = length-drop (8 * k) bits ∙ sym e in
    let all : take left (drop (8 * k) bits) ≡ take 8 (drop (8 * k) bits) =
    take_all left (drop (8 * k) bits) (omega (arith, d)) ∙ sym (take_all 8 (drop (8 * k) bits) (omega (arith, d, h))) in
    ap₂ (λ (n m : ℕ). n * 2 ^ (8 - m)) (is ∙ ap number_of all) (sym d)
