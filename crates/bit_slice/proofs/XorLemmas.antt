-- Sums of polynomials over two elements.
use Rattle.std.proofs.Common.{◌≡◌, ℕ, ◌+◌, ◌*◌, ◌^◌, ap, sym, ◌∙◌, arith}
use Rattle.std.specs.Prelude.{bit_xor}
use lib.Bits.{xor_assoc, xor_self}
use Rattle.std.proofs.lemmas.Nat.{xor_block, xor_comm, pow_pos}

-- a shift of a sum
pub xor_shl : (a b k : ℕ) → bit_xor (a * 2 ^ k) (b * 2 ^ k) ≡ bit_xor a b * 2 ^ k
xor_shl a b k =
    let pos = pow_pos k in
    let e = xor_block k a b 0 0 pos pos in
    let ea : a * 2 ^ k + 0 ≡ a * 2 ^ k = omega arith in
    let eb : b * 2 ^ k + 0 ≡ b * 2 ^ k = omega arith in
    let ec : bit_xor a b * 2 ^ k + 0 ≡ bit_xor a b * 2 ^ k = omega arith in
    rw (ea, eb) at e ∙ ec

-- a sum taken twice
pub xor_twice : (a b : ℕ) → bit_xor a (bit_xor b a) ≡ b
xor_twice a b = ap (bit_xor a) (xor_comm b a) ∙ sym (xor_assoc a a b) ∙ ap (λ (x : ℕ). bit_xor x b) (xor_self a)

-- two sums of two
pub xor_swap : (a b c d : ℕ) → bit_xor (bit_xor a b) (bit_xor c d) ≡ bit_xor (bit_xor a c) (bit_xor b d)
xor_swap a b c d = grind (arith, xor_assoc, xor_comm)

-- a sum of four from the last on
pub xor_turn : (a b c d : ℕ) → bit_xor (bit_xor (bit_xor d c) b) a ≡ bit_xor a (bit_xor b (bit_xor c d))
xor_turn a b c d =
    xor_comm (bit_xor (bit_xor d c) b) a ∙ ap (bit_xor a) (xor_comm (bit_xor d c) b ∙ ap (bit_xor b) (xor_comm d c))
