-- The register computes the remainder.
use Rattle.std.proofs.Common.{◌≡◌, ℕ, zero, suc, ◌+◌, ◌*◌, ◌/◌, ◌%◌, ◌^◌, ◌<◌, ◌≤◌, ◌==◌, Bool, true, false, cond, List}
use Rattle.std.proofs.Common.{[], ◌∷◌}
use Rattle.std.proofs.Common.{length, refl, ap, sym, ◌∙◌, arith, add_comm, add-one}
use Rattle.std.specs.Prelude.{bit_xor}
use lib.Bits.{xor_assoc}
use Rattle.std.proofs.lemmas.Nat.{xor_block, xor_lt, pow_pos, pow-add, shl_below, mod_below, div_below, div-add-mod'}
use Rattle.std.proofs.Math.Nat.{pow-succ'}
use Rattle.terms.specs.Bits.{number_of}
use Rattle.bit_slice.specs.Crc.{product, HasDegree, IsRemainder, remainder, dividend, crc_of, crc32_of, crc8_of}
use Rattle.bit_slice.specs.Laws.{CrcIsRemainder, Crc8IsRemainder}
use Rattle.bit_slice.specs.Register.{differ, step, register}
use Rattle.terms.proofs.BitLemmas.{number_of-lt}
use Rattle.bit_slice.proofs.XorLemmas.{xor_shl, xor_twice}
use Rattle.bit_slice.proofs.RemainderLemmas.{divided}

-- the highest bits of both parts, and the rest
split : (d n s b m : ℕ) → m < 2 ^ n → s < 2 ^ d →
    bit_xor ((b * 2 ^ n + m) * 2 ^ d) (s * 2 ^ suc n)
    ≡ bit_xor b (s * 2 / 2 ^ d) * 2 ^ (n + d) + bit_xor (m * 2 ^ d) (s * 2 % 2 ^ d * 2 ^ n)
split d n s b m below small =
    let t : ℕ = s * 2 / 2 ^ d in
    let u : ℕ = s * 2 % 2 ^ d in
    let k = pow-add 2 n d in
    let left : (b * 2 ^ n + m) * 2 ^ d ≡ b * 2 ^ (n + d) + m * 2 ^ d = rw k (omega arith) in
    let whole : s * 2 ≡ t * 2 ^ d + u = sym (div-add-mod' (s * 2) (2 ^ d)) in
    let right : s * 2 ^ suc n ≡ t * 2 ^ (n + d) + u * 2 ^ n =
    rw (k, pow-succ' 2 n) (let e = ap (λ (x : ℕ). x * 2 ^ n) whole in omega (arith, e)) in
    let first : m * 2 ^ d < 2 ^ (n + d) = shl_below m n d below in
    let pos = pow_pos d in
    let small_u : u < 2 ^ d = mod_below (s * 2) (2 ^ d) pos in
    let second : u * 2 ^ n < 2 ^ (n + d) = rw (add_comm n d) (shl_below u d n small_u) in
    rw (left, right) (xor_block (n + d) b t (m * 2 ^ d) (u * 2 ^ n) first second)

-- where the generator is added
added : (d n u m low : ℕ) → m < 2 ^ n → u < 2 ^ d → low < 2 ^ d →
    1 * 2 ^ (n + d) + bit_xor (m * 2 ^ d) (u * 2 ^ n)
    ≡ bit_xor ((2 ^ d + low) * 2 ^ n) (bit_xor (m * 2 ^ d) (bit_xor u low * 2 ^ n))
added d n u m low below small_u small =
    let y : ℕ = bit_xor (m * 2 ^ d) (u * 2 ^ n) in
    let l : ℕ = low * 2 ^ n in
    let k = pow-add 2 n d in
    let swap = add_comm n d in
    let first : m * 2 ^ d < 2 ^ (n + d) = shl_below m n d below in
    let second : u * 2 ^ n < 2 ^ (n + d) = rw swap (shl_below u d n small_u) in
    let small_l : l < 2 ^ (n + d) = rw swap (shl_below low d n small) in
    let small_y : y < 2 ^ (n + d) = xor_lt (n + d) (m * 2 ^ d) (u * 2 ^ n) first second in
    let small_z : bit_xor y l < 2 ^ (n + d) = xor_lt (n + d) y l small_y small_l in
    let g : (2 ^ d + low) * 2 ^ n ≡ 1 * 2 ^ (n + d) + l = rw k (omega arith) in
    let z : bit_xor (m * 2 ^ d) (bit_xor u low * 2 ^ n) ≡ 0 * 2 ^ (n + d) + bit_xor y l =
    ap (bit_xor (m * 2 ^ d)) (sym (xor_shl u low n)) ∙ sym (xor_assoc (m * 2 ^ d) (u * 2 ^ n) l) ∙ omega arith in
    sym (rw (g, z) (xor_block (n + d) 1 0 l (bit_xor y l) small_l small_z
    ∙ ap (λ (x : ℕ). 1 * 2 ^ (n + d) + x) (xor_twice l y)))

abbrev Divides : ℕ → ℕ → List Bool → ℕ → List Bool → Type 0
Divides d low bs s quotient =
    (length quotient ≡ length bs)
    × (bit_xor (number_of bs * 2 ^ d) (s * 2 ^ length bs) ≡ bit_xor (product quotient (2 ^ d + low))
    (register d low s bs))

pub step_lt : (d low s : ℕ) (b : Bool) → low < 2 ^ d → step d low s b < 2 ^ d
step_lt d low s b small = grind (arith, pow_pos, mod_below, xor_lt)

-- the bit that leaves the register
pub top_lt : (d s : ℕ) → s < 2 ^ d → s * 2 / 2 ^ d < 2
top_lt d s small = let pos = pow_pos d in let fits : s * 2 < 2 * 2 ^ d = omega arith in div_below (s * 2)
    (2 ^ d) 2 pos fits

-- the difference of two bits, as a number
differ_is : (t : ℕ) (b : Bool) → t < 2 → bit_xor (cond b 1 0) t ≡ cond (differ (t == 1) b) 1 0
differ_is zero true h = refl
differ_is zero false h = refl
differ_is (suc zero) true h = refl
differ_is (suc zero) false h = refl
differ_is (suc (suc t)) b h = absurd (omega arith)

pub number_is : (b : Bool) (bs : List Bool) → number_of (b ∷ bs) ≡ cond b 1 0 * 2 ^ length bs + number_of bs
number_is true bs = omega arith
number_is false bs = omega arith

finish : (d low n u m : ℕ) (v : Bool) (p r : ℕ) → m < 2 ^ n → u < 2 ^ d → low < 2 ^ d →
    bit_xor (m * 2 ^ d) (cond v (bit_xor u low) u * 2 ^ n) ≡ bit_xor p r →
    cond v 1 0 * 2 ^ (n + d) + bit_xor (m * 2 ^ d) (u * 2 ^ n) ≡ bit_xor (bit_xor (cond v ((2 ^ d + low) * 2 ^ n) 0) p)
    r
finish d low n u m true p r below small_u small e =
    added d n u m low below small_u small ∙ ap (bit_xor ((2 ^ d + low) * 2 ^ n)) e
    ∙ sym (xor_assoc ((2 ^ d + low) * 2 ^ n) p r)
finish d low n u m false p r below small_u small e = omega (arith, e)

begun : (d : ℕ) (b : Bool) (bs : List Bool) (s : ℕ) → s < 2 ^ d →
    bit_xor (number_of (b ∷ bs) * 2 ^ d) (s * 2 ^ suc (length bs))
    ≡ cond (differ (s * 2 / 2 ^ d == 1) b) 1 0 * 2 ^ (length bs + d) + bit_xor (number_of bs * 2 ^ d)
    (s * 2 % 2 ^ d * 2 ^ length bs)
begun d b bs s fits = grind (arith, number_is, split, number_of-lt, differ_is, top_lt)

-- the bits that come back are the quotient, and what stays in the register is the remainder
divides : (d low : ℕ) → low < 2 ^ d → (bs : List Bool) (s : ℕ) → s < 2 ^ d → (quotient : List Bool)
    × Divides d low bs s quotient
divides d low small [] s fits =
    let e : bit_xor (0 * 2 ^ d) (s * 2 ^ 0) ≡ bit_xor 0 s =
    let l : 0 * 2 ^ d ≡ 0 = omega arith in
    let r : s * 2 ^ 0 ≡ s = omega arith in
    rw (l, r) refl in
    ([], (refl, e))
divides d low small (b ∷ bs) s fits =
    let rest = divides d low small bs (step d low s b) (step_lt d low s b small) in
    let pos = pow_pos d in
    let small_u : s * 2 % 2 ^ d < 2 ^ d = mod_below (s * 2) (2 ^ d) pos in
    let same : bit_xor (number_of bs * 2 ^ d) (step d low s b * 2 ^ length bs) ≡ bit_xor (product rest.0 (2 ^ d + low))
    (register d low (step d low s b) bs) = rest.1.1 in
    let ended = finish d low (length bs) (s * 2 % 2 ^ d) (number_of bs) (differ (s * 2 / 2 ^ d == 1) b)
    (product rest.0 (2 ^ d + low)) (register d low (step d low s b) bs) (number_of-lt bs) small_u small same in
    (differ (s * 2 / 2 ^ d == 1) b ∷ rest.0, (ap suc rest.1.0, rw (rest.1.0) (begun d b bs s fits ∙ ended)))

has_degree : (d low : ℕ) → low < 2 ^ d → HasDegree (2 ^ d + low) d
has_degree d low small = let twice : 2 ^ (d + 1) ≡ 2 * 2 ^ d = rw add-one (pow-succ' 2 d) in (omega arith, omega arith)

register_lt : (d low : ℕ) → low < 2 ^ d → (bs : List Bool) (s : ℕ) → s < 2 ^ d → register d low s bs < 2 ^ d
register_lt d low small [] s fits = fits
register_lt d low small (b ∷ bs) s fits = register_lt d low small bs (step d low s b) (step_lt d low s b small)

-- What the register ends with is the remainder, and so what long division gives.
pub is_remainder : (d low : ℕ) → low < 2 ^ d → (bs : List Bool) (s : ℕ) → s < 2 ^ d
    → IsRemainder d (dividend d s bs) (2 ^ d + low) (register d low s bs)
is_remainder d low small bs s fits =
    let found = divides d low small bs s fits in
    (register_lt d low small bs s fits, (found.0, found.1.1))

pub crc_of_is : (d low : ℕ) → low < 2 ^ d → (bs : List Bool) (s : ℕ) → s < 2 ^ d → crc_of d (2 ^ d + low) s bs
    ≡ register d low s bs
crc_of_is d low small bs s fits =
    let found = divides d low small bs s fits in
    let few : length found.0 ≤ length bs = omega (arith, found.1.0) in
    ap (remainder d (2 ^ d + low) (length bs)) found.1.1
    ∙ divided d (2 ^ d + low) (has_degree d low small) (length bs) found.0 (register d low s bs)
    (register_lt d low small bs s fits) few

pub crc32_of_is : (w : List Bool) → crc32_of w ≡ register 32 0x04C1_1DB7 0xFFFF_FFFF w
unfolding crc32_of
crc32_of_is w = crc_of_is 32 0x04C1_1DB7 (omega arith) w 0xFFFF_FFFF (omega arith)

pub crc_is_remainder : CrcIsRemainder
unfolding crc32_of
crc_is_remainder w = rw (crc32_of_is w) (is_remainder 32 0x04C1_1DB7 (omega arith) w 0xFFFF_FFFF (omega arith))

pub crc8_of_is : (w : List Bool) → crc8_of w ≡ register 8 0xD5 0 w
unfolding crc8_of
crc8_of_is w = crc_of_is 8 0xD5 (omega arith) w 0 (omega arith)

pub crc8_is_remainder : Crc8IsRemainder
unfolding crc8_of
crc8_is_remainder w = rw (crc8_of_is w) (is_remainder 8 0xD5 (omega arith) w 0 (omega arith))
