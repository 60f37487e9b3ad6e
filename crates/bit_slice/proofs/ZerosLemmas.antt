-- What zero bits make of the register: a sum goes through them, and what stands low only moves. So a run of bits makes
-- of the register what as many zero bits make of a sum.
use Rattle.std.proofs.Common.{◌≡◌, ℕ, zero, suc, ◌+◌, ◌-◌, ◌*◌, ◌/◌, ◌%◌, ◌^◌, ◌<◌, ◌≤◌, ◌==◌, Bool, true, false, cond}
use Rattle.std.proofs.Common.{List, []}
use Rattle.std.proofs.Common.{◌∷◌, ◌++◌, length, refl, ap, sym, ◌∙◌, arith}
use Rattle.std.specs.Prelude.{bit_xor}
use lib.Bits.{xor_assoc, xor_self, xor_shifted, xor_zero_l, xor_zero_r}
use Rattle.std.proofs.lemmas.Nat.{xor_lt, xor_shr, xor_mod, pow_pos, pow-add, shl_below, shl-shr, mod_low}
use Rattle.std.proofs.Math.Nat.{pow-succ', mod-eq_of_lt, div-eq_of_lt, le-mul_of_pos_right}
use Rattle.terms.specs.Bits.{number_of}
use Rattle.terms.proofs.BitLemmas.{number_of-lt}
use Rattle.bit_slice.specs.Register.{differ, step, register, zeros}
use Rattle.bit_slice.proofs.XorLemmas.{xor_shl, xor_swap}
use Rattle.bit_slice.proofs.CrcLemmas.{step_lt, top_lt, number_is}

-- ---- one zero bit
-- the generator as a product with the bit that leaves
fed : (t x low : ℕ) → t < 2 → cond (differ (t == 1) false) (bit_xor x low) x ≡ bit_xor x (t * low)
fed zero x low h = let e : 0 * low ≡ 0 = omega arith in rw e (sym (xor_zero_r x))
fed (suc zero) x low h = let e : 1 * low ≡ low = omega arith in rw e refl
fed (suc (suc t)) x low h = absurd (omega arith)

step_zero : (d low s : ℕ) → s < 2 ^ d → step d low s false ≡ bit_xor (s * 2 % 2 ^ d) (s * 2 / 2 ^ d * low)
step_zero d low s fits = fed (s * 2 / 2 ^ d) (s * 2 % 2 ^ d) low (top_lt d s fits)

xor_times : (s t low : ℕ) → s < 2 → t < 2 → bit_xor s t * low ≡ bit_xor (s * low) (t * low)
xor_times zero t low h k =
    let e : 0 * low ≡ 0 = omega arith in
    ap (λ (x : ℕ). x * low) (xor_zero_l t) ∙ sym (ap (λ (x : ℕ). bit_xor x (t * low)) e ∙ xor_zero_l (t * low))
xor_times (suc zero) zero low h k = let e : 0 * low ≡ 0 = omega arith in rw e (sym (xor_zero_r (1 * low)))
xor_times (suc zero) (suc zero) low h k = let e : 0 * low ≡ 0 = omega arith in e ∙ sym (xor_self (1 * low))
xor_times (suc zero) (suc (suc t)) low h k = absurd (omega arith)
xor_times (suc (suc s)) t low h k = absurd (omega arith)

step_xor : (d low a b : ℕ) → low < 2 ^ d → a < 2 ^ d → b < 2 ^ d → step d low (bit_xor a b) false ≡ bit_xor
    (step d low a false)
    (step d low b false)
step_xor d low a b small fits_a fits_b =
    let twice : bit_xor a b * 2 ≡ bit_xor (a * 2) (b * 2) = sym (xor_shl a b 1) in
    let left : bit_xor a b * 2 / 2 ^ d ≡ bit_xor (a * 2 / 2 ^ d) (b * 2 / 2 ^ d) = ap (λ (x : ℕ). x / 2 ^ d) twice
    ∙ xor_shr (a * 2) (b * 2) d in
    let kept : bit_xor a b * 2 % 2 ^ d ≡ bit_xor (a * 2 % 2 ^ d) (b * 2 % 2 ^ d) = ap (λ (x : ℕ). x % 2 ^ d) twice
    ∙ xor_mod (a * 2) (b * 2) d in
    step_zero d low (bit_xor a b) (xor_lt d a b fits_a fits_b)
    ∙ rw (left, kept, xor_times (a * 2 / 2 ^ d) (b * 2 / 2 ^ d) low (top_lt d a fits_a) (top_lt d b fits_b)) refl
    ∙ xor_swap (a * 2 % 2 ^ d) (b * 2 % 2 ^ d) (a * 2 / 2 ^ d * low) (b * 2 / 2 ^ d * low)
    ∙ rw (step_zero d low a fits_a, step_zero d low b fits_b) refl

-- what stands low moves
step_low : (d low x : ℕ) → x * 2 < 2 ^ d → step d low x false ≡ x * 2
step_low d low x h = rw (div-eq_of_lt h, mod-eq_of_lt h) refl

turned : (t : ℕ) → t < 2 → differ (bit_xor t 1 == 1) false ≡ differ (t == 1) true
turned zero h = refl
turned (suc zero) h = refl
turned (suc (suc t)) h = absurd (omega arith)

-- a bit is a zero bit and a sum at the top
step_bit : (d low s : ℕ) (b : Bool) → 0 < d → s < 2 ^ d
    → step d low s b ≡ step d low (bit_xor s (cond b 1 0 * 2 ^ (d - 1))) false
step_bit d low s false some fits = let e : 0 * 2 ^ (d - 1) ≡ 0 = omega arith in rw (e, xor_zero_r s) refl
step_bit d low s true some fits =
    let x : ℕ = 1 * 2 ^ (d - 1) in
    let e : suc (d - 1) ≡ d = omega arith in
    let double : x * 2 ≡ 1 * 2 ^ d = let p = pow-succ' 2 (d - 1) in let q = ap (λ (k : ℕ). 2 ^ k) e in omega arith in
    let twice : bit_xor s x * 2 ≡ bit_xor (s * 2) (1 * 2 ^ d) = sym (xor_shl s x 1) ∙ ap (bit_xor (s * 2)) double in
    let pos = pow_pos d in
    let none : 1 * 2 ^ d % 2 ^ d ≡ 0 = let m = mod_low 1 d 0 pos in let z : 1 * 2 ^ d + 0 ≡ 1 * 2 ^ d = omega arith in
    rw z at m in
    let left : bit_xor s x * 2 / 2 ^ d ≡ bit_xor (s * 2 / 2 ^ d) 1 = ap (λ (y : ℕ). y / 2 ^ d) twice
    ∙ xor_shr (s * 2) (1 * 2 ^ d) d ∙ ap (bit_xor (s * 2 / 2 ^ d)) (shl-shr 1 d) in
    let kept : bit_xor s x * 2 % 2 ^ d ≡ s * 2 % 2 ^ d = ap (λ (y : ℕ). y % 2 ^ d) twice ∙ xor_mod (s * 2) (1 * 2 ^ d) d
    ∙ ap (bit_xor (s * 2 % 2 ^ d)) none ∙ xor_zero_r (s * 2 % 2 ^ d) in
    rw (left, kept, turned (s * 2 / 2 ^ d) (top_lt d s fits)) refl

-- ---- zero bits
pub zeros_lt : (d low : ℕ) → low < 2 ^ d → (n s : ℕ) → s < 2 ^ d → zeros d low n s < 2 ^ d
unfolding zeros
zeros_lt d low small zero s fits = fits
zeros_lt d low small (suc n) s fits = zeros_lt d low small n (step d low s false) (step_lt d low s false small)

pub zeros_xor : (d low : ℕ) → low < 2 ^ d → (n a b : ℕ) → a < 2 ^ d → b < 2 ^ d → zeros d low n (bit_xor a b)
    ≡ bit_xor (zeros d low n a) (zeros d low n b)
unfolding zeros
zeros_xor d low small zero a b fits_a fits_b = refl
zeros_xor d low small (suc n) a b fits_a fits_b =
    ap (zeros d low n) (step_xor d low a b small fits_a fits_b)
    ∙ zeros_xor d low small n (step d low a false) (step d low b false) (step_lt d low a false small)
    (step_lt d low b false small)

pub zeros_low : (d low n x : ℕ) → x * 2 ^ n < 2 ^ d → zeros d low n x ≡ x * 2 ^ n
unfolding zeros
zeros_low d low zero x fits = omega arith
zeros_low d low (suc n) x fits =
    let double : x * 2 ^ suc n ≡ x * 2 * 2 ^ n = let p = pow-succ' 2 n in rw p (omega arith) in
    let pos : 0 < 2 ^ n = pow_pos n in
    let less : x * 2 ≤ x * 2 * 2 ^ n = le-mul_of_pos_right (x * 2) pos in
    ap (zeros d low n) (step_low d low x (omega arith)) ∙ zeros_low d low n (x * 2) (omega arith) ∙ sym double

pub zeros-add : (d low m n s : ℕ) → zeros d low (m + n) s ≡ zeros d low n (zeros d low m s)
unfolding zeros
zeros-add d low zero n s = let e : 0 + n ≡ n = omega arith in ap (λ (k : ℕ). zeros d low k s) e
zeros-add d low (suc m) n s =
    let e : suc m + n ≡ suc (m + n) = omega arith in ap (λ (k : ℕ). zeros d low k s) e
    ∙ zeros-add d low m n (step d low s false)

-- ---- any bits
pub register-append : (d low s : ℕ) (xs ys : List Bool) → register d low s (xs ++ ys) ≡ register d low
    (register d low s xs) ys
register-append d low s [] ys = refl
register-append d low s (b ∷ xs) ys = register-append d low (step d low s b) xs ys

-- bits are as many zero bits of a sum at the top
pub register_is_zeros : (d low : ℕ) → low < 2 ^ d → (bs : List Bool) (s : ℕ) → s < 2 ^ d → length bs ≤ d →
    register d low s bs ≡ zeros d low (length bs) (bit_xor s (number_of bs * 2 ^ (d - length bs)))
unfolding zeros
register_is_zeros d low small [] s fits few = let e : 0 * 2 ^ (d - 0) ≡ 0 = omega arith in rw e (sym (xor_zero_r s))
register_is_zeros d low small (b ∷ bs) s fits few =
    let n : ℕ = length bs in
    let some : 0 < d = omega arith in
    let y : ℕ = number_of bs * 2 ^ (d - suc n) in
    let bit : ℕ = cond b 1 0 * 2 ^ (d - 1) in
    let e : suc (d - suc n) ≡ d - n = omega arith in
    let double : y * 2 ≡ number_of bs * 2 ^ (d - n) = let p = pow-succ' 2 (d - suc n) in rw (← e, p) (omega arith) in
    let whole : n + (d - n) ≡ d = omega arith in
    let below : y * 2 < 2 ^ d = rw double (rw whole at (shl_below (number_of bs) n (d - n) (number_of-lt bs))) in
    let moved : number_of bs * 2 ^ (d - n) ≡ step d low y false = sym (step_low d low y below ∙ double) in
    let f : suc (d - 1) ≡ d = omega arith in
    let half : 2 ^ d ≡ 2 * 2 ^ (d - 1) = rw f at (pow-succ' 2 (d - 1)) in
    let low_y : y < 2 ^ (d - 1) = omega arith in
    let fits_y : y < 2 ^ d = omega arith in
    let fits_bit : bit < 2 ^ d =
    elim b as (λ v. cond v 1 0 * 2 ^ (d - 1) < 2 ^ d) [
      | true ↦ (let pos = pow_pos (d - 1) in omega arith)
      | false ↦
          (let pos = pow_pos d in omega arith)
    ] in
    let place : n + (d - suc n) ≡ d - 1 = omega arith in
    let size : 2 ^ n * 2 ^ (d - suc n) ≡ 2 ^ (d - 1) = rw place at (sym (pow-add 2 n (d - suc n))) in
    let spelled : number_of (b ∷ bs) * 2 ^ (d - suc n) ≡ bit + y =
    ap (λ (k : ℕ). k * 2 ^ (d - suc n)) (number_is b bs)
    ∙ elim b as (λ v. (cond v 1 0 * 2 ^ n + number_of bs) * 2 ^ (d - suc n) ≡ cond v 1 0 * 2 ^ (d - 1) + y)
    [ true ↦ omega (arith, size) | false ↦ omega arith ] in
    let joined : bit_xor bit y ≡ bit + y = xor_shifted (cond b 1 0) (d - 1) y low_y in
    rw (step_bit d low s b some fits)
    (register_is_zeros d low small bs (step d low (bit_xor s bit) false) (step_lt d low (bit_xor s bit) false small)
    (omega arith)
    ∙ ap (zeros d low n) (ap (bit_xor (step d low (bit_xor s bit) false)) moved
    ∙ sym (step_xor d low (bit_xor s bit) y small (xor_lt d s bit fits fits_bit) fits_y)
    ∙ ap (λ (x : ℕ). step d low x false) (xor_assoc s bit y ∙ ap (bit_xor s) (joined ∙ sym spelled))))

-- what moves up by n places, if there is room
pub zeros_moved : (d low n m x y : ℕ) → x * 2 ^ n ≡ y → y < 2 ^ d → zeros d low (n + m) x ≡ zeros d low m y
zeros_moved d low n m x y e fits = grind (arith, zeros-add, zeros_low)

-- a register over bits that are put one behind the other
pub registered : (degree low s put_s next : ℕ) (put more all : List Bool) → put_s ≡ register degree low s put
    → next ≡ register degree low put_s more → all ≡ put ++ more →
    next ≡ register degree low s all
registered degree low s put_s next put more all is step joined = grind (arith, register-append)
