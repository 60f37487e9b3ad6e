-- What bytes make of the register, by what zero bits make of a byte at its top: the laws that tables rest on.
use Rattle.std.proofs.Common.{◌≡◌, ℕ, zero, suc, ◌+◌, ◌-◌, ◌*◌, ◌/◌, ◌%◌, ◌^◌, ◌<◌, ◌≤◌, List, [], ◌∷◌, length, get_or}
use Rattle.std.proofs.Common.{refl, ap}
use Rattle.std.proofs.Common.{sym, ◌∙◌, arith}
use Rattle.std.specs.Prelude.{bit_xor}
use lib.Bits.{xor_assoc, xor_shifted, xor_zero_l, xor_zero_r}
use Rattle.std.proofs.lemmas.Nat.{xor_block, xor_comm, xor_lt, pow_pos, pow-add, shl_below, shr_below, shr_split}
use Rattle.std.proofs.lemmas.Nat.{mod_below}
use Rattle.std.proofs.lemmas.Nat.{mod_low}
use Rattle.terms.specs.Bits.{field, bits_of, number_of}
use Rattle.terms.proofs.BitLemmas.{length-field, length-bits_of, bits_of-append, number_of-field, four_bytes}
use Rattle.bit_slice.specs.Register.{register, zeros}
use Rattle.bit_slice.proofs.XorLemmas.{xor_turn}
use Rattle.bit_slice.proofs.ZerosLemmas.{zeros_lt, zeros_xor, zeros_low, zeros_moved, zeros-add, register-append}
use Rattle.bit_slice.proofs.ZerosLemmas.{register_is_zeros}

-- a byte: what it makes with the highest byte of the register is looked up, and the rest moves
pub register-byte : (d low : ℕ) → low < 2 ^ d → 8 ≤ d → (s b : ℕ) → s < 2 ^ d → b < 2 ^ 8 →
    register d low s (field 8 b) ≡ bit_xor (s * 2 ^ 8 % 2 ^ d)
    (zeros d low 8 (bit_xor (s / 2 ^ (d - 8)) b * 2 ^ (d - 8)))
register-byte d low small wide s b fits fits_b =
    let k : ℕ = d - 8 in
    let high : ℕ = s / 2 ^ k in
    let rest : ℕ = s % 2 ^ k in
    let whole : k + 8 ≡ d = omega arith in
    let turned : 8 + k ≡ d = omega arith in
    let fits_high : high < 2 ^ 8 = shr_below s 8 k (rw turned fits) in
    let fits_rest : rest < 2 ^ k = mod_below s (2 ^ k) (pow_pos k) in
    let room : rest * 2 ^ 8 < 2 ^ d = rw whole at (shl_below rest k 8 fits_rest) in
    let fits_top : bit_xor high b * 2 ^ k < 2 ^ d =
    rw turned at (shl_below (bit_xor high b) 8 k (xor_lt 8 high b fits_high fits_b)) in
    let size : 2 ^ k * 2 ^ 8 ≡ 2 ^ d = rw whole at (sym (pow-add 2 k 8)) in
    let less : rest < 2 ^ d = omega arith in
    let pos = pow_pos k in
    let e : b * 2 ^ k + 0 ≡ b * 2 ^ k = omega arith in
    let parts : bit_xor s (b * 2 ^ k) ≡ bit_xor (bit_xor high b * 2 ^ k) rest =
    ap (λ (x : ℕ). bit_xor x (b * 2 ^ k)) (sym (shr_split s k)) ∙ ap (bit_xor (high * 2 ^ k + rest)) (sym e)
    ∙ xor_block k high b rest 0 fits_rest pos ∙ ap (λ (x : ℕ). bit_xor high b * 2 ^ k + x) (xor_zero_r rest)
    ∙ sym (xor_shifted (bit_xor high b) k rest fits_rest) in
    let moved : s * 2 ^ 8 % 2 ^ d ≡ rest * 2 ^ 8 =
    let spelled : s * 2 ^ 8 ≡ high * 2 ^ d + rest * 2 ^ 8 = let w = shr_split s k in
    omega (arith, ap (λ (x : ℕ). x * 2 ^ 8) w, ap (λ (x : ℕ). high * x) size) in
    ap (λ (x : ℕ). x % 2 ^ d) spelled ∙ mod_low high d (rest * 2 ^ 8) room in
    let few : length (field 8 b) ≤ d = rw (length-field 8 b) wide in
    let bits : register d low s (field 8 b) ≡ zeros d low 8 (bit_xor s (b * 2 ^ k)) =
    rw (length-field 8 b, number_of-field 8 b fits_b) at (register_is_zeros d low small (field 8 b) s fits few) in
    bits ∙ ap (zeros d low 8) parts ∙ zeros_xor d low small 8 (bit_xor high b * 2 ^ k) rest fits_top less
    ∙ xor_comm (zeros d low 8 (bit_xor high b * 2 ^ k)) (zeros d low 8 rest)
    ∙ ap (λ (x : ℕ). bit_xor x (zeros d low 8 (bit_xor high b * 2 ^ k))) (zeros_low d low 8 rest room ∙ sym moved)

-- in a register of eight bits no byte is left below the highest one
pub register-eight-bits : (low s b : ℕ) → low < 2 ^ 8 → s < 2 ^ 8 → b < 2 ^ 8 → register 8 low s (field 8 b)
    ≡ zeros 8 low 8 (bit_xor s b * 2 ^ (8 - 8))
register-eight-bits low s b small fits fits_b = grind (arith, register-byte, xor_zero_l)

-- four tables: a word is the sum of its bytes, each of which moves to the top first
pub zeros-word : (low first x : ℕ) → low < 2 ^ 32 → x < 2 ^ 32 →
    bit_xor (bit_xor (bit_xor (zeros 32 low (8 * (first + 1)) (x % 2 ^ 8 * 2 ^ 24))
    (zeros 32 low (8 * (first + 1 + 1)) (x / 2 ^ 8 % 2 ^ 8 * 2 ^ 24)))
    (zeros 32 low (8 * (first + 2 + 1)) (x / 2 ^ 16 % 2 ^ 8 * 2 ^ 24)))
    (zeros 32 low (8 * (first + 3 + 1)) (x / 2 ^ 24 % 2 ^ 8 * 2 ^ 24))
    ≡ zeros 32 low (8 * (first + 4)) x
zeros-word low first x small fits =
    let n : ℕ = 8 * (first + 4) in
    let a : ℕ = x / 2 ^ 24 % 2 ^ 8 in
    let b : ℕ = x / 2 ^ 16 % 2 ^ 8 in
    let c : ℕ = x / 2 ^ 8 % 2 ^ 8 in
    let d : ℕ = x % 2 ^ 8 in
    let fits_cd : c * 2 ^ 8 + d < 2 ^ 16 = omega arith in
    let fits_bcd : b * 2 ^ 16 + (c * 2 ^ 8 + d) < 2 ^ 24 = omega arith in
    let spelled : a * 2 ^ 24 + (b * 2 ^ 16 + (c * 2 ^ 8 + d)) ≡ x = omega arith in
    let join_cd : bit_xor (c * 2 ^ 8) d ≡ c * 2 ^ 8 + d = xor_shifted c 8 d (omega arith) in
    let join_bcd : bit_xor (b * 2 ^ 16) (c * 2 ^ 8 + d) ≡ b * 2 ^ 16 + (c * 2 ^ 8 + d) =
    xor_shifted b 16 (c * 2 ^ 8 + d) fits_cd in
    let join : bit_xor (a * 2 ^ 24) (b * 2 ^ 16 + (c * 2 ^ 8 + d)) ≡ x = xor_shifted a 24 (b * 2 ^ 16 + (c * 2 ^ 8 + d))
    fits_bcd
    ∙ spelled in
    let size_d : 24 + 8 * (first + 1) ≡ n = omega arith in
    let size_c : 16 + 8 * (first + 1 + 1) ≡ n = omega arith in
    let size_b : 8 + 8 * (first + 2 + 1) ≡ n = omega arith in
    let size_a : 8 * (first + 3 + 1) ≡ n = omega arith in
    let at_d : zeros 32 low n d ≡ zeros 32 low (8 * (first + 1)) (d * 2 ^ 24) =
    ap (λ (k : ℕ). zeros 32 low k d) (sym size_d) ∙ zeros_moved 32 low 24 (8 * (first + 1)) d (d * 2 ^ 24)
    refl (omega arith) in
    let at_c : zeros 32 low n (c * 2 ^ 8) ≡ zeros 32 low (8 * (first + 1 + 1)) (c * 2 ^ 24) =
    ap (λ (k : ℕ). zeros 32 low k (c * 2 ^ 8)) (sym size_c) ∙ zeros_moved 32 low 16 (8 * (first + 1 + 1))
    (c * 2 ^ 8) (c * 2 ^ 24)
    (omega arith) (omega arith) in
    let at_b : zeros 32 low n (b * 2 ^ 16) ≡ zeros 32 low (8 * (first + 2 + 1)) (b * 2 ^ 24) =
    ap (λ (k : ℕ). zeros 32 low k (b * 2 ^ 16)) (sym size_b) ∙ zeros_moved 32 low 8 (8 * (first + 2 + 1)) (b * 2 ^ 16)
    (b * 2 ^ 24) (omega arith) (omega arith) in
    let at_a : zeros 32 low n (a * 2 ^ 24) ≡ zeros 32 low (8 * (first + 3 + 1)) (a * 2 ^ 24) =
    ap (λ (k : ℕ). zeros 32 low k (a * 2 ^ 24)) (sym size_a) in
    let sum_cd : zeros 32 low n (c * 2 ^ 8 + d) ≡ bit_xor (zeros 32 low n (c * 2 ^ 8)) (zeros 32 low n d) =
    ap (zeros 32 low n) (sym join_cd) ∙ zeros_xor 32 low small n (c * 2 ^ 8) d (omega arith) (omega arith) in
    let sum_bcd : zeros 32 low n (b * 2 ^ 16 + (c * 2 ^ 8 + d)) ≡ bit_xor (zeros 32 low n (b * 2 ^ 16))
    (zeros 32 low n (c * 2 ^ 8 + d)) =
    ap (zeros 32 low n) (sym join_bcd) ∙ zeros_xor 32 low small n (b * 2 ^ 16) (c * 2 ^ 8 + d) (omega arith)
    (omega arith) in
    let sum : zeros 32 low n x ≡ bit_xor (zeros 32 low n (a * 2 ^ 24)) (zeros 32 low n (b * 2 ^ 16 + (c * 2 ^ 8 + d))) =
    ap (zeros 32 low n) (sym join) ∙ zeros_xor 32 low small n (a * 2 ^ 24) (b * 2 ^ 16 + (c * 2 ^ 8 + d)) (omega arith)
    (omega arith) in
    rw (← at_d, ← at_c, ← at_b, ← at_a)
    (xor_turn (zeros 32 low n (a * 2 ^ 24)) (zeros 32 low n (b * 2 ^ 16)) (zeros 32 low n (c * 2 ^ 8))
    (zeros 32 low n d)
    ∙ ap (λ (y : ℕ). bit_xor (zeros 32 low n (a * 2 ^ 24)) (bit_xor (zeros 32 low n (b * 2 ^ 16)) y)) (sym sum_cd)
    ∙ ap (bit_xor (zeros 32 low n (a * 2 ^ 24))) (sym sum_bcd) ∙ sym sum)

-- four bytes are 32 zero bits of a sum with their number
register-word : (low s : ℕ) (bytes : List ℕ) → low < 2 ^ 32 → s < 2 ^ 32 → length bytes ≡ 4 →
    register 32 low s (bits_of bytes) ≡ zeros 32 low 32 (bit_xor s (number_of (bits_of bytes)))
register-word low s bytes small fits size = grind (arith, length-bits_of, register_is_zeros)

-- Four bytes are 32 zero bits of the sum of the register and their word.
pub register-four : (low s : ℕ) (bytes : List ℕ) → low < 2 ^ 32 → s < 2 ^ 32 → length bytes ≡ 4
    → ((i : ℕ) → get_or bytes i 0 < 256)
    →
    zeros 32 low 32
    (bit_xor s (get_or bytes 0 0 * 2 ^ 24 + get_or bytes 1 0 * 2 ^ 16 + get_or bytes 2 0 * 2 ^ 8 + get_or bytes 3 0))
    ≡ register 32 low s (bits_of bytes)
register-four low s (a ∷ b ∷ c ∷ d ∷ []) small fits size each =
    sym (register-word low s (a ∷ b ∷ c ∷ d ∷ []) small fits refl
    ∙ ap (λ (n : ℕ). zeros 32 low 32 (bit_xor s n)) (four_bytes a b c d (each 0) (each 1) (each 2) (each 3)))
register-four low s bytes small fits size each = absurd (omega arith)

-- eight bytes are 32 zero bits of the last four and 64 of the sum of the register and the first four.
register-eight : (low s : ℕ) (bytes : List ℕ) → low < 2 ^ 32 → s < 2 ^ 32 → length bytes ≡ 8
    → ((i : ℕ) → get_or bytes i 0 < 256)
    →
    bit_xor (zeros 32 low 32 (get_or bytes 4 0 * 2 ^ 24 + get_or bytes 5 0 * 2 ^ 16 + get_or bytes 6 0 * 2 ^ 8
    + get_or bytes 7 0))
    (zeros 32 low 64
    (bit_xor s (get_or bytes 0 0 * 2 ^ 24 + get_or bytes 1 0 * 2 ^ 16 + get_or bytes 2 0 * 2 ^ 8 + get_or bytes 3 0)))
    ≡ register 32 low s (bits_of bytes)
register-eight low s (a ∷ b ∷ c ∷ d ∷ e ∷ f ∷ g ∷ h ∷ []) small fits size each =
    let front : List ℕ = a ∷ b ∷ c ∷ d ∷ [] in
    let back : List ℕ = e ∷ f ∷ g ∷ h ∷ [] in
    let x : ℕ = a * 2 ^ 24 + b * 2 ^ 16 + c * 2 ^ 8 + d in
    let y : ℕ = e * 2 ^ 24 + f * 2 ^ 16 + g * 2 ^ 8 + h in
    let is_x = four_bytes a b c d (each 0) (each 1) (each 2) (each 3) in
    let is_y = four_bytes e f g h (each 4) (each 5) (each 6) (each 7) in
    let fits_x : x < 2 ^ 32 = let p = each 0 in let q = each 1 in let r = each 2 in let t = each 3 in omega arith in
    let fits_y : y < 2 ^ 32 = let p = each 4 in let q = each 5 in let r = each 6 in let t = each 7 in omega arith in
    let fits_sum : bit_xor s x < 2 ^ 32 = xor_lt 32 s x fits fits_x in
    let middle : ℕ = zeros 32 low 32 (bit_xor s x) in
    let fits_middle : middle < 2 ^ 32 = zeros_lt 32 low small 32 (bit_xor s x) fits_sum in
    let first : register 32 low s (bits_of front) ≡ middle = register-word low s front small fits refl
    ∙ ap (λ (n : ℕ). zeros 32 low 32 (bit_xor s n)) is_x in
    let second : register 32 low middle (bits_of back) ≡ zeros 32 low 32 (bit_xor middle y) =
    register-word low middle back small fits_middle refl ∙ ap (λ (n : ℕ). zeros 32 low 32 (bit_xor middle n)) is_y in
    xor_comm (zeros 32 low 32 y) (zeros 32 low 64 (bit_xor s x))
    ∙ ap (λ (n : ℕ). bit_xor n (zeros 32 low 32 y)) (zeros-add 32 low 32 32 (bit_xor s x))
    ∙ sym (zeros_xor 32 low small 32 middle y fits_middle fits_y)
    ∙ sym (ap (register 32 low s) (bits_of-append front back) ∙ register-append 32 low s (bits_of front) (bits_of back)
    ∙ ap (λ (n : ℕ). register 32 low n (bits_of back)) first ∙ second)
register-eight low s bytes small fits size each = absurd (omega arith)

-- four parts, of which the last two are read as one
joined_turn : (a b c d : ℕ) → bit_xor (bit_xor (bit_xor a b) c) d ≡ bit_xor a (bit_xor (bit_xor c d) b)
joined_turn a b c d = xor_assoc (bit_xor a b) c d ∙ xor_assoc a b (bit_xor c d)
    ∙ ap (bit_xor a) (xor_comm b (bit_xor c d))

-- eight bytes more behind eight bytes
eight_more : (low s m x y u v : ℕ) → low < 2 ^ 32 → s < 2 ^ 32 → x < 2 ^ 32 → y < 2 ^ 32 → u < 2 ^ 32 →
    bit_xor (zeros 32 low 32 y) (zeros 32 low 64 (bit_xor s x)) ≡ m →
    bit_xor (bit_xor (bit_xor (zeros 32 low 32 v) (zeros 32 low 64 u)) (zeros 32 low 96 y))
    (zeros 32 low 128 (bit_xor s x))
    ≡ bit_xor (zeros 32 low 32 v) (zeros 32 low 64 (bit_xor m u))
eight_more low s m x y u v small fits fits_x fits_y fits_u is =
    let f : ℕ = bit_xor s x in
    let fits_f : f < 2 ^ 32 = xor_lt 32 s x fits fits_x in
    let back : ℕ = zeros 32 low 32 y in
    let front : ℕ = zeros 32 low 64 f in
    let fits_back : back < 2 ^ 32 = zeros_lt 32 low small 32 y fits_y in
    let fits_front : front < 2 ^ 32 = zeros_lt 32 low small 64 f fits_f in
    let fits_m : bit_xor back front < 2 ^ 32 = xor_lt 32 back front fits_back fits_front in
    let on : zeros 32 low 64 (bit_xor back front) ≡ bit_xor (zeros 32 low 96 y) (zeros 32 low 128 f) =
    zeros_xor 32 low small 64 back front fits_back fits_front
    ∙ ap (λ (n : ℕ). bit_xor n (zeros 32 low 64 front)) (sym (zeros-add 32 low 32 64 y))
    ∙ ap (bit_xor (zeros 32 low 96 y)) (sym (zeros-add 32 low 64 64 f)) in
    joined_turn (zeros 32 low 32 v) (zeros 32 low 64 u) (zeros 32 low 96 y) (zeros 32 low 128 f)
    ∙ ap (λ (n : ℕ). bit_xor (zeros 32 low 32 v) (bit_xor n (zeros 32 low 64 u))) (sym on)
    ∙ ap (bit_xor (zeros 32 low 32 v)) (sym (zeros_xor 32 low small 64 (bit_xor back front) u fits_m fits_u))
    ∙ ap (λ (n : ℕ). bit_xor (zeros 32 low 32 v) (zeros 32 low 64 (bit_xor n u))) is

each_front : (a b c d e f g h : ℕ) → a < 256 → b < 256 → c < 256 → d < 256 → e < 256 → f < 256 → g < 256
    → h < 256 → (i : ℕ)
    → get_or (a ∷ b ∷ c ∷ d ∷ e ∷ f ∷ g ∷ h ∷ []) i 0 < 256
each_front a b c d e f g h k0 k1 k2 k3 k4 k5 k6 k7 zero = k0
each_front a b c d e f g h k0 k1 k2 k3 k4 k5 k6 k7 (suc zero) = k1
each_front a b c d e f g h k0 k1 k2 k3 k4 k5 k6 k7 (suc (suc zero)) = k2
each_front a b c d e f g h k0 k1 k2 k3 k4 k5 k6 k7 (suc (suc (suc zero))) = k3
each_front a b c d e f g h k0 k1 k2 k3 k4 k5 k6 k7 (suc (suc (suc (suc zero)))) = k4
each_front a b c d e f g h k0 k1 k2 k3 k4 k5 k6 k7 (suc (suc (suc (suc (suc zero))))) = k5
each_front a b c d e f g h k0 k1 k2 k3 k4 k5 k6 k7 (suc (suc (suc (suc (suc (suc zero)))))) = k6
each_front a b c d e f g h k0 k1 k2 k3 k4 k5 k6 k7 (suc (suc (suc (suc (suc (suc (suc zero))))))) = k7
each_front a b c d e f g h k0 k1 k2 k3 k4 k5 k6 k7 (suc (suc (suc (suc (suc (suc (suc (suc i)))))))) = omega arith

-- Sixteen bytes are 32, 64, 96 and 128 zero bits of their words, the last word first, and the first one with the
-- register.
pub register-sixteen : (low s : ℕ) (bytes : List ℕ) → low < 2 ^ 32 → s < 2 ^ 32 → length bytes ≡ 16
    → ((i : ℕ) → get_or bytes i 0 < 256) →
    bit_xor (bit_xor
    (bit_xor
    (zeros 32 low 32 (get_or bytes 12 0 * 2 ^ 24 + get_or bytes 13 0 * 2 ^ 16 + get_or bytes 14 0 * 2 ^ 8
    + get_or bytes 15 0))
    (zeros 32 low 64 (get_or bytes 8 0 * 2 ^ 24 + get_or bytes 9 0 * 2 ^ 16 + get_or bytes 10 0 * 2 ^
    8 + get_or bytes 11 0)))
    (zeros 32 low 96 (get_or bytes 4 0 * 2 ^ 24 + get_or bytes 5 0 * 2 ^ 16 + get_or bytes 6 0 * 2 ^
    8 + get_or bytes 7 0)))
    (zeros 32 low 128
    (bit_xor s (get_or bytes 0 0 * 2 ^ 24 + get_or bytes 1 0 * 2 ^ 16 + get_or bytes 2 0 * 2 ^ 8 + get_or bytes 3 0)))
    ≡ register 32 low s (bits_of bytes)
register-sixteen low s (a ∷ b ∷ c ∷ d ∷ e ∷ f ∷ g ∷ h ∷ i ∷ j ∷ k ∷ l ∷ m ∷ n ∷ o ∷ p ∷ []) small fits size each =
    let front : List ℕ = a ∷ b ∷ c ∷ d ∷ e ∷ f ∷ g ∷ h ∷ [] in
    let back : List ℕ = i ∷ j ∷ k ∷ l ∷ m ∷ n ∷ o ∷ p ∷ [] in
    let x : ℕ = a * 2 ^ 24 + b * 2 ^ 16 + c * 2 ^ 8 + d in
    let y : ℕ = e * 2 ^ 24 + f * 2 ^ 16 + g * 2 ^ 8 + h in
    let u : ℕ = i * 2 ^ 24 + j * 2 ^ 16 + k * 2 ^ 8 + l in
    let v : ℕ = m * 2 ^ 24 + n * 2 ^ 16 + o * 2 ^ 8 + p in
    let fits_x : x < 2 ^ 32 = let q = each 0 in let r = each 1 in let t = each 2 in let w = each 3 in omega arith in
    let fits_y : y < 2 ^ 32 = let q = each 4 in let r = each 5 in let t = each 6 in let w = each 7 in omega arith in
    let fits_u : u < 2 ^ 32 = let q = each 8 in let r = each 9 in let t = each 10 in let w = each 11 in omega arith in
    let of_front : (q : ℕ) → get_or front q 0 < 256 = each_front a b c d e f g h (each 0) (each 1) (each 2)
    (each 3) (each 4)
    (each 5) (each 6) (each 7) in
    let of_back : (q : ℕ) → get_or back q 0 < 256 = λ q. each (suc (suc (suc (suc (suc (suc (suc (suc q)))))))) in
    let first = register-eight low s front small fits refl of_front in
    let middle : ℕ = register 32 low s (bits_of front) in
    let sum : ℕ = bit_xor (zeros 32 low 32 y) (zeros 32 low 64 (bit_xor s x)) in
    let fits_sum : sum < 2 ^ 32 = xor_lt 32 (zeros 32 low 32 y) (zeros 32 low 64 (bit_xor s x))
    (zeros_lt 32 low small 32 y fits_y) (zeros_lt 32 low small 64 (bit_xor s x) (xor_lt 32 s x fits fits_x)) in
    let fits_middle : middle < 2 ^ 32 = rw (← first) fits_sum in
    let second = register-eight low middle back small fits_middle refl of_back in
    eight_more low s middle x y u v small fits fits_x fits_y fits_u first
    ∙ second
    ∙ sym (ap (register 32 low s) (bits_of-append front back) ∙ register-append 32 low s (bits_of front) (bits_of back))
register-sixteen low s bytes small fits size each = absurd (omega arith)
