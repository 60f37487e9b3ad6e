-- Sums stand for the register: a multiple of the generator that has five terms takes each byte to four places behind
-- it.
use Rattle.std.proofs.Common.{◌≡◌, ℕ, zero, suc, ◌+◌, ◌-◌, ◌*◌, ◌/◌, ◌%◌, ◌^◌, ◌<◌, ◌≤◌, List, [], ◌∷◌, ◌++◌, length}
use Rattle.std.proofs.Common.{take, drop}
use Rattle.std.proofs.Common.{get_or, set, refl, ap, sym, ◌∙◌, arith, subst, add_comm, add-one, ⊎_elim}
use Rattle.std.proofs.lemmas.Bool.{cases_lt}
use Rattle.std.proofs.lemmas.Grind.{get_or-set_at}
use Rattle.std.specs.Prelude.{bit_xor, replicate}
use lib.Bits.{xor_assoc, xor_self, xor_shifted, xor_zero_l, xor_zero_r}
use Rattle.std.proofs.lemmas.Nat.{xor_comm, xor_lt}
use Rattle.std.proofs.lemmas.List.{append-nil, take_more, take_all, take-append-le, drop-append-le, get_or-drop}
use Rattle.std.proofs.lemmas.List.{get_or_append_left}
use Rattle.std.proofs.lemmas.List.{get_or-append_right, length-append, length-drop, length-set, get_or-set_other}
use Rattle.std.proofs.Math.Nat.{pow-succ'}
use Rattle.terms.specs.Bits.{field, bits_of, number_of}
use Rattle.std.proofs.lemmas.List.{append_assoc, take_at, drop-drop, drop-take, length-take-le, get_or-take}
use Rattle.std.proofs.lemmas.List.{get_or_past}
use Rattle.std.proofs.lemmas.List.Edits.{take-paste}
use Rattle.std.specs.List.{copy_within}
use lib.Seq.{paste}
use Rattle.std.proofs.Math.Seq.{take-add, take-append-add}
use Rattle.terms.proofs.BitLemmas.{length-field, length-bits_of, bits_of-append, number_of-field}
use Rattle.bit_slice.specs.Register.{register, zeros}
use Rattle.bit_slice.specs.Window.{front_register, window_register, sum_at, AreSums}
use Rattle.bit_slice.proofs.XorLemmas.{xor_shl, xor_twice, xor_swap}
use Rattle.bit_slice.proofs.ZerosLemmas.{zeros_lt, zeros_xor, zeros_low, zeros-add, register-append, register_is_zeros}

-- what n zero bits make of a register
abbrev on : ℕ → ℕ → ℕ
on n s = zeros 32 0x04C1_1DB7 n s

-- the sum of four
abbrev sum_of : ℕ → ℕ → ℕ → ℕ → ℕ
sum_of a b c d = bit_xor (bit_xor (bit_xor a b) c) d

-- ---- sums of sums
sums_swap : (a b c d p q r s : ℕ) → sum_of (bit_xor a p) (bit_xor b q) (bit_xor c r) (bit_xor d s)
    ≡ bit_xor (sum_of a b c d) (sum_of p q r s)
sums_swap a b c d p q r s = grind (arith, xor_swap)

sum_lt : (a b c d : ℕ) → a < 2 ^ 32 → b < 2 ^ 32 → c < 2 ^ 32 → d < 2 ^ 32 → sum_of a b c d < 2 ^ 32
sum_lt a b c d p q r s = xor_lt 32 (bit_xor (bit_xor a b) c) d (xor_lt 32 (bit_xor a b) c (xor_lt 32 a b p q) r) s

on_lt : (n s : ℕ) → s < 2 ^ 32 → on n s < 2 ^ 32
on_lt n s fits = zeros_lt 32 0x04C1_1DB7 (omega arith) n s fits

on_xor : (n a b : ℕ) → a < 2 ^ 32 → b < 2 ^ 32 → on n (bit_xor a b) ≡ bit_xor (on n a) (on n b)
on_xor n a b p q = zeros_xor 32 0x04C1_1DB7 (omega arith) n a b p q

on_sum : (n a b c d : ℕ) → a < 2 ^ 32 → b < 2 ^ 32 → c < 2 ^ 32 → d < 2 ^ 32 →
    on n (sum_of a b c d) ≡ sum_of (on n a) (on n b) (on n c) (on n d)
on_sum n a b c d p q r s = search (arith, xor_lt, on_xor)

on-on : (m n s : ℕ) → on m (on n s) ≡ on n (on m s)
on-on m n s =
    sym (zeros-add 32 0x04C1_1DB7 n m s) ∙ ap (λ (k : ℕ). zeros 32 0x04C1_1DB7 k s) (add_comm n m)
    ∙ zeros-add 32 0x04C1_1DB7 m n s

on_more : (n s : ℕ) → on 8 (on (8 * n) s) ≡ on (8 * suc n) s
on_more n s =
    let e : 8 * n + 8 ≡ 8 * suc n = omega arith in
    sym (zeros-add 32 0x04C1_1DB7 (8 * n) 8 s) ∙ ap (λ (k : ℕ). zeros 32 0x04C1_1DB7 k s) e

-- ---- the multiple of the generator: what it makes of a register is nothing
abbrev Comes : ℕ → Type 0
Comes s = sum_of (on 712 s) (on 936 s) (on 1240 s) (on 2400 s) ≡ s

comes_zero : Comes 0
unfolding zeros
comes_zero = refl

comes_one : Comes 1
unfolding zeros
comes_one = refl

comes_on : (n s : ℕ) → s < 2 ^ 32 → Comes s → Comes (on n s)
comes_on n s fits h = grind (arith, on-on, on_sum, on_lt)

comes_sum : (a b : ℕ) → a < 2 ^ 32 → b < 2 ^ 32 → Comes a → Comes b → Comes (bit_xor a b)
comes_sum a b p q h k = grind (arith, on_xor, sums_swap)

comes_bit : (b : ℕ) → b < 2 → Comes b
comes_bit zero h = comes_zero
comes_bit (suc zero) h = comes_one
comes_bit (suc (suc b)) h = absurd (omega arith)

comes_below : (n s : ℕ) → n ≤ 32 → s < 2 ^ n → s < 2 ^ 32 → Comes s
comes_below zero s few h fits = let e : 0 ≡ s = omega arith in subst Comes e comes_zero
comes_below (suc n) s few h fits =
    let high : ℕ = s / 2 in
    let bit : ℕ = s % 2 in
    let whole : high * 2 ^ 1 + bit ≡ s = omega arith in
    let power = pow-succ' 2 n in
    let small : high < 2 ^ n = omega arith in
    let fits_high : high < 2 ^ 32 = omega arith in
    let moved : on 1 high ≡ high * 2 ^ 1 = zeros_low 32 0x04C1_1DB7 1 high (omega arith) in
    let comes : Comes (high * 2 ^ 1) = subst Comes moved (comes_on 1 high fits_high
    (comes_below n high (omega arith) small fits_high)) in
    let joined : bit_xor (high * 2 ^ 1) bit ≡ s = xor_shifted high 1 bit (omega arith) ∙ whole in
    subst Comes joined (comes_sum (high * 2 ^ 1) bit (omega arith) (omega arith) comes (comes_bit bit (omega arith)))

comes_all : (s : ℕ) → s < 2 ^ 32 → Comes s
comes_all s fits = comes_below 32 s (omega arith) fits fits

-- ---- the register after the first bytes of some
front : ℕ → (ℕ → ℕ) → ℕ → ℕ
front s f zero = s
front s f (suc n) = on 8 (bit_xor (front s f n) (f n * 2 ^ 24))

Bytes : (ℕ → ℕ) → Type 0
Bytes f = (k : ℕ) → f k < 256

front_lt : (s : ℕ) (f : ℕ → ℕ) → s < 2 ^ 32 → Bytes f → (n : ℕ) → front s f n < 2 ^ 32
unfolding front Bytes
front_lt s f fits small zero = fits
front_lt s f fits small (suc n) =
    let byte = small n in
    on_lt 8 (bit_xor (front s f n) (f n * 2 ^ 24)) (xor_lt 32 (front s f n) (f n * 2 ^ 24) (front_lt s f fits small n)
    (omega arith))

front_same : (s : ℕ) (f g : ℕ → ℕ) (n : ℕ) → ((k : ℕ) → k < n → f k ≡ g k) → front s f n ≡ front s g n
unfolding front
front_same s f g zero same = refl
front_same s f g (suc n) same =
    ap (λ (x : ℕ). on 8 (bit_xor x (f n * 2 ^ 24))) (front_same s f g n (λ k h. same k (omega arith)))
    ∙ ap (λ (x : ℕ). on 8 (bit_xor (front s g n) (x * 2 ^ 24))) (same n (omega arith))

-- a front that begins further on
front_behind : (f : ℕ → ℕ) → Bytes f → (p n : ℕ) → front 0 (λ k. f (p + k)) n
    ≡ bit_xor (front 0 f (p + n)) (on (8 * n) (front 0 f p))
unfolding front Bytes zeros
front_behind f small p zero =
    let e : p + 0 ≡ p = omega arith in
    let z : 8 * 0 ≡ 0 = omega arith in
    rw (e, z) (sym (xor_self (front 0 f p)))
front_behind f small p (suc n) =
    let a : ℕ = front 0 f (p + n) in
    let b : ℕ = on (8 * n) (front 0 f p) in
    let c : ℕ = f (p + n) * 2 ^ 24 in
    let e : p + suc n ≡ suc (p + n) = omega arith in
    let byte = small (p + n) in
    let fits_a : a < 2 ^ 32 = front_lt 0 f (omega arith) small (p + n) in
    let fits_b : b < 2 ^ 32 = on_lt (8 * n) (front 0 f p) (front_lt 0 f (omega arith) small p) in
    let fits_c : c < 2 ^ 32 = omega arith in
    let turned : bit_xor (bit_xor a b) c ≡ bit_xor (bit_xor a c) b = xor_assoc a b c ∙ ap (bit_xor a) (xor_comm b c)
    ∙ sym (xor_assoc a c b) in
    rw e
    (ap (λ (x : ℕ). on 8 (bit_xor x c)) (front_behind f small p n) ∙ ap (zeros 32 0x04C1_1DB7 8) turned
    ∙ on_xor 8 (bit_xor a c) b (xor_lt 32 a c fits_a fits_c) fits_b ∙ ap (bit_xor (on 8 (bit_xor a c)))
    (on_more n (front 0 f p)))

-- ---- the register for which the sums from a place on stand
stood : (ℕ → ℕ) → ℕ → ℕ
stood f p =
    bit_xor (front 0 f p) (sum_of (front 0 f (p + 89)) (front 0 f (p + 117)) (front 0 f (p + 155))
    (front 0 f (p + 300)))

stood_is : (f : ℕ → ℕ) → Bytes f → (p : ℕ) →
    sum_of (front 0 (λ k. f (p + k)) 89) (front 0 (λ k. f (p + k)) 117) (front 0 (λ k. f (p + k)) 155)
    (front 0 (λ k. f (p + k)) 300)
    ≡ stood f p
unfolding stood
stood_is f small p = grind (arith, front, front_behind, sums_swap, comes_all, front_lt, xor_comm)

stood_lt : (f : ℕ → ℕ) → Bytes f → (p : ℕ) → stood f p < 2 ^ 32
unfolding stood
stood_lt f small p =
    let lt : (n : ℕ) → front 0 f n < 2 ^ 32 = front_lt 0 f (omega arith) small in
    xor_lt 32 (front 0 f p) (sum_of (front 0 f (p + 89)) (front 0 f (p + 117)) (front 0 f (p + 155))
    (front 0 f (p + 300))) (lt p)
    (sum_lt (front 0 f (p + 89)) (front 0 f (p + 117)) (front 0 f (p + 155)) (front 0 f (p + 300)) (lt (p + 89))
    (lt (p + 117))
    (lt (p + 155)) (lt (p + 300)))

-- what stands at a place with what comes to it
abbrev met : (ℕ → ℕ) → ℕ → ℕ
met f p = bit_xor (f p) (sum_of (f (p + 89)) (f (p + 117)) (f (p + 155)) (f (p + 300)))

front_more : (f : ℕ → ℕ) (p a : ℕ) → front 0 f (suc p + a) ≡ on 8 (bit_xor (front 0 f (p + a)) (f (p + a) * 2 ^ 24))
unfolding front
front_more f p a = let e : suc p + a ≡ suc (p + a) = omega arith in rw e refl

raised : (a b c d e : ℕ) → bit_xor (a * 2 ^ 24) (sum_of (b * 2 ^ 24) (c * 2 ^ 24) (d * 2 ^ 24) (e * 2 ^ 24))
    ≡ bit_xor a (sum_of b c d e) * 2 ^ 24
raised a b c d e = search (arith, xor_shl)

stood_more : (f : ℕ → ℕ) → Bytes f → (p : ℕ) → stood f (suc p) ≡ on 8 (bit_xor (stood f p) (met f p * 2 ^ 24))
unfolding stood front Bytes
stood_more f small p =
    let s : ℕ = front 0 f p in
    let a : ℕ = front 0 f (p + 89) in
    let b : ℕ = front 0 f (p + 117) in
    let c : ℕ = front 0 f (p + 155) in
    let d : ℕ = front 0 f (p + 300) in
    let u : ℕ = f p * 2 ^ 24 in
    let v : ℕ = f (p + 89) * 2 ^ 24 in
    let w : ℕ = f (p + 117) * 2 ^ 24 in
    let x : ℕ = f (p + 155) * 2 ^ 24 in
    let y : ℕ = f (p + 300) * 2 ^ 24 in
    let fits_u : u < 2 ^ 32 = let h = small p in omega arith in
    let fits_v : v < 2 ^ 32 = let h = small (p + 89) in omega arith in
    let fits_w : w < 2 ^ 32 = let h = small (p + 117) in omega arith in
    let fits_x : x < 2 ^ 32 = let h = small (p + 155) in omega arith in
    let fits_y : y < 2 ^ 32 = let h = small (p + 300) in omega arith in
    let fits_s : bit_xor s u < 2 ^ 32 = xor_lt 32 s u (front_lt 0 f (omega arith) small p) fits_u in
    let fits_a : bit_xor a v < 2 ^ 32 = xor_lt 32 a v (front_lt 0 f (omega arith) small (p + 89)) fits_v in
    let fits_b : bit_xor b w < 2 ^ 32 = xor_lt 32 b w (front_lt 0 f (omega arith) small (p + 117)) fits_w in
    let fits_c : bit_xor c x < 2 ^ 32 = xor_lt 32 c x (front_lt 0 f (omega arith) small (p + 155)) fits_x in
    let fits_d : bit_xor d y < 2 ^ 32 = xor_lt 32 d y (front_lt 0 f (omega arith) small (p + 300)) fits_y in
    rw (front_more f p 89, front_more f p 117, front_more f p 155, front_more f p 300)
    (ap (bit_xor (on 8 (bit_xor s u))) (sym (on_sum 8 (bit_xor a v) (bit_xor b w) (bit_xor c x) (bit_xor d y)
    fits_a fits_b fits_c fits_d))
    ∙ sym (on_xor 8 (bit_xor s u) (sum_of (bit_xor a v) (bit_xor b w) (bit_xor c x) (bit_xor d y)) fits_s
    (sum_lt (bit_xor a v) (bit_xor b w) (bit_xor c x) (bit_xor d y) fits_a fits_b fits_c fits_d))
    ∙ ap (λ (z : ℕ). on 8 (bit_xor (bit_xor s u) z)) (sums_swap a b c d v w x y)
    ∙ ap (zeros 32 0x04C1_1DB7 8) (xor_swap s u (sum_of a b c d) (sum_of v w x y))
    ∙ ap (λ (z : ℕ). on 8 (bit_xor (bit_xor s (sum_of a b c d)) z)) (raised (f p) (f (p + 89)) (f (p + 117))
    (f (p + 155)) (f (p + 300))))

-- as a register goes on with bytes, so do the sums
stood_on : (f g : ℕ → ℕ) → Bytes f → (n : ℕ) → ((k : ℕ) → k < n → g k ≡ met f k) → stood f n ≡ front (stood f 0) g n
unfolding front
stood_on f g small zero each = refl
stood_on f g small (suc n) each =
    stood_more f small n
    ∙ ap (λ (x : ℕ). on 8 (bit_xor x (met f n * 2 ^ 24))) (stood_on f g small n (λ k h. each k (omega arith)))
    ∙ ap (λ (x : ℕ). on 8 (bit_xor (front (stood f 0) g n) (x * 2 ^ 24))) (sym (each n (omega arith)))

-- ---- lists
register_one : (s b : ℕ) → s < 2 ^ 32 → b < 256 → register 32 0x04C1_1DB7 s (bits_of (b ∷ [])) ≡ on 8
    (bit_xor s (b * 2 ^ 24))
register_one s b fits byte = grind (arith, length-field, append-nil, number_of-field, register_is_zeros)

front_is : (s : ℕ) (xs : List ℕ) → s < 2 ^ 32 → Bytes (λ k. get_or xs k 0) → (n : ℕ) → n ≤ length xs →
    front s (λ k. get_or xs k 0) n ≡ register 32 0x04C1_1DB7 s (bits_of (take n xs))
unfolding front Bytes
front_is s xs fits small zero few = refl
front_is s xs fits small (suc n) few =
    let before : ℕ = front s (λ k. get_or xs k 0) n in
    let same : before ≡ register 32 0x04C1_1DB7 s (bits_of (take n xs)) = front_is s xs fits small n (omega arith) in
    let last : ℕ = get_or xs n 0 in
    let more : take (suc n) xs ≡ take n xs ++ last ∷ [] = rw add-one at (take_more xs n 0 (omega arith)) in
    sym (register_one before last (front_lt s (λ k. get_or xs k 0) fits small n) (small n))
    ∙ ap (λ (x : ℕ). register 32 0x04C1_1DB7 x (bits_of (last ∷ []))) same
    ∙ sym (register-append 32 0x04C1_1DB7 s (bits_of (take n xs)) (bits_of (last ∷ [])))
    ∙ ap (register 32 0x04C1_1DB7 s) (sym (bits_of-append (take n xs) (last ∷ [])) ∙ ap bits_of (sym more))

-- ---- the sums of a block, one by one
pub record SumsSo (sums bytes more : List ℕ) (done : ℕ) : Type 0 where
  pub len : length more ≡ length bytes
  pub new : (k : ℕ) → k < done → get_or more k 0 ≡ sum_at sums bytes k
  pub old : (k : ℕ) → done ≤ k → get_or more k 0 ≡ get_or bytes k 0

pub sums_none : (sums bytes : List ℕ) → SumsSo sums bytes bytes 0
sums_none sums bytes = record { len = refl; new = λ k h. absurd (omega arith); old = λ k h. refl }

pub sums_more : (sums bytes more : List ℕ) (done : ℕ) → SumsSo sums bytes more done → done < length more →
    SumsSo sums bytes
    (set more done
    (bit_xor (get_or more done 0)
    (bit_xor (bit_xor (bit_xor (get_or sums done 0) (get_or sums (done + 89) 0)) (get_or sums (done + 117) 0))
    (get_or sums (done + 155) 0))))
    (done + 1)
sums_more sums bytes more done so inside =
    let other : ℕ =
    bit_xor (bit_xor (bit_xor (get_or sums done 0) (get_or sums (done + 89) 0)) (get_or sums (done + 117) 0))
    (get_or sums (done + 155) 0) in
    let sum : ℕ = bit_xor (get_or more done 0) other in
    let stays : done ≤ done = omega arith in
    let here : sum ≡ sum_at sums bytes done = ap (λ (x : ℕ). bit_xor x other) (so.old done stays) in
    record {
      len = length-set more done sum ∙ so.len;
      new = λ k h. ⊎_elim (λ less. get_or-set_other more done k sum 0 (λ e. omega arith) ∙ so.new k less)
          (λ more_. let e : k ≡ done = omega arith in get_or-set_at more done k sum 0 e inside ∙ here
          ∙ ap (sum_at sums bytes) (sym e)) (cases_lt k done);
      old = λ k h. get_or-set_other more done k sum 0 (λ e. omega arith) ∙ so.old k (omega arith);
    }

pub sums_all : (sums bytes more : List ℕ) (done : ℕ) → SumsSo sums bytes more done → length bytes ≤ done
    → AreSums sums bytes more
sums_all sums bytes more done so whole = record { len = so.len; each = λ k h. so.new k (omega arith) }

-- ---- the register for which sums stand, and a block more
bytes_lt : (xs : List ℕ) → ((k : ℕ) → get_or xs k 0 < 256) → Bytes (λ k. get_or xs k 0)
unfolding Bytes
bytes_lt xs small = small

front_of : (xs : List ℕ) → ((k : ℕ) → get_or xs k 0 < 256) → (a : ℕ) → a ≤ length xs → front_register a xs
    ≡ front 0 (λ k. get_or xs k 0) a
unfolding front_register
front_of xs small a few = sym (front_is 0 xs (omega arith) (bytes_lt xs small) a few)

dropped_lt : (xs : List ℕ) (n : ℕ) → ((k : ℕ) → get_or xs k 0 < 256) → (k : ℕ) → get_or (drop n xs) k 0 < 256
dropped_lt xs n small k = rw (get_or-drop n xs k 0) (small (n + k))

front_dropped : (xs : List ℕ) → ((k : ℕ) → get_or xs k 0 < 256) → (n a : ℕ) → n + a ≤ length xs
    → front_register a (drop n xs)
    ≡ front 0 (λ k. get_or xs (n + k) 0) a
front_dropped xs small n a few = grind (arith, front_of, dropped_lt, length-drop, front_same, get_or-drop)

window_dropped : (xs : List ℕ) → ((k : ℕ) → get_or xs k 0 < 256) → (n : ℕ) → n + 300 ≤ length xs
    → window_register (drop n xs)
    ≡ stood (λ k. get_or xs k 0) n
unfolding window_register
window_dropped xs small n few =
    rw (
      front_dropped xs small n 89 (omega arith),
      front_dropped xs small n 117 (omega arith),
      front_dropped xs small n 155 (omega arith),
      front_dropped xs small n 300 (omega arith),
    )
    (stood_is (λ k. get_or xs k 0) (bytes_lt xs small) n)

pub passed : (sums bytes more : List ℕ) → length sums ≡ 300 → length bytes ≤ 145 → AreSums sums bytes more
    → ((k : ℕ) → get_or (sums ++ more) k 0 < 256) → ((k : ℕ) → get_or bytes k 0 < 256) →
    window_register (drop (length bytes) (sums ++ more)) ≡ register 32 0x04C1_1DB7 (window_register (sums ++ more))
    (bits_of bytes)
passed sums bytes more long few are small small_bytes =
    let all : List ℕ = sums ++ more in
    let f : ℕ → ℕ = λ k. get_or all k 0 in
    let n : ℕ = length bytes in
    let size : length all ≡ 300 + n = length-append sums more ∙ omega (arith, long, are.len) in
    let near : (k : ℕ) → k < 300 → f k ≡ get_or sums k 0 = λ k h. get_or_append_left sums more 0 k
    (omega (arith, long, h)) in
    let meets : (k : ℕ) → k < n → get_or bytes k 0 ≡ met f k = λ k h.
    let a : ℕ = get_or sums k 0 in
    let b : ℕ = get_or sums (k + 89) 0 in
    let c : ℕ = get_or sums (k + 117) 0 in
    let d : ℕ = get_or sums (k + 155) 0 in
    let x : ℕ = get_or bytes k 0 in
    let e : k + 300 - 300 ≡ k = omega arith in
    let far : f (k + 300) ≡ bit_xor x (sum_of a b c d) =
    get_or-append_right sums more 300 (k + 300) 0 long (omega arith) ∙ ap (λ (i : ℕ). get_or more i 0) e
    ∙ are.each k h in
    let turned : bit_xor a (sum_of b c d (bit_xor x (sum_of a b c d))) ≡ x =
    sym (xor_assoc a (bit_xor (bit_xor b c) d) (bit_xor x (sum_of a b c d)))
    ∙ ap (λ (y : ℕ). bit_xor y (bit_xor x (sum_of a b c d))) (sym (xor_assoc a (bit_xor b c) d)
    ∙ ap (λ (y : ℕ). bit_xor y d) (sym (xor_assoc a b c)))
    ∙ xor_twice (sum_of a b c d) x in
    sym (rw (
      near k (omega arith),
      near (k + 89) (omega arith),
      near (k + 117) (omega arith),
      near (k + 155)
          (omega arith),
      far,
    ) turned) in
    let none : drop 0 all ≡ all = refl in
    let begun : window_register all ≡ stood f 0 = window_dropped all small 0 (omega arith) in
    let fits : stood f 0 < 2 ^ 32 = stood_lt f (bytes_lt all small) 0 in
    window_dropped all small n (omega arith)
    ∙ stood_on f (λ k. get_or bytes k 0) (bytes_lt all small) n meets
    ∙ front_is (stood f 0) bytes fits (bytes_lt bytes small_bytes) n (omega arith)
    ∙ ap (λ (xs : List ℕ). register 32 0x04C1_1DB7 (stood f 0) (bits_of xs))
    (take_all (length bytes) bytes (omega arith))
    ∙ ap (λ (s : ℕ). register 32 0x04C1_1DB7 s (bits_of bytes)) (sym begun)

-- the sums with a block more stand for the register that has gone on
pub passed_on : (sums bytes more : List ℕ) → length sums ≡ 300 → length bytes ≤ 145 → AreSums sums bytes more
    → ((k : ℕ) → get_or (sums ++ more) k 0 < 256) → ((k : ℕ) → get_or bytes k 0 < 256) →
    window_register (drop (length bytes) sums ++ more) ≡ register 32 0x04C1_1DB7 (window_register sums) (bits_of bytes)
unfolding window_register front_register
passed_on sums bytes more long few are small small_bytes =
    let front_same : (a : ℕ) → a ≤ 300 → take a (sums ++ more) ≡ take a sums = λ a h. take-append-le
    a sums more (omega (arith, long, h)) in
    let split : drop (length bytes) (sums ++ more) ≡ drop (length bytes) sums ++ more =
    drop-append-le (length bytes) sums more (omega (arith, long)) in
    let same : window_register (sums ++ more) ≡ window_register sums =
    rw (
      front_same 89 (omega arith),
      front_same 117 (omega arith),
      front_same 155 (omega arith),
      front_same
          300 (omega arith),
    ) refl in
    ap window_register (sym split) ∙ passed sums bytes more long few are small small_bytes
    ∙ ap (λ (s : ℕ). register 32 0x04C1_1DB7 s (bits_of bytes)) same

-- ---- the sums at first: the four bytes of the register
register_zeros : (n s : ℕ) → s < 2 ^ 32 → register 32 0x04C1_1DB7 s (bits_of (replicate n 0)) ≡ on (8 * n) s
unfolding zeros
register_zeros zero s fits = refl
register_zeros (suc n) s fits =
    let e : 8 + 8 * n ≡ 8 * suc n = omega arith in
    let first : register 32 0x04C1_1DB7 s (bits_of (0 ∷ [])) ≡ on 8 s =
    register_one s 0 fits (omega arith) ∙ ap (zeros 32 0x04C1_1DB7 8) (xor_zero_r s) in
    ap (register 32 0x04C1_1DB7 s) (bits_of-append (0 ∷ []) (replicate n 0))
    ∙ register-append 32 0x04C1_1DB7 s (bits_of (0 ∷ [])) (bits_of (replicate n 0))
    ∙ ap (λ (x : ℕ). register 32 0x04C1_1DB7 x (bits_of (replicate n 0))) first
    ∙ register_zeros n (on 8 s) (on_lt 8 s fits)
    ∙ sym (zeros-add 32 0x04C1_1DB7 8 (8 * n) s) ∙ ap (λ (k : ℕ). zeros 32 0x04C1_1DB7 k s) e

front_begun : (s : ℕ) (word : List ℕ) (n : ℕ) → s < 2 ^ 32 → length word ≡ 4 → number_of (bits_of word) ≡ s →
    register 32 0x04C1_1DB7 0 (bits_of (word ++ replicate n 0)) ≡ on (32 + 8 * n) s
front_begun s word n fits four is =
    grind (
      arith,
      length-bits_of,
      xor_zero_l,
      register_is_zeros,
      bits_of-append,
      register-append,
      register_zeros,
      on_lt,
      zeros-add,
    )

pub begun : (s : ℕ) (word : List ℕ) → s < 2 ^ 32 → length word ≡ 4 → number_of (bits_of word) ≡ s →
    window_register (word ++ replicate 296 0) ≡ s
unfolding window_register front_register
begun s (a ∷ b ∷ c ∷ d ∷ []) fits four is =
    let word : List ℕ = a ∷ b ∷ c ∷ d ∷ [] in
    rw (
      front_begun s word 85 fits four is,
      front_begun s word 113 fits four is,
      front_begun s word 151 fits four is,
      front_begun s word 296 fits four is,
    )
    (comes_all s fits)
begun s word fits four is = absurd (omega arith)

-- the same in room for more
pub begun_in : (s : ℕ) (word piece old : List ℕ) → s < 2 ^ 32 → length word ≡ 4 → bits_of word ≡ field 32 s
    → piece ≡ word
    → old ≡ replicate 1452 0 → window_register (take 300 (piece ++ drop 4 old)) ≡ s
begun_in s word piece old fits four bits is zeros =
    let spelled : number_of (bits_of word) ≡ s = ap number_of bits ∙ number_of-field 32 s fits in
    let e : 300 ≡ length word + 296 = omega (arith, four) in
    let left : take 300 (word ++ replicate 1448 0) ≡ word ++ replicate 296 0 =
    ap (λ (n : ℕ). take n (word ++ replicate 1448 0)) e ∙ take-append-add word (replicate 1448 0) 296 in
    let put : piece ++ drop 4 old ≡ word ++ replicate 1448 0 = rw (is, zeros) refl in
    ap (λ (xs : List ℕ). window_register (take 300 xs)) put ∙ ap window_register left ∙ begun s word fits four spelled

-- ---- the register of sums, by a walk over them
pub front_on : (sums : List ℕ) (a b last : ℕ) → last ≡ register 32 0x04C1_1DB7 (front_register a sums)
    (bits_of (take b (drop a sums)))
    → last ≡ front_register (a + b) sums
unfolding front_register
front_on sums a b last is = grind (arith, register-append, bits_of-append, take-add)

-- ---- a block's sums behind others, in room for more
sum_byte : (sums bytes : List ℕ) → ((k : ℕ) → get_or sums k 0 < 256) → ((k : ℕ) → get_or bytes k 0 < 256) → (k : ℕ)
    → sum_at sums bytes k < 256
sum_byte sums bytes small small_bytes k =
    let a : ℕ = get_or sums k 0 in
    let b : ℕ = get_or sums (k + 89) 0 in
    let c : ℕ = get_or sums (k + 117) 0 in
    let d : ℕ = get_or sums (k + 155) 0 in
    xor_lt 8 (get_or bytes k 0) (sum_of a b c d) (small_bytes k)
    (xor_lt 8 (bit_xor (bit_xor a b) c) d (xor_lt 8 (bit_xor a b) c (xor_lt 8 a b (small k) (small (k + 89)))
    (small (k + 117)))
    (small (k + 155)))

more_byte : (sums bytes more : List ℕ) → AreSums sums bytes more → ((k : ℕ) → get_or sums k 0 < 256)
    → ((k : ℕ) → get_or bytes k 0 < 256) → (k : ℕ) → get_or more k 0 < 256
more_byte sums bytes more are small small_bytes k = grind (arith, sum_byte, get_or_past, cases_lt)

joined_byte : (sums more : List ℕ) → ((k : ℕ) → get_or sums k 0 < 256) → ((k : ℕ) → get_or more k 0 < 256) → (k : ℕ)
    → get_or (sums ++ more) k 0 < 256
joined_byte sums more small small_more k = grind (arith, get_or_append_left, get_or-append_right, cases_lt)

part_byte : (old : List ℕ) (at : ℕ) → at + 300 ≤ length old → ((k : ℕ) → get_or old k 0 < 256) → (k : ℕ)
    → get_or (take 300 (drop at old)) k 0 < 256
part_byte old at room small k = ⊎_elim
    (λ less. subst (λ (x : ℕ). x < 256) (sym (get_or-take 300 (drop at old) k 0 less ∙ get_or-drop at old k 0))
    (small (at + k)))
    (λ beyond. let long = length-take-le 300 (drop at old) (omega (arith, length-drop at old)) in
    let e = get_or_past (take 300 (drop at old)) k 0 (omega (arith, long, beyond)) in omega (arith, e)) (cases_lt k 300)

-- the sums, moved to the front
pub settled : (old new : List ℕ) (at : ℕ) → at + 300 ≤ length old → new ≡ copy_within old at (at + 300) 0
    → take 300 new ≡ take 300 (drop at old)
settled old new at room is =
    let e : at + 300 - at ≡ 300 = omega arith in
    ap (take 300) (is ∙ ap (paste old 0 (drop at old)) e)
    ∙ take-paste old 0 (drop at old) 300 (omega arith) (omega (arith, length-drop at old))

pub put : (old bytes more : List ℕ) (at : ℕ) → at + 444 ≤ length old → length bytes ≡ 144
    → AreSums (take 300 (drop at old)) bytes more → ((k : ℕ) → get_or old k 0 < 256)
    → ((k : ℕ) → get_or bytes k 0 < 256) →
    window_register (take 300 (drop (at + 144) (take (at + 300) old ++ (more ++ drop 144 (drop (at + 300) old)))))
    ≡ register 32 0x04C1_1DB7 (window_register (take 300 (drop at old))) (bits_of bytes)
put old bytes more at room size are small small_bytes =
    let sums : List ℕ = take 300 (drop at old) in
    let rest : List ℕ = drop 144 (drop (at + 300) old) in
    let long : length sums ≡ 300 = length-take-le 300 (drop at old) (omega (arith, length-drop at old)) in
    let small_sums : (k : ℕ) → get_or sums k 0 < 256 = part_byte old at (omega arith) small in
    let small_more : (k : ℕ) → get_or more k 0 < 256 = more_byte sums bytes more are small_sums small_bytes in
    let head : List ℕ = take (at + 300) old in
    let long_head : length head ≡ at + 300 = length-take-le (at + 300) old (omega arith) in
    let e : 144 + at ≡ at + 144 = omega arith in
    let kept : drop (at + 144) head ≡ drop 144 sums =
    sym (drop-drop 144 at head) ∙ ap (drop 144) (drop-take at 300 old) in
    let left : List ℕ = drop 144 sums ++ more in
    let long_left : length left ≡ 300 =
    length-append (drop 144 sums) more ∙ omega (arith, length-drop 144 sums, long, are.len, size) in
    let split : drop (at + 144) (head ++ (more ++ rest)) ≡ left ++ rest =
    drop-append-le (at + 144) head (more ++ rest) (omega (arith, long_head))
    ∙ ap (λ (xs : List ℕ). xs ++ (more ++ rest)) kept
    ∙ sym (append_assoc (drop 144 sums) more rest) in
    let is : take 300 (drop (at + 144) (head ++ (more ++ rest))) ≡ left = ap (take 300) split
    ∙ take_at left rest 300 long_left in
    let n : drop (length bytes) sums ≡ drop 144 sums = ap (λ (k : ℕ). drop k sums) size in
    ap window_register is ∙ ap (λ (xs : List ℕ). window_register (xs ++ more)) (sym n)
    ∙ passed_on sums bytes more long (omega (arith, size)) are (joined_byte sums more small_sums small_more) small_bytes

-- the same, as the program writes it
pub put_again : (old bytes more piece : List ℕ) (at : ℕ) → at + 444 ≤ length old → length bytes ≡ 144
    → AreSums (take (at + 300 - at) (drop at old)) bytes more → piece ≡ more
    → ((k : ℕ) → get_or old k 0 < 256) → ((k : ℕ) → get_or bytes k 0 < 256) →
    window_register (take 300
    (drop (at + 144) (take (at + 300) old ++ (piece ++ drop (at + 300 + 144 - (at + 300)) (drop (at + 300) old)))))
    ≡ register 32 0x04C1_1DB7 (window_register (take 300 (drop at old))) (bits_of bytes)
put_again old bytes more piece at room size are is small small_bytes =
    let e : at + 300 - at ≡ 300 = omega arith in
    let n : at + 300 + 144 - (at + 300) ≡ 144 = omega arith in
    let sums : AreSums (take 300 (drop at old)) bytes more = rw e at are in
    rw (is, n) (put old bytes more at room size sums small small_bytes)
