-- Bits of numbers and bytes, the numbers of bits, and parts of bits.
use Rattle.std.proofs.Common.{◌≡◌, ℕ, zero, suc, ◌+◌, ◌-◌, ◌*◌, ◌/◌, ◌%◌, ◌^◌, ◌<◌, ◌≤◌, ◌==◌, Bool, true, false, cond}
use Rattle.std.proofs.Common.{List, []}
use Rattle.std.proofs.Common.{◌∷◌, ◌++◌, length, take, drop, map, get_or, refl, ap, sym, ◌∙◌, arith, length-append}
use Rattle.std.specs.Int.{bit_at, bytes_high_first, byte_at as number_byte}
use Rattle.std.proofs.lemmas.List.{append_assoc, take_at, take_all, drop_all, drop_more, take-append-drop}
use Rattle.std.proofs.lemmas.List.{length-take-le}
use Rattle.std.proofs.lemmas.List.{get_or_append_left, get_or-append-add, drop-take, take-take, drop-drop}
use Rattle.std.proofs.lemmas.List.{get_or-take, get_or-drop, length-take, length-drop, drop-append-le, take-append-le}
use Rattle.std.specs.List.{range_with_len}
use Rattle.std.proofs.lemmas.List.Concat.{flat_map-append}
use Rattle.std.proofs.lemmas.List.FromFn.{fill_by_all, length-map-range_with_len}
use Rattle.std.proofs.lemmas.Nat.{pow-add, shr-shr, shr_split, mod-pow-add, mod_below, mod_low, shr_high}
use Rattle.std.proofs.lemmas.Nat.Bits.{bit_at-lt, bit_at_above, bit_at_cat_low}
use Rattle.std.proofs.Math.Nat.{pow-succ', add-mul, mod-eq_of_lt}
use Rattle.std.proofs.Math.Seq.{take-add, take-append_seam, drop-append_seam}
use Rattle.terms.specs.Bits.{field, bits_of, number_of, part, number_at, byte_at, bytes_for, bytes_of}

pub length-field : (w n : ℕ) → length (field w n) ≡ w
unfolding field
length-field zero n = refl
length-field (suc w) n = ap suc (length-field w n)

pub length-bits_of : (bytes : List ℕ) → length (bits_of bytes) ≡ 8 * length bytes
length-bits_of [] = refl
length-bits_of (b ∷ bytes) = length-append (field 8 b) (bits_of bytes)
    ∙ omega (arith, length-field 8 b, length-bits_of bytes)

pub bits_of-append : (xs ys : List ℕ) → bits_of (xs ++ ys) ≡ bits_of xs ++ bits_of ys
bits_of-append xs ys = flat_map-append (field 8) xs ys

-- the bit at a place of a field
pub get_or-field : (w n j : ℕ) → j < w → get_or (field w n) j false ≡ (bit_at n (w - 1 - j) == 1)
unfolding field
get_or-field zero n j h = absurd (omega arith)
get_or-field (suc w) n zero h = let e : w ≡ suc w - 1 - 0 = omega arith in ap (λ (k : ℕ). bit_at n k == 1) e
get_or-field (suc w) n (suc j) h =
    let e : w - 1 - j ≡ suc w - 1 - suc j = omega arith in
    get_or-field w n j (omega arith) ∙ ap (λ (k : ℕ). bit_at n k == 1) e

-- the bit at a place of the bits of bytes
pub get_or-bits_of : (bytes : List ℕ) (i j : ℕ) → j < 8 → i < length bytes → get_or (bits_of bytes) (8 * i + j) false
    ≡ (bit_at (get_or bytes i 0) (7 - j) == 1)
get_or-bits_of [] i j within h = absurd (omega arith)
get_or-bits_of (b ∷ bytes) zero j within h =
    let e : 8 * 0 + j ≡ j = omega arith in
    let inside : j < length (field 8 b) = omega (arith, length-field 8 b) in
    ap (λ (k : ℕ). get_or (bits_of (b ∷ bytes)) k false) e
    ∙ get_or_append_left (field 8 b) (bits_of bytes) false j inside ∙ get_or-field 8 b j within
get_or-bits_of (b ∷ bytes) (suc i) j within h =
    let e : 8 * suc i + j ≡ length (field 8 b) + (8 * i + j) = omega (arith, length-field 8 b) in
    ap (λ (k : ℕ). get_or (bits_of (b ∷ bytes)) k false) e
    ∙ get_or-append-add (field 8 b) (bits_of bytes) (8 * i + j) false
    ∙ get_or-bits_of bytes i j within (omega arith)

pub number_of-lt : (bs : List Bool) → number_of bs < 2 ^ length bs
number_of-lt [] = omega arith
number_of-lt (true ∷ bs) = let e : 2 ^ suc (length bs) ≡ 2 * 2 ^ length bs = pow-succ' 2 (length bs) in
    omega (arith, number_of-lt bs, e)
number_of-lt (false ∷ bs) = let e : 2 ^ suc (length bs) ≡ 2 * 2 ^ length bs = pow-succ' 2 (length bs) in
    omega (arith, number_of-lt bs, e)

-- a part of a part
pub part-part : {X : Type 0} (xs : List X) (f l g m : ℕ) → g + m ≤ l → take m (drop g (take l (drop f xs)))
    ≡ take m (drop (f + g) xs)
part-part xs f l g m h =
    let e : l ≡ g + (l - g) = omega arith in
    let within : m ≤ l - g = omega arith in
    ap (λ (n : ℕ). take m (drop g (take n (drop f xs)))) e
    ∙ ap (take m) (drop-take g (l - g) (drop f xs))
    ∙ take-take m (l - g) (drop g (drop f xs)) within
    ∙ ap (take m) (drop-drop g f xs)

-- an element of a part
pub get_or-part : {X : Type 0} (xs : List X) (f l at : ℕ) (d : X) → at < l → get_or (take l (drop f xs)) at d
    ≡ get_or xs (f + at) d
get_or-part xs f l at d h = get_or-take l (drop f xs) at d h ∙ get_or-drop f xs at d

pub length-part : {X : Type 0} (xs : List X) (f l : ℕ) → f + l ≤ length xs → length (take l (drop f xs)) ≡ l
length-part xs f l h = simp (length-take, length-drop) (omega arith)

-- A part of a front is a part of the whole.
pub part-append : {X : Type 0} (xs ys : List X) (f l : ℕ) → f + l ≤ length xs
    → take l (drop f (xs ++ ys)) ≡ take l (drop f xs)
part-append xs ys f l h =
    let a : f ≤ length xs = omega arith in
    let b : l ≤ length (drop f xs) = simp length-drop (omega arith) in
    ap (take l) (drop-append-le f xs ys a) ∙ take-append-le l (drop f xs) ys b

pub number_of-append : (xs ys : List Bool) → number_of (xs ++ ys) ≡ number_of xs * 2 ^ length ys + number_of ys
number_of-append [] ys = omega arith
number_of-append (true ∷ xs) ys =
    let size : 2 ^ length (xs ++ ys) ≡ 2 ^ length xs * 2 ^ length ys =
    rw (length-append xs ys) (pow-add 2 (length xs) (length ys)) in
    let product : (2 ^ length xs + number_of xs) * 2 ^ length ys ≡ 2 ^ length xs * 2 ^ length ys + number_of
    xs * 2 ^ length ys =
    add-mul (2 ^ length xs) (number_of xs) (2 ^ length ys) in
    omega (arith, number_of-append xs ys, size, product)
number_of-append (false ∷ xs) ys = omega (arith, number_of-append xs ys)

-- a bit as a number
bit_number : (k : ℕ) → k < 2 → (w : ℕ) → cond (k == 1) (2 ^ w) 0 ≡ k * 2 ^ w
bit_number zero h w = omega arith
bit_number (suc zero) h w = omega arith
bit_number (suc (suc k)) h w = absurd (omega arith)

-- a field holds the lowest bits of its number
pub number_of-field-mod : (w n : ℕ) → number_of (field w n) ≡ n % 2 ^ w
unfolding field
number_of-field-mod zero n = omega (arith, mod_below n 1)
number_of-field-mod (suc w) n =
    let top : cond (bit_at n w == 1) (2 ^ w) 0 ≡ bit_at n w * 2 ^ w = bit_number (bit_at n w) (bit_at-lt n w) w in
    let split : n % 2 ^ (1 + w) ≡ (n / 2 ^ w % 2 ^ 1) * 2 ^ w + n % 2 ^ w = mod-pow-add n 1 w in
    let size : 2 ^ (1 + w) ≡ 2 ^ suc w = let e : 1 + w ≡ suc w = omega arith in ap (λ (k : ℕ). 2 ^ k) e in
    rw (length-field w n, top, number_of-field-mod w n, ← size, split) refl

pub number_of-field : (w n : ℕ) → n < 2 ^ w → number_of (field w n) ≡ n
number_of-field w n h = number_of-field-mod w n ∙ mod-eq_of_lt h

-- what stands above a field's width does not matter
pub field-high : (w a n k : ℕ) → k ≤ w → field k (a * 2 ^ w + n) ≡ field k n
unfolding field
field-high w a n zero h = refl
field-high w a n (suc k) h =
    let here : bit_at (a * 2 ^ w + n) k ≡ bit_at n k = bit_at_cat_low a w n k (omega arith) in
    rw (here, field-high w a n k (omega arith)) refl

-- the bits of a number are those that spell it
pub field-number_of : (bs : List Bool) → field (length bs) (number_of bs) ≡ bs
unfolding field
field-number_of [] = refl
field-number_of (true ∷ bs) =
    let one : 2 ^ length bs + number_of bs ≡ 1 * 2 ^ length bs + number_of bs = omega arith in
    let top : bit_at (1 * 2 ^ length bs + number_of bs) (length bs) ≡ 1 =
    ap (λ (x : ℕ). x % 2) (shr_high 1 (length bs) (number_of bs) (number_of-lt bs)) in
    rw (one, top, field-high (length bs) 1 (number_of bs) (length bs) (omega arith), field-number_of bs) refl
field-number_of (false ∷ bs) =
    let top : bit_at (number_of bs) (length bs) ≡ 0 = bit_at_above (number_of bs) (length bs) (length bs)
    (number_of-lt bs)
    (omega arith) in
    let none : 0 + number_of bs ≡ number_of bs = omega arith in
    rw (none, top, field-number_of bs) refl

pub take-field : (w n : ℕ) (rest : List Bool) → take w (field w n ++ rest) ≡ field w n
take-field w n rest = ap (λ (k : ℕ). take k (field w n ++ rest)) (sym (length-field w n))
    ∙ take-append_seam (field w n) rest

pub drop-field : (w n : ℕ) (rest : List Bool) → drop w (field w n ++ rest) ≡ rest
drop-field w n rest = ap (λ (k : ℕ). drop k (field w n ++ rest)) (sym (length-field w n))
    ∙ drop-append_seam (field w n) rest

-- the same, by the width
pub field-number : (width : ℕ) (bits : List Bool) → length bits ≡ width → field width (number_of bits) ≡ bits
field-number width bits size = ap (λ (k : ℕ). field k (number_of bits)) (sym size) ∙ field-number_of bits

-- a field that stands in bits holds the number that it spells
pub field-number_at : (bits : List Bool) (at width : ℕ) → at + width ≤ length bits
    → field width (number_of (take width (drop at bits))) ≡ take width (drop at bits)
field-number_at bits at width h = field-number width (take width (drop at bits)) (length-part bits at width h)

pub drop-bits_of : (n : ℕ) (bytes : List ℕ) → drop (8 * n) (bits_of bytes) ≡ bits_of (drop n bytes)
drop-bits_of zero bytes = refl
drop-bits_of (suc n) [] = drop_all (8 * suc n) [] (omega arith)
drop-bits_of (suc n) (b ∷ bytes) =
    let e : 8 * suc n ≡ 8 + 8 * n = omega arith in
    ap (λ (k : ℕ). drop k (field 8 b ++ bits_of bytes)) e
    ∙ sym (drop-drop (8 * n) 8 (field 8 b ++ bits_of bytes))
    ∙ ap (drop (8 * n)) (drop-field 8 b (bits_of bytes))
    ∙ drop-bits_of n bytes

pub take-bits_of : (n : ℕ) (bytes : List ℕ) → n ≤ length bytes → take (8 * n) (bits_of bytes) ≡ bits_of (take n bytes)
take-bits_of n bytes h =
    let parts : bits_of bytes ≡ bits_of (take n bytes) ++ bits_of (drop n bytes) = sym
    (ap bits_of (take-append-drop n bytes))
    ∙ bits_of-append (take n bytes) (drop n bytes) in
    let size : length (bits_of (take n bytes)) ≡ 8 * n = length-bits_of (take n bytes)
    ∙ ap (λ (k : ℕ). 8 * k) (length-take-le n bytes h) in
    ap (take (8 * n)) parts ∙ take_at (bits_of (take n bytes)) (bits_of (drop n bytes)) (8 * n) size

-- the bits of some bytes are a part of the bits of all
pub part-bits_of : (bytes : List ℕ) (from count : ℕ) → from + count ≤ length bytes
    → part (bits_of bytes) (8 * from) (8 * count)
    ≡ bits_of (take count (drop from bytes))
part-bits_of bytes from count h =
    let inside : count ≤ length (drop from bytes) = simp length-drop (omega arith) in
    ap (take (8 * count)) (drop-bits_of from bytes) ∙ take-bits_of count (drop from bytes) inside

-- The number of a part: what stands behind it is shifted out, and what stands before it is masked out.
pub number_of-part : (bits : List Bool) (at width : ℕ) → at + width ≤ length bits → number_of (part bits at width)
    ≡ number_of bits / 2 ^ (length bits - (at + width)) % 2 ^ width
number_of-part bits at width h =
    let front : List Bool = take at bits in
    let here : List Bool = part bits at width in
    let behind : List Bool = drop width (drop at bits) in
    let wide : length here ≡ width = length-part bits at width h in
    let left : length behind ≡ length bits - (at + width) = simp length-drop (omega arith) in
    let spelled : number_of bits ≡ (number_of front * 2 ^ width + number_of here) * 2 ^ length behind + number_of
    behind =
    sym (ap number_of (take-append-drop at bits)) ∙ ap (λ (bs : List Bool). number_of (front ++ bs))
    (sym (take-append-drop width (drop at bits)))
    ∙ ap number_of (sym (append_assoc front here behind)) ∙ number_of-append (front ++ here) behind
    ∙ ap (λ (n : ℕ). n * 2 ^ length behind + number_of behind)
    (number_of-append front here ∙ ap (λ (n : ℕ). number_of front * 2 ^ n + number_of here) wide) in
    let small : number_of here < 2 ^ width = rw wide at (number_of-lt here) in
    let shifted : number_of bits / 2 ^ length behind ≡ number_of front * 2 ^ width + number_of here =
    rw spelled (shr_high (number_of front * 2 ^ width + number_of here) (length behind) (number_of behind)
    (number_of-lt behind)) in
    sym (rw (← left, shifted) (mod_low (number_of front) width (number_of here) small))

-- a byte read as a field
pub number_at-bits_of : (bytes : List ℕ) (k : ℕ) → k < length bytes → number_at (bits_of bytes) (8 * k) 8
    ≡ get_or bytes k 0 % 2 ^ 8
number_at-bits_of bytes k h =
    ap (λ (bs : List Bool). number_of (take 8 bs)) (drop-bits_of k bytes ∙ ap bits_of (drop_more bytes k 0 h))
    ∙ ap number_of (take-field 8 (get_or bytes k 0) (bits_of (drop (k + 1) bytes)))
    ∙ number_of-field-mod 8 (get_or bytes k 0)

-- if a whole byte stands at a place, nothing is filled up
pub byte_at-whole : (bits : List Bool) (k : ℕ) → 8 * k + 8 ≤ length bits → byte_at bits k ≡ number_at bits (8 * k) 8
byte_at-whole bits k h =
    let none : 8 - length (drop (8 * k) bits) ≡ 0 = simp length-drop (omega arith) in
    rw none (omega arith)

-- bytes that hold the fields of eight bits, one after another
pub bytes_of_fields : (bits : List Bool) (bytes : List ℕ) → length bits ≡ 8 * length bytes →
    ((k : ℕ) → k < length bytes → get_or bytes k 0 ≡ number_at bits (8 * k) 8) → bytes ≡ bytes_of bits
bytes_of_fields bits bytes size held =
    let count : length bytes ≡ bytes_for (length bits) = omega arith in
    let each : (k : ℕ) → k < length bytes → get_or bytes k 0 ≡ byte_at bits k =
    λ k h. held k h ∙ sym (byte_at-whole bits k (omega arith)) in
    fill_by_all (byte_at bits) bytes (length bytes) 0 refl each
    ∙ ap (λ (n : ℕ). map (byte_at bits) (range_with_len 0 n)) count

-- bytes are what their bits fill
pub bytes_of-bits_of : (bytes : List ℕ) → ((k : ℕ) → get_or bytes k 0 < 256) → bytes_of (bits_of bytes) ≡ bytes
bytes_of-bits_of bytes small =
    sym (bytes_of_fields (bits_of bytes) bytes (length-bits_of bytes)
    (λ k h. sym (number_at-bits_of bytes k h ∙ mod-eq_of_lt (small k))))

-- the bytes from one on, as far as whole bytes stand there, have the bits from there on
bits_of-bytes_from : (bits : List Bool) (from count : ℕ) → 8 * (from + count) ≤ length bits →
    bits_of (map (byte_at bits) (range_with_len from count)) ≡ part bits (8 * from) (8 * count)
bits_of-bytes_from bits from zero h = refl
bits_of-bytes_from bits from (suc count) h =
    let here : field 8 (byte_at bits from) ≡ part bits (8 * from) 8 =
    ap (field 8) (byte_at-whole bits from (omega arith)) ∙ field-number_at bits (8 * from) 8 (omega arith) in
    let next : 8 * (from + 1) ≡ 8 * from + 8 = omega arith in
    let rest : bits_of (map (byte_at bits) (range_with_len (from + 1) count)) ≡ take (8 * count)
    (drop 8 (drop (8 * from) bits)) =
    bits_of-bytes_from bits (from + 1) count (omega arith)
    ∙ ap (λ (k : ℕ). take (8 * count) (drop k bits)) next ∙ ap (take (8 * count)) (sym (drop-drop 8 (8 * from) bits)) in
    let more : 8 + 8 * count ≡ 8 * suc count = omega arith in
    rw (here, rest) (sym (take-add 8 (8 * count) (drop (8 * from) bits))
    ∙ ap (λ (k : ℕ). take k (drop (8 * from) bits)) more)

-- bits that fill whole bytes are those of the bytes
pub bits_of-bytes_of : (bits : List Bool) (count : ℕ) → length bits ≡ 8 * count → bits_of (bytes_of bits) ≡ bits
bits_of-bytes_of bits count h =
    let filled : bytes_for (length bits) ≡ count = omega arith in
    ap (λ (n : ℕ). bits_of (map (byte_at bits) (range_with_len 0 n))) filled
    ∙ bits_of-bytes_from bits 0 count (omega arith) ∙ take_all (8 * count) bits (omega arith)

pub length-bytes_of : (bits : List Bool) → length (bytes_of bits) ≡ bytes_for (length bits)
length-bytes_of bits = length-map-range_with_len (byte_at bits) 0 (bytes_for (length bits))

-- the number of bytes, the first of them apart
pub number_of-bytes : (byte : ℕ) (bytes : List ℕ) → byte < 256 → number_of (bits_of (byte ∷ bytes))
    ≡ byte * 2 ^ (8 * length bytes) + number_of (bits_of bytes)
number_of-bytes byte bytes small =
    number_of-append (field 8 byte) (bits_of bytes)
    ∙ rw (length-bits_of bytes) (ap (λ (n : ℕ). n * 2 ^ (8 * length bytes) + number_of (bits_of bytes))
    (number_of-field 8 byte small))

-- the number of four bytes
pub four_bytes : (a b c d : ℕ) → a < 256 → b < 256 → c < 256 → d < 256
    → number_of (bits_of (a ∷ b ∷ c ∷ d ∷ [])) ≡ a * 2 ^ 24 + b
    * 2 ^ 16 + c * 2 ^ 8 + d
four_bytes a b c d fits_a fits_b fits_c fits_d =
    omega (
      arith,
      number_of-bytes a (b ∷ c ∷ d ∷ []) fits_a,
      number_of-bytes b (c ∷ d ∷ []) fits_b,
      number_of-bytes c (d ∷ []) fits_c,
      number_of-bytes d [] fits_d,
    )

-- a wide field in two
pub field-add : (a b n : ℕ) → field (a + b) n ≡ field a (n / 2 ^ b) ++ field b n
unfolding field
field-add zero b n = let e : 0 + b ≡ b = omega arith in ap (λ (k : ℕ). field k n) e
field-add (suc a) b n =
    let e : suc a + b ≡ suc (a + b) = omega arith in
    let turn : b + a ≡ a + b = omega arith in
    let top : n / 2 ^ b / 2 ^ a ≡ n / 2 ^ (a + b) = shr-shr n b a ∙ ap (λ (k : ℕ). n / 2 ^ k) turn in
    ap (λ (k : ℕ). field k n) e
    ∙ ap (λ (rest : List Bool). (bit_at n (a + b) == 1) ∷ rest) (field-add a b n)
    ∙ ap (λ (k : ℕ). (k % 2 == 1) ∷ (field a (n / 2 ^ b) ++ field b n)) (sym top)

-- what stands above a field's width can be cut off
pub field-low : (w n : ℕ) → field w (n % 2 ^ w) ≡ field w n
field-low w n =
    let same : w ≤ w = omega arith in
    sym (field-high w (n / 2 ^ w) (n % 2 ^ w) w same) ∙ ap (field w) (shr_split n w)

bytes_pow : (k : ℕ) → 256 ^ k ≡ 2 ^ (8 * k)
bytes_pow zero = refl
bytes_pow (suc k) =
    let e : 8 * suc k ≡ 8 + 8 * k = omega arith in
    pow-succ' 256 k ∙ ap (λ (x : ℕ). 256 * x) (bytes_pow k) ∙ sym (ap (λ (x : ℕ). 2 ^ x) e ∙ pow-add 2 8 (8 * k))

-- a byte of a number
pub field-byte : (k n : ℕ) → field 8 (number_byte k n) ≡ field 8 (n / 2 ^ (8 * k))
field-byte zero n = let e : n ≡ n / 2 ^ (8 * 0) = omega arith in field-low 8 n ∙ ap (field 8) e
field-byte (suc k) n = field-low 8 (n / 256 ^ suc k) ∙ ap (λ (x : ℕ). field 8 (n / x)) (bytes_pow (suc k))

-- two bytes of a number, the higher one first
pub field-two-bytes : (n : ℕ) → field 8 (number_byte 1 n) ++ field 8 (number_byte 0 n) ≡ field 16 n
field-two-bytes n =
    ap (λ (xs : List Bool). xs ++ field 8 (number_byte 0 n)) (field-byte 1 n)
    ∙ ap (λ (xs : List Bool). field 8 (n / 2 ^ 8) ++ xs)
    (field-low 8 n)
    ∙ sym (field-add 8 8 n)

field-none : (n : ℕ) → field (8 * 0) n ≡ []
unfolding field
field-none n = refl

-- the bytes of a number, the highest first, are its field
pub bits_of-high-first : (k n : ℕ) → bits_of (bytes_high_first k n) ≡ field (8 * k) n
bits_of-high-first zero n = sym (field-none n)
bits_of-high-first (suc k) n =
    let e : 8 * suc k ≡ 8 + 8 * k = omega arith in
    let rest = bits_of-high-first k n in
    ap (λ (xs : List Bool). xs ++ bits_of (bytes_high_first k n)) (field-byte k n)
    ∙ ap (λ (xs : List Bool). field 8 (n / 2 ^ (8 * k)) ++ xs) rest
    ∙ sym (ap (λ (x : ℕ). field x n) e ∙ field-add 8 (8 * k) n)

-- a number that was read off is as narrow as its field
pub number_at-lt : (bits : List Bool) (at width : ℕ) → at + width ≤ length bits → number_at bits at width < 2 ^ width
number_at-lt bits at width h = rw (length-part bits at width h) at (number_of-lt (part bits at width))

-- a front of bytes has bytes
pub small_take : (n : ℕ) (xs : List ℕ) → ((k : ℕ) → get_or xs k 0 < 256) → (k : ℕ) → get_or (take n xs) k 0 < 256
small_take zero xs f k = omega arith
small_take (suc n) [] f k = omega arith
small_take (suc n) (x ∷ xs) f zero = f 0
small_take (suc n) (x ∷ xs) f (suc k) = small_take n xs (λ j. f (suc j)) k
