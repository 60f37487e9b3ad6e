-- Bits behind other bits in bytes, and zeros behind them.
use Rattle.std.proofs.Common.{◌≡◌, ℕ, zero, suc, ◌+◌, ◌-◌, ◌*◌, ◌/◌, ◌%◌, ◌^◌, ◌<◌, ◌≤◌, ⊎_elim, Bool, true, false}
use Rattle.std.proofs.Common.{List, []}
use Rattle.std.proofs.Common.{◌++◌, length, take, drop, get_or, refl, ap, sym, ◌∙◌, arith}
use Rattle.std.specs.Prelude.{replicate, bit_or, if◌then◌else◌}
use Rattle.std.specs.Int.{bytes_high_first}
use Rattle.std.proofs.lemmas.Bool.{cases_lt}
use Rattle.std.proofs.lemmas.List.FromFn.{fill_by_all}
use Rattle.std.proofs.Math.Nat.{add-mul, mul_assoc, mod-eq_of_lt, pow-le-pow_right}
use Rattle.std.proofs.lemmas.List.{append_assoc, append-nil, length-append, length-drop, length-take-le, get_or-take, take-take}
use Rattle.std.proofs.lemmas.List.{length-replicate}
use Rattle.std.proofs.lemmas.List.{take-append-le, drop-append-le, take-append-drop, take_all, take_at, drop_all}
use Rattle.std.proofs.lemmas.List.{replicate-append-replicate, take-replicate}
use Rattle.std.proofs.Math.Seq.{take-append-add}
use Rattle.std.proofs.lemmas.Nat.{or_shifted, pow-add, shl_below}
use Rattle.terms.specs.Bits.{field, bits_of, number_of, part, byte_at, bytes_of, bytes_for}
use Rattle.terms.proofs.BitLemmas.{length-field, field-add, drop-field, length-bits_of, bits_of-append, take-bits_of}
use Rattle.terms.proofs.BitLemmas.{number_of-append, number_of-field, field-number_of, number_at-bits_of}
use Rattle.terms.proofs.BitLemmas.{number_of-lt, length-part, bits_of-high-first}
use Rattle.terms.proofs.PartLemmas.{number_of-zeros, part-add}
use Rattle.bit_slice.specs.Filling.{padded, Holds}

pub length-padded : (bits : List Bool) (n : ℕ) → length bits ≤ n → length (padded bits n) ≡ n
length-padded bits n few = length-append bits (replicate (n - length bits) false)
    ∙ omega (arith, length-replicate (n - length bits) false)

-- a front that has all the bits
take-padded : (bits : List Bool) (k n : ℕ) → length bits ≤ k → k ≤ n → take k (padded bits n) ≡ padded bits k
take-padded bits k n few less =
    let zeros : List Bool = replicate (n - length bits) false in
    let place : k ≡ length bits + (k - length bits) = omega arith in
    ap (λ (i : ℕ). take i (bits ++ zeros)) place ∙ take-append-add bits zeros (k - length bits)
    ∙ ap (λ (more : List Bool). bits ++ more) (take-replicate (k - length bits) (n - length bits) false (omega arith))

-- a front of the bits, and the rest filled up
cut-padded : (bits : List Bool) (k n : ℕ) → k ≤ length bits → drop k (padded bits n) ≡ padded (drop k bits) (n - k)
cut-padded bits k n inside = grind (arith, length-drop, drop-append-le)

-- bits in front of others
padded-behind : (front bits : List Bool) (n : ℕ) → front ++ padded bits n ≡ padded (front ++ bits) (length front + n)
padded-behind front bits n = grind (arith, length-append, append_assoc)

number_of-padded : (bits : List Bool) (n : ℕ) → number_of (padded bits n) ≡ number_of bits * 2 ^ (n - length bits)
number_of-padded bits n = grind (arith, number_of-append, length-replicate, number_of-zeros)

-- ---- how many bytes the bits fill
fills : (bytes : List ℕ) (bits : List Bool) → Holds bytes bits → bytes_for (length bits) ≤ length bytes
fills bytes bits held =
    let count : ℕ = bytes_for (length bits) in
    let long : 8 * length (take count bytes) ≡ 8 * count = sym (length-bits_of (take count bytes)) ∙ ap length held
    ∙ length-padded bits (8 * count) (omega arith) in
    ⊎_elim (λ (less : length bytes < count).
    let all = ap length (take_all count bytes (omega arith)) in omega (arith, long, all, less)) (λ ge. ge)
    (cases_lt (length bytes) count)

-- ---- what is put in place of some bytes
pub placed : (old new piece : List ℕ) (bits more : List Bool) (first count : ℕ) → Holds old bits
    → new ≡ take first old ++ (piece ++ drop count (drop first old)) → length piece ≡ count
    → 8 * first ≤ length bits → first + count ≡ bytes_for (length bits + length more)
    → bits_of piece ≡ padded (drop (8 * first) bits ++ more) (8 * count) → Holds new (bits ++ more)
placed old new piece bits more first count held is size begun end put =
    let used : ℕ = bytes_for (length bits) in
    let few : used ≤ length old = fills old bits held in
    let inside : first ≤ used = omega arith in
    let front : bits_of (take first old) ≡ take (8 * first) bits =
    ap bits_of (sym (take-take first used old inside))
    ∙ sym (take-bits_of first (take used old) (omega (arith, length-take-le used old few, inside)))
    ∙ ap (take (8 * first)) held
    ∙ take-append-le (8 * first) bits (replicate (8 * used - length bits) false) begun in
    let long : length (take first old) ≡ first = length-take-le first old (omega arith) in
    let long_bits : length (take (8 * first) bits) ≡ 8 * first = length-take-le (8 * first) bits begun in
    let count_is : bytes_for (length (bits ++ more)) ≡ first + count =
    ap bytes_for (length-append bits more) ∙ sym end in
    let whole : take (first + count) new ≡ take first old ++ piece =
    ap (take (first + count)) (is ∙ sym (append_assoc (take first old) piece (drop count (drop first old))))
    ∙ take_at (take first old ++ piece) (drop count (drop first old)) (first + count)
    (length-append (take first old) piece ∙ omega (arith, long, size)) in
    let joined : take (8 * first) bits ++ (drop (8 * first) bits ++ more) ≡ bits ++ more =
    sym (append_assoc (take (8 * first) bits) (drop (8 * first) bits) more)
    ∙ ap (λ (xs : List Bool). xs ++ more) (take-append-drop (8 * first) bits) in
    let place : length (take (8 * first) bits) + 8 * count ≡ 8 * (first + count) = omega (arith, long_bits) in
    rw (count_is, whole, bits_of-append (take first old) piece, front, put)
    (padded-behind (take (8 * first) bits) (drop (8 * first) bits ++ more) (8 * count) ∙ rw (joined, place) refl)

-- ---- the window
pub window_is : (front : List Bool) (byte first value width : ℕ) → length front ≡ first → first < 8 → 0 < width
    → width ≤ 64
    → value < 2 ^ width →
    byte ≡ number_of front * 2 ^ (8 - first) →
    bits_of (bytes_high_first 16 (bit_or (byte * 2 ^ 120 % 2 ^ 128) (value * 2 ^ (128 - first - width) % 2 ^ 128)))
    ≡ padded (front ++ field width value) 128
window_is front byte first value width long few some narrow fits is =
    let s : ℕ = 128 - first - width in
    let high : ℕ = number_of front in
    let whole : List Bool = padded (front ++ field width value) 128 in
    let begun : high < 2 ^ first = rw long at (number_of-lt front) in
    let up : 8 - first + 120 ≡ 128 - first = omega arith in
    let left : byte * 2 ^ 120 ≡ high * 2 ^ (128 - first) =
    ap (λ (x : ℕ). x * 2 ^ 120) is ∙ mul_assoc high (2 ^ (8 - first)) (2 ^ 120)
    ∙ ap (λ (x : ℕ). high * x) (sym (pow-add 2 (8 - first) 120) ∙ ap (λ (k : ℕ). 2 ^ k) up) in
    let room : first + (128 - first) ≡ 128 = omega arith in
    let low_left : high * 2 ^ (128 - first) < 2 ^ 128 = rw room at (shl_below high first (128 - first) begun) in
    let below : width + s ≡ 128 - first = omega arith in
    let small : value * 2 ^ s < 2 ^ (128 - first) = rw below at (shl_below value width s fits) in
    let two : 0 < 2 = omega arith in
    let less : 128 - first ≤ 128 = omega arith in
    let most : 2 ^ (128 - first) ≤ 2 ^ 128 = pow-le-pow_right two less in
    let low_right : value * 2 ^ s < 2 ^ 128 = omega arith in
    let size : length (front ++ field width value) ≡ first + width = length-append front (field width value)
    ∙ omega (arith, long, length-field width value) in
    let rest : 128 - length (front ++ field width value) ≡ s = omega arith in
    let spelled : number_of whole ≡ high * 2 ^ (128 - first) + value * 2 ^ s =
    number_of-padded (front ++ field width value) 128
    ∙ rw (rest, number_of-append front (field width value), length-field width value, number_of-field width value fits)
    (add-mul (high * 2 ^ width) value (2 ^ s) ∙ ap (λ (x : ℕ). x + value * 2 ^ s) (mul_assoc high (2 ^ width) (2 ^ s)
    ∙ ap (λ (x : ℕ). high * x) (sym (pow-add 2 width s) ∙ ap (λ (k : ℕ). 2 ^ k) below))) in
    let number : bit_or (byte * 2 ^ 120 % 2 ^ 128) (value * 2 ^ s % 2 ^ 128) ≡ number_of whole =
    rw (left, mod-eq_of_lt low_left, mod-eq_of_lt low_right) (or_shifted high (128 - first) (value * 2 ^ s) small)
    ∙ sym spelled in
    let fill : length whole ≡ 128 = length-padded (front ++ field width value) 128 (omega arith) in
    ap (λ (x : ℕ). bits_of (bytes_high_first 16 x)) number ∙ bits_of-high-first 16 (number_of whole)
    ∙ ap (λ (k : ℕ). field k (number_of whole)) (sym fill) ∙ field-number_of whole

-- a front of the window
pub window_front : (window : List ℕ) (bits : List Bool) (count : ℕ) → bits_of window ≡ padded bits 128
    → length bits ≤ 8 * count
    → count ≤ 16 →
    bits_of (take count window) ≡ padded bits (8 * count)
window_front window bits count is few short =
    let size : 8 * length window ≡ 128 = sym (length-bits_of window) ∙ ap length is
    ∙ length-padded bits 128 (omega arith) in
    sym (take-bits_of count window (omega arith)) ∙ ap (take (8 * count)) is
    ∙ take-padded bits (8 * count) 128 few (omega arith)

-- ---- the byte that is begun
pub begun_none : (bits : List Bool) (used : ℕ) → length bits ≡ used → used % 8 ≡ 0
    → 0 ≡ number_of (drop (8 * (used / 8)) bits)
    * 2 ^ (8 - used % 8)
begun_none bits used long none = grind (arith, drop_all)

-- a byte that the bits fill
byte_of : (bytes : List ℕ) (bits : List Bool) (k : ℕ) → Holds bytes bits → get_or bytes k 0 < 256
    → k < bytes_for (length bits)
    → get_or bytes k 0 ≡ number_of (take 8 (padded (drop (8 * k) bits) (8 * bytes_for (length bits) - 8 * k)))
byte_of bytes bits k held small inside =
    let count : ℕ = bytes_for (length bits) in
    let same : get_or (take count bytes) k 0 ≡ get_or bytes k 0 = get_or-take count bytes k 0 inside in
    let long = length-take-le count bytes (fills bytes bits held) in
    sym same ∙ sym (number_at-bits_of (take count bytes) k (omega (arith, long, inside))
    ∙ mod-eq_of_lt (omega (arith, same, small)))
    ∙ ap (λ (xs : List Bool). number_of (take 8 (drop (8 * k) xs))) held
    ∙ ap (λ (xs : List Bool). number_of (take 8 xs)) (cut-padded bits (8 * k) (8 * count) (omega arith))

pub begun_some : (bytes : List ℕ) (bits : List Bool) (used : ℕ) → length bits ≡ used → Holds bytes bits
    → get_or bytes (used / 8) 0 < 256 → 0 < used % 8 →
    get_or bytes (used / 8) 0 ≡ number_of (drop (8 * (used / 8)) bits) * 2 ^ (8 - used % 8)
begun_some bytes bits used long held small some =
    let k : ℕ = used / 8 in
    let left : length (drop (8 * k) bits) ≡ used % 8 = omega (arith, length-drop (8 * k) bits) in
    byte_of bytes bits k held small (omega arith)
    ∙ ap number_of (take-padded (drop (8 * k) bits) 8 (8 * bytes_for (length bits) - 8 * k) (omega arith) (omega arith))
    ∙ number_of-padded (drop (8 * k) bits) 8 ∙ ap (λ (n : ℕ). number_of (drop (8 * k) bits) * 2 ^ (8 - n)) left

-- ---- what the bytes hold
pub seen : (bytes : List ℕ) (bits : List Bool) (used : ℕ) → Holds bytes bits → length bits ≡ used
    → take used (bits_of bytes)
    ≡ bits
seen bytes bits used held long =
    let count : ℕ = bytes_for (length bits) in
    sym (take-take used (8 * count) (bits_of bytes) (omega (arith, long)))
    ∙ ap (take used) (take-bits_of count bytes (fills bytes bits held) ∙ held)
    ∙ take_at bits (replicate (8 * count - length bits) false) used long

pub seen_more : (bytes : List ℕ) (bits more : List Bool) (used count : ℕ) → Holds bytes (bits ++ more)
    → length bits ≡ used
    → length more ≡ count →
    take (used + count) (bits_of bytes) ≡ bits ++ more
seen_more bytes bits more used count held long size =
    seen bytes (bits ++ more) (used + count) held (length-append bits more ∙ omega arith)

pub holds_seen : (bytes : List ℕ) (bits : List Bool) (used : ℕ) → take used (bits_of bytes) ≡ bits → Holds bytes bits
    → Holds bytes (take used (bits_of bytes))
holds_seen bytes bits used e held = rw e held

pub bits_of-zeros : (n : ℕ) → bits_of (replicate n 0) ≡ replicate (8 * n) false
unfolding field
bits_of-zeros zero = refl
bits_of-zeros (suc n) =
    let e : 8 + 8 * n ≡ 8 * suc n = omega arith in
    ap (λ (xs : List Bool). field 8 0 ++ xs) (bits_of-zeros n) ∙ replicate-append-replicate 8 (8 * n) false
    ∙ ap (λ (k : ℕ). replicate k false) e

pub holds_none : (bytes : List ℕ) → Holds bytes []
holds_none bytes = refl

-- bytes that the bits fill
each_byte : (bytes : List ℕ) (bits : List Bool) (k : ℕ) → Holds bytes bits → get_or bytes k 0 < 256
    → k < bytes_for (length bits)
    → get_or bytes k 0 ≡ byte_at bits k
each_byte bytes bits k held small inside =
    let rest : List Bool = drop (8 * k) bits in
    let left : ℕ = 8 * bytes_for (length bits) - 8 * k in
    let room : 8 ≤ left = omega arith in
    byte_of bytes bits k held small inside
    ∙ ⊎_elim (λ (few : length rest < 8).
    ap number_of (take-padded rest 8 left (omega arith) room) ∙ number_of-padded rest 8
    ∙ ap (λ (xs : List Bool). number_of xs * 2 ^ (8 - length rest)) (sym (take_all 8 rest (omega arith))))
    (λ (many : 8 ≤ length rest).
    let none : 8 - length rest ≡ 0 = omega arith in
    ap number_of (take-append-le 8 rest (replicate (left - length rest) false) many)
    ∙ rw none (omega arith))
    (cases_lt (length rest) 8)

pub filled : (bytes : List ℕ) (bits : List Bool) → Holds bytes bits
    → ((k : ℕ) → k < length bytes → get_or bytes k 0 < 256)
    → take (bytes_for (length bits)) bytes ≡ bytes_of bits
filled bytes bits held small =
    let count : ℕ = bytes_for (length bits) in
    let few : count ≤ length bytes = fills bytes bits held in
    let each : (k : ℕ) → k < count → get_or (take count bytes) k 0 ≡ byte_at bits k =
    λ k inside. get_or-take count bytes k 0 inside ∙ each_byte bytes bits k held (small k (omega arith)) inside in
    fill_by_all (byte_at bits) (take count bytes) count 0 (length-take-le count bytes few) each

-- a field of no width
pub none_put : (bytes : List ℕ) (bits : List Bool) (width value : ℕ) → width ≡ 0 → Holds bytes bits
    → Holds bytes (bits ++ field width value)
unfolding field
none_put bytes bits width value none held = rw (none, append-nil bits) held

-- whole bytes behind whole bytes
pub bytes_placed : (old piece : List ℕ) (front bits : List Bool) (used at count size : ℕ) → Holds old front
    → length front ≡ used
    → used % 8 ≡ 0 →
    at + 8 * count ≤ length bits → size ≡ count
    → bits_of piece ≡ part bits at (8 * count) →
    Holds (take (used / 8) old ++ (piece ++ drop size (drop (used / 8) old))) (front ++ part bits at (8 * count))
bytes_placed old piece front bits used at count size held long aligned inside same is =
    grind (arith, length-part, drop_all, placed, length-bits_of, append-nil)

-- the bits as one part
pub all_put : (bytes : List ℕ) (front bits : List Bool) (len : ℕ) → len ≡ length bits
    → Holds bytes (front ++ part bits 0 len)
    → Holds bytes (front ++ bits)
all_put bytes front bits len e held = rw (take_all len bits (omega arith)) at held

-- the bits in three parts
pub parts_put : (bytes : List ℕ) (front bits : List Bool) (head middle last rest : ℕ) → last ≡ head + middle
    → rest ≡ length bits - last → last ≤ length bits →
    Holds bytes (((front ++ part bits 0 head) ++ part bits head middle) ++ part bits last rest)
    → Holds bytes (front ++ bits)
parts_put bytes front bits head middle last rest place left inside held =
    let start : 0 + head ≡ head = omega arith in
    let two : part bits 0 last ≡ part bits 0 head ++ part bits head middle =
    ap (part bits 0) place ∙ part-add bits 0 head middle ∙ ap (λ (k : ℕ). part bits 0 head ++ part bits k middle)
    start in
    let end : part bits last rest ≡ drop last bits = take_all rest (drop last bits)
    (omega (arith, length-drop last bits)) in
    let all : ((front ++ part bits 0 head) ++ part bits head middle) ++ part bits last rest ≡ front ++ bits =
    append_assoc (front ++ part bits 0 head) (part bits head middle) (part bits last rest)
    ∙ append_assoc front (part bits 0 head) (part bits head middle ++ part bits last rest)
    ∙ ap (λ (xs : List Bool). front ++ xs) (sym (append_assoc (part bits 0 head) (part bits head middle)
    (part bits last rest))
    ∙ rw (← two, end) (take-append-drop last bits)) in
    rw all at held

-- more bytes behind them
pub resized : (old new : List ℕ) (bits : List Bool) (ok : Bool) (n size : ℕ) → ok ≡ true
    → new ≡ (if ok then take n old ++ replicate (n - size) 0 else old) →
    length old ≤ n → Holds old bits → Holds new bits
resized old new bits ok n size yes_ok is more held = grind (arith, take_all, take-append-le, fills)

-- how many bits are seen
pub seen_long : (bytes : List ℕ) (bits : List Bool) (used : ℕ) → take used (bits_of bytes) ≡ bits
    → used ≤ 8 * length bytes
    → length bits ≡ used
seen_long bytes bits used e few = ap length (sym e) ∙ length-take-le used (bits_of bytes)
    (omega (arith, length-bits_of bytes))

-- bytes that are written back whole
pub written_back : (xs ys : List ℕ) (n : ℕ) → length xs ≡ n → take n (xs ++ drop (length xs) ys) ≡ xs
written_back xs ys n e = take_at xs (drop (length xs) ys) n e

-- a field is the end of a wider one
pub field_end : (width all value : ℕ) → width ≤ all → part (field all value) (all - width) width ≡ field width value
field_end width all value narrow = grind (arith, length-field, field-add, drop-field, take_all)
