-- Eight bits of the scrambler's sequence at a time.
use Rattle.std.proofs.Common.{◌≡◌, ℕ, zero, suc, ◌+◌, ◌-◌, ◌*◌, ◌/◌, ◌%◌, ◌^◌, ◌<◌, ◌≤◌, ⊎_elim, Bool, true, false}
use Rattle.std.proofs.Common.{cond, List}
use Rattle.std.proofs.Common.{[], ◌∷◌, ◌++◌, length, drop, map, get_or, set, refl, ap, sym, ◌∙◌, arith}
use Rattle.std.specs.Prelude.{bit_and, bit_or, bit_xor}
use Rattle.std.specs.List.{range_with_len}
use Rattle.std.proofs.lemmas.Bool.{le-ltb, cases_lt}
use Rattle.std.proofs.lemmas.List.FromFn.{map-range_with_len_more, length-map-range_with_len}
use Rattle.std.proofs.Math.Nat.{pow-succ'}
use Rattle.std.proofs.lemmas.Nat.{xor_block, xor_mod, xor_comm, or_shifted, and_mask}
use Rattle.std.proofs.lemmas.List.{length-append, length-drop, take_all, length-set, get_or-set_other}
use Rattle.std.proofs.lemmas.Grind.{get_or-set_at}
use Rattle.terms.specs.Bits.{number_of, part}
use Rattle.terms.proofs.BitLemmas.{number_of-lt, number_of-part, number_of-append, length-part}
use Rattle.bit_slice.specs.Prbs.{plus, next_bit, fifteen_before, prbs, sequence, prbs_byte}
use Rattle.bit_slice.specs.Laws.{PrbsRecurs}
use Rattle.bit_slice.proofs.CrcLemmas.{number_is}

-- the sum of bits, one by one
abbrev sums : List Bool → List Bool → List Bool
sums (a ∷ xs) (b ∷ ys) = plus a b ∷ sums xs ys
sums [] ys = []
sums (a ∷ xs) [] = []

plus_is : (a b : Bool) → cond (plus a b) 1 0 ≡ bit_xor (cond a 1 0) (cond b 1 0)
plus_is true true = refl
plus_is true false = refl
plus_is false true = refl
plus_is false false = refl

length-sums : (xs ys : List Bool) → length xs ≡ length ys → length (sums xs ys) ≡ length xs
length-sums [] ys e = refl
length-sums (a ∷ xs) [] e = absurd (omega arith)
length-sums (a ∷ xs) (b ∷ ys) e = ap suc (length-sums xs ys (omega arith))

number_of-sums : (xs ys : List Bool) → length xs ≡ length ys → number_of (sums xs ys) ≡ bit_xor (number_of xs)
    (number_of ys)
number_of-sums [] [] e = refl
number_of-sums [] (b ∷ ys) e = absurd (omega arith)
number_of-sums (a ∷ xs) [] e = absurd (omega arith)
number_of-sums (a ∷ xs) (b ∷ ys) e =
    let same : length xs ≡ length ys = omega arith in
    let low : number_of ys < 2 ^ length xs = rw same (number_of-lt ys) in
    let right : number_of (b ∷ ys) ≡ cond b 1 0 * 2 ^ length xs + number_of ys =
    number_is b ys ∙ ap (λ (k : ℕ). cond b 1 0 * 2 ^ k + number_of ys) (sym same) in
    rw (
      number_is (plus a b) (sums xs ys),
      length-sums xs ys same,
      number_of-sums xs ys same,
      plus_is
          a b,
      number_is a xs,
      right,
    )
    (sym (xor_block (length xs) (cond a 1 0) (cond b 1 0) (number_of xs) (number_of ys) (number_of-lt xs) low))

-- one bit further
abbrev moved : List Bool → List Bool
moved w = drop 1 w ++ next_bit w ∷ []

length-moved : (w : List Bool) → length w ≡ 15 → length (moved w) ≡ 15
length-moved [] e = absurd (omega arith)
length-moved (a ∷ w) e = length-append w (next_bit (a ∷ w) ∷ []) ∙ omega arith

length-before : (i : ℕ) → length (fifteen_before i) ≡ 15
unfolding fifteen_before
length-before zero = refl
length-before (suc i) = length-moved (fifteen_before i) (length-before i)

before-one : (i : ℕ) → fifteen_before (i + 1) ≡ moved (fifteen_before i)
unfolding fifteen_before
before-one i = let e : i + 1 ≡ suc i = omega arith in ap fifteen_before e

-- so many bits further
after : ℕ → List Bool → List Bool
after zero w = w
after (suc k) w = after k (moved w)

before-plus : (k i : ℕ) → fifteen_before (i + k) ≡ after k (fifteen_before i)
unfolding after
before-plus zero i = let e : i + 0 ≡ i = omega arith in ap fifteen_before e
before-plus (suc k) i = let e : i + suc k ≡ i + 1 + k = omega arith in ap fifteen_before e ∙ before-plus k (i + 1)
    ∙ ap (after k) (before-one i)

-- so many next bits
nexts : ℕ → List Bool → List Bool
nexts zero w = []
nexts (suc k) w = next_bit w ∷ nexts k (moved w)

length-nexts : (k : ℕ) (w : List Bool) → length (nexts k w) ≡ k
unfolding nexts
length-nexts zero w = refl
length-nexts (suc k) w = ap suc (length-nexts k (moved w))

nexts_are : (k i : ℕ) → map prbs (range_with_len i k) ≡ nexts k (fifteen_before i)
unfolding nexts
nexts_are zero i = refl
nexts_are (suc k) i = ap (λ (rest : List Bool). prbs i ∷ rest) (nexts_are k (i + 1) ∙ ap (nexts k) (before-one i))

-- None of eight sums needs another.
eight_sums : (w : List Bool) → length w ≡ 15 → nexts 8 w ≡ sums (part w 1 8) (part w 0 8)
unfolding nexts
eight_sums (a ∷ b ∷ c ∷ d ∷ e ∷ f ∷ g ∷ h ∷ i ∷ j ∷ k ∷ l ∷ m ∷ n ∷ o ∷ []) long = refl
eight_sums w long = absurd (omega arith)

eight_after : (w : List Bool) → length w ≡ 15 → after 8 w ≡ drop 8 w ++ nexts 8 w
unfolding nexts after
eight_after (a ∷ b ∷ c ∷ d ∷ e ∷ f ∷ g ∷ h ∷ i ∷ j ∷ k ∷ l ∷ m ∷ n ∷ o ∷ []) long = refl
eight_after w long = absurd (omega arith)

fifteen_after : (w : List Bool) → length w ≡ 15 → next_bit (after 15 w) ≡ plus (next_bit (moved w)) (next_bit w)
unfolding after
fifteen_after (a ∷ b ∷ c ∷ d ∷ e ∷ f ∷ g ∷ h ∷ i ∷ j ∷ k ∷ l ∷ m ∷ n ∷ o ∷ []) long = refl
fifteen_after w long = absurd (omega arith)

-- a sum of two bits, both from x(0) on
recurs : (i : ℕ) → prbs (i + 15) ≡ plus (prbs (i + 1)) (prbs i)
recurs i = grind (arith, before-plus, fifteen_after, length-before, before-one)

-- ---- from the loading sequence on
sequence-later : (i : ℕ) → sequence (i + 15) ≡ prbs i
sequence-later i = grind (arith, le-ltb)

before_is : (i : ℕ) → fifteen_before i ≡ map sequence (range_with_len i 15)
unfolding fifteen_before
before_is zero = refl
before_is (suc i) =
    let place : i + 1 + 14 ≡ i + 15 = omega arith in
    let next : i + 1 ≡ suc i = omega arith in
    ap moved (before_is i)
    ∙ ap (λ (b : Bool). map sequence (range_with_len (i + 1) 14) ++ b ∷ []) (sym (ap next_bit (before_is i))
    ∙ sym (sequence-later i))
    ∙ sym (map-range_with_len_more sequence (i + 1) 14 (i + 15) place)
    ∙ ap (λ (k : ℕ). map sequence (range_with_len k 15)) next

pub prbs_recurs : PrbsRecurs
prbs_recurs i = ap next_bit (before_is i)

-- ---- sums of bits that lie further apart
plus_middle : (a b c : Bool) → plus (plus a b) (plus b c) ≡ plus a c
plus_middle true true c = cc
plus_middle true false c = refl
plus_middle false true true = refl
plus_middle false true false = refl
plus_middle false false c = refl

-- x(i + 15 * 2^k) = x(i + 2^k) + x(i): twice the one for k is the next one
apart : (k i : ℕ) → prbs (i + 15 * 2 ^ k) ≡ plus (prbs (i + 2 ^ k)) (prbs i)
apart zero i = recurs i
apart (suc k) i =
    let p : ℕ = 2 ^ k in
    let twice : 2 ^ suc k ≡ 2 * p = pow-succ' 2 k in
    let whole : i + 15 * 2 ^ suc k ≡ i + 15 * p + 15 * p = omega arith in
    let turn : i + 15 * p + p ≡ i + p + 15 * p = omega arith in
    let sum : i + p + p ≡ i + 2 ^ suc k = omega arith in
    ap prbs whole ∙ apart k (i + 15 * p)
    ∙ ap (λ (b : Bool). plus b (prbs (i + 15 * p))) (ap prbs turn ∙ apart k (i + p))
    ∙ ap (plus (plus (prbs (i + p + p)) (prbs (i + p)))) (apart k i)
    ∙ plus_middle (prbs (i + p + p)) (prbs (i + p)) (prbs i) ∙ ap (λ (n : ℕ). plus (prbs n) (prbs i)) sum

bits_apart : (n i : ℕ) → map prbs (range_with_len (i + 960) n) ≡ sums (map prbs (range_with_len (i + 64) n))
    (map prbs (range_with_len i n))
bits_apart zero i = refl
bits_apart (suc n) i =
    let far : i + 960 + 1 ≡ i + 1 + 960 = omega arith in
    let near : i + 64 + 1 ≡ i + 1 + 64 = omega arith in
    rw (far, near, bits_apart n (i + 1), apart 6 i) refl

-- a byte is the sum of those 112 and 120 before it
byte_apart : (k : ℕ) → prbs_byte (k + 120) ≡ bit_xor (prbs_byte (k + 8)) (prbs_byte k)
byte_apart k =
    let far : 8 * (k + 120) ≡ 8 * k + 960 = omega arith in
    let near : 8 * (k + 8) ≡ 8 * k + 64 = omega arith in
    let xs : List Bool = map prbs (range_with_len (8 * k + 64) 8) in
    let ys : List Bool = map prbs (range_with_len (8 * k) 8) in
    let long : length xs ≡ length ys = length-map-range_with_len prbs (8 * k + 64) 8
    ∙ sym (length-map-range_with_len prbs (8 * k) 8) in
    ap (λ (n : ℕ). number_of (map prbs (range_with_len n 8))) far ∙ ap number_of (bits_apart 8 (8 * k))
    ∙ number_of-sums xs ys long
    ∙ ap (λ (n : ℕ). bit_xor (number_of (map prbs (range_with_len n 8))) (number_of ys)) (sym near)

-- the bytes from one on, of which so many were put in place of those 120 before them
pub record RunsOn (bytes : List ℕ) (from done : ℕ) : Type 0 where
  pub size : length bytes ≡ 120
  pub new : (k : ℕ) → k < done → get_or bytes k 0 ≡ prbs_byte (from + 120 + k)
  pub old : (k : ℕ) → done ≤ k → k < 120 → get_or bytes k 0 ≡ prbs_byte (from + k)

pub runs_on : (bytes : List ℕ) (from done next : ℕ) → RunsOn bytes from done → done < 120
    → next ≡ prbs_byte (from + done + 8) →
    RunsOn (set bytes done (bit_xor (get_or bytes done 0) next)) from (done + 1)
runs_on bytes from done next r inside is =
    let sum : ℕ = bit_xor (get_or bytes done 0) next in
    let far : from + done + 120 ≡ from + 120 + done = omega arith in
    let stays : done ≤ done = omega arith in
    let within : done < length bytes = omega (arith, r.size) in
    let here : sum ≡ prbs_byte (from + 120 + done) =
    ap (λ (n : ℕ). bit_xor n next) (r.old done stays inside) ∙ ap (bit_xor (prbs_byte (from + done))) is
    ∙ xor_comm (prbs_byte (from + done)) (prbs_byte (from + done + 8)) ∙ sym (byte_apart (from + done))
    ∙ ap prbs_byte far in
    record {
      size = length-set bytes done sum ∙ r.size;
      new = λ k h. ⊎_elim (λ less. get_or-set_other bytes done k sum 0 (λ e. omega arith) ∙ r.new k less)
          (λ more. let e : k ≡ done = omega arith in get_or-set_at bytes done k sum 0 e within ∙ here
          ∙ ap (λ (n : ℕ). prbs_byte (from + 120 + n)) (sym e)) (cases_lt k done);
      old = λ k h short. get_or-set_other bytes done k sum 0 (λ e. omega arith) ∙ r.old k (omega arith) short;
    }

-- one of the first 112, by an old byte
pub runs_near : (bytes : List ℕ) (from done : ℕ) → RunsOn bytes from done → done < 112 →
    RunsOn (set bytes done (bit_xor (get_or bytes done 0) (get_or bytes (done + 8) 0))) from (done + 1)
runs_near bytes from done r inside =
    let sum : from + (done + 8) ≡ from + done + 8 = omega arith in
    runs_on bytes from done (get_or bytes (done + 8) 0) r (omega arith) (r.old (done + 8) (omega arith) (omega arith)
    ∙ ap prbs_byte sum)

-- one of the last eight, by a new byte
pub runs_round : (bytes : List ℕ) (from done : ℕ) → RunsOn bytes from done → 112 ≤ done → done < 120 →
    RunsOn (set bytes done (bit_xor (get_or bytes done 0) (get_or bytes (done - 112) 0))) from (done + 1)
runs_round bytes from done r least inside =
    let sum : from + 120 + (done - 112) ≡ from + done + 8 = omega arith in
    runs_on bytes from done (get_or bytes (done - 112) 0) r inside (r.new (done - 112) (omega arith) ∙ ap prbs_byte sum)

-- ---- the next byte by the register of fifteen bits
eight_number : (w : List Bool) (r : ℕ) → length w ≡ 15 → r ≡ number_of w → number_of (nexts 8 w)
    ≡ bit_xor (r / 2 ^ 6) (r / 2 ^ 7) % 2 ^ 8
eight_number w r long is =
    let same : length (part w 1 8) ≡ length (part w 0 8) = length-part w 1 8 (omega arith)
    ∙ sym (length-part w 0 8 (omega arith)) in
    let one : number_of (part w 1 8) ≡ r / 2 ^ 6 % 2 ^ 8 = rw is (rw long at (number_of-part w 1 8 (omega arith))) in
    let zero_ : number_of (part w 0 8) ≡ r / 2 ^ 7 % 2 ^ 8 = rw is (rw long at (number_of-part w 0 8 (omega arith))) in
    ap number_of (eight_sums w long) ∙ number_of-sums (part w 1 8) (part w 0 8) same
    ∙ rw (one, zero_) (sym (xor_mod (r / 2 ^ 6) (r / 2 ^ 7) 8))

pub byte_is : (given r : ℕ) → r ≡ number_of (fifteen_before (8 * given))
    → bit_and (bit_xor (r / 2 ^ 6) (r / 2 ^ 7)) 0xFF
    ≡ prbs_byte given
byte_is given r is =
    and_mask (bit_xor (r / 2 ^ 6) (r / 2 ^ 7)) 8
    ∙ sym (ap number_of (nexts_are 8 (8 * given)) ∙ eight_number (fifteen_before (8 * given)) r
    (length-before (8 * given)) is)

pub register_is : (given r : ℕ) → r < 2 ^ 16 → r ≡ number_of (fifteen_before (8 * given)) →
    bit_and (bit_or (r * 2 ^ 8 % 2 ^ 16) (bit_and (bit_xor (r / 2 ^ 6) (r / 2 ^ 7)) 0xFF)) 0x7FFF
    ≡ number_of (fifteen_before (8 * (given + 1)))
register_is given r fits is =
    let w : List Bool = fifteen_before (8 * given) in
    let long : length w ≡ 15 = length-before (8 * given) in
    let byte : ℕ = bit_xor (r / 2 ^ 6) (r / 2 ^ 7) % 2 ^ 8 in
    let small : byte < 2 ^ 8 = omega arith in
    let masked : bit_and (bit_xor (r / 2 ^ 6) (r / 2 ^ 7)) 0xFF ≡ byte = and_mask (bit_xor (r / 2 ^ 6) (r / 2 ^ 7)) 8 in
    let shifted : r * 2 ^ 8 % 2 ^ 16 ≡ r % 2 ^ 8 * 2 ^ 8 = omega arith in
    let rest : drop 8 w ≡ part w 8 7 = sym (take_all 7 (drop 8 w) (rw (length-drop 8 w, long) (omega arith))) in
    let low : r / 2 ^ 0 % 2 ^ 7 ≡ r % 2 ^ 7 = omega arith in
    let kept : number_of (drop 8 w) ≡ r % 2 ^ 7 = ap number_of rest
    ∙ rw is (rw long at (number_of-part w 8 7 (omega arith)))
    ∙ low in
    let long_next : length (nexts 8 w) ≡ 8 = length-nexts 8 w in
    let place : 8 * (given + 1) ≡ 8 * given + 8 = omega arith in
    let next : number_of (fifteen_before (8 * (given + 1))) ≡ r % 2 ^ 7 * 2 ^ 8 + byte =
    ap (λ (i : ℕ). number_of (fifteen_before i)) place ∙ ap number_of (before-plus 8 (8 * given) ∙ eight_after w long)
    ∙ number_of-append (drop 8 w) (nexts 8 w)
    ∙ rw (kept, long_next, eight_number w r long is) refl in
    rw (masked, shifted, or_shifted (r % 2 ^ 8) 8 byte small) (and_mask (r % 2 ^ 8 * 2 ^ 8 + byte) 15
    ∙ omega arith ∙ sym next)
