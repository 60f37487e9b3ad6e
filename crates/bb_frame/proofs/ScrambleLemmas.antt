-- The sequence added a byte at a time.
use Rattle.std.proofs.Common.{◌≡◌, ℕ, zero, suc, ◌+◌, ◌-◌, ◌*◌, ◌%◌, ◌<◌, ◌≤◌, ◌==◌, Bool, true, false, List, [], ◌∷◌}
use Rattle.std.proofs.Common.{◌++◌}
use Rattle.std.proofs.Common.{⊎_elim, length, take, drop, map, get_or, refl, ap, sym, ◌∙◌, arith}
use Rattle.std.specs.Prelude.{bit_xor}
use Rattle.std.specs.Int.{bit_at}
use Rattle.std.specs.List.{range_with_len}
use Rattle.std.proofs.lemmas.Nat.Bits.{bit_at-lt, bit_at_xor}
use Rattle.std.proofs.lemmas.Bool.{cases_lt}
use Rattle.std.proofs.lemmas.List.{get_or_append_left, get_or-append_right, get_or-take, get_or-drop, length-take-le}
use Rattle.std.proofs.lemmas.List.{length-append, length-drop}
use Rattle.terms.specs.Bits.{field, bits_of, number_of}
use Rattle.terms.proofs.BitLemmas.{length-part, get_or-part, length-field, field-number_of}
use Rattle.bit_slice.specs.Prbs.{plus, prbs, prbs_byte}
use Rattle.bit_slice.specs.PrbsBlocks.{Runs}
use Rattle.bb_frame.specs.Scrambled.{added, scrambled}
use Rattle.bb_frame.specs.Laws.{ScramblesBack}

plus_twice : (a b : Bool) → plus (plus a b) b ≡ a
plus_twice true true = refl
plus_twice true false = refl
plus_twice false true = refl
plus_twice false false = refl

added_twice : (bits : List Bool) (i : ℕ) → added i (added i bits) ≡ bits
added_twice [] i = refl
added_twice (b ∷ bits) i = rw (plus_twice b (prbs i), added_twice bits (i + 1)) refl

pub scrambles_back : ScramblesBack
scrambles_back bits = added_twice bits 0

-- ---- one byte
bit_plus : (a b : ℕ) → a < 2 → b < 2 → ((a + b) % 2 == 1) ≡ plus (a == 1) (b == 1)
bit_plus zero zero h k = refl
bit_plus zero (suc zero) h k = refl
bit_plus (suc zero) zero h k = refl
bit_plus (suc zero) (suc zero) h k = refl
bit_plus zero (suc (suc b)) h k = absurd (omega arith)
bit_plus (suc zero) (suc (suc b)) h k = absurd (omega arith)
bit_plus (suc (suc a)) b h k = absurd (omega arith)

-- the sum of bits, one by one
sums : List Bool → List Bool → List Bool
sums [] ys = []
sums (x ∷ xs) [] = []
sums (x ∷ xs) (y ∷ ys) = plus x y ∷ sums xs ys

field-xor : (w a b : ℕ) → field w (bit_xor a b) ≡ sums (field w a) (field w b)
unfolding field sums
field-xor zero a b = refl
field-xor (suc w) a b =
    ap (λ (k : ℕ). (k == 1) ∷ field w (bit_xor a b)) (bit_at_xor a b w)
    ∙ ap (λ (x : Bool). x ∷ field w (bit_xor a b)) (bit_plus (bit_at a w) (bit_at b w) (bit_at-lt a w) (bit_at-lt b w))
    ∙ ap (λ (xs : List Bool). plus (bit_at a w == 1) (bit_at b w == 1) ∷ xs) (field-xor w a b)

added_sums : (bits : List Bool) (i : ℕ) → added i bits ≡ sums bits (map prbs (range_with_len i (length bits)))
unfolding sums
added_sums [] i = refl
added_sums (b ∷ bits) i = ap (λ (xs : List Bool). plus b (prbs i) ∷ xs) (added_sums bits (i + 1))

length-prbs : (n i : ℕ) → length (map prbs (range_with_len i n)) ≡ n
length-prbs zero i = refl
length-prbs (suc n) i = ap suc (length-prbs n (i + 1))

-- one byte of the sequence
byte_added : (byte k : ℕ) → field 8 (bit_xor byte (prbs_byte k)) ≡ added (8 * k) (field 8 byte)
byte_added byte k =
    let eight : List Bool = map prbs (range_with_len (8 * k) 8) in
    let back : field 8 (number_of eight) ≡ eight = ap (λ (n : ℕ). field n (number_of eight))
    (sym (length-prbs 8 (8 * k)))
    ∙ field-number_of eight in
    field-xor 8 byte (prbs_byte k) ∙ ap (sums (field 8 byte)) back
    ∙ sym (added_sums (field 8 byte) (8 * k) ∙ ap (λ (n : ℕ). sums (field 8 byte) (map prbs (range_with_len (8 * k) n)))
    (length-field 8 byte))

added-append : (xs ys : List Bool) (i : ℕ) → added i (xs ++ ys) ≡ added i xs ++ added (i + length xs) ys
added-append [] ys i = let e : i ≡ i + 0 = omega arith in ap (λ (k : ℕ). added k ys) e
added-append (x ∷ xs) ys i =
    let e : i + 1 + length xs ≡ i + suc (length xs) = omega arith in
    ap (λ (zs : List Bool). plus x (prbs i) ∷ zs) (added-append xs ys (i + 1)
    ∙ ap (λ (k : ℕ). added (i + 1) xs ++ added k ys) e)

-- all bytes from one on
pub bytes_added : (old new : List ℕ) (k : ℕ) → length new ≡ length old
    → ((j : ℕ) → j < length old → get_or new j 0 ≡ bit_xor (get_or old j 0) (prbs_byte (k + j))) →
    bits_of new ≡ added (8 * k) (bits_of old)
bytes_added [] [] k size each = refl
bytes_added [] (y ∷ new) k size each = absurd (omega arith)
bytes_added (x ∷ old) [] k size each = absurd (omega arith)
bytes_added (x ∷ old) (y ∷ new) k size each =
    let zero_ : k + 0 ≡ k = omega arith in
    let here : y ≡ bit_xor x (prbs_byte k) = each 0 (omega arith) ∙ ap (λ (n : ℕ). bit_xor x (prbs_byte n)) zero_ in
    let later : (j : ℕ) → j < length old → get_or new j 0 ≡ bit_xor (get_or old j 0) (prbs_byte (k + 1 + j)) =
    λ j h. let e : k + suc j ≡ k + 1 + j = omega arith in each (suc j) (omega arith)
    ∙ ap (λ (n : ℕ). bit_xor (get_or old j 0) (prbs_byte n)) e in
    let place : 8 * (k + 1) ≡ 8 * k + length (field 8 x) = omega (arith, length-field 8 x) in
    ap (λ (n : ℕ). field 8 n ++ bits_of new) here
    ∙ ap (λ (bits : List Bool). bits ++ bits_of new) (byte_added x k)
    ∙ ap (λ (bits : List Bool). added (8 * k) (field 8 x) ++ bits) (bytes_added old new (k + 1) (omega arith) later
    ∙ ap (λ (n : ℕ). added n (bits_of old)) place)
    ∙ sym (added-append (field 8 x) (bits_of old) (8 * k))

pub all_scrambled : (old new : List ℕ) → length new ≡ length old
    → ((j : ℕ) → j < length old → get_or new j 0 ≡ bit_xor (get_or old j 0) (prbs_byte j)) →
    bits_of new ≡ scrambled (bits_of old)
all_scrambled old new size each =
    bytes_added old new 0 size (λ j h. let e : j ≡ 0 + j = omega arith in
    each j h ∙ ap (λ (n : ℕ). bit_xor (get_or old j 0) (prbs_byte n)) e)

-- ---- many bytes at a time
-- the sequence was added to so many bytes
pub record AddedTo (old new : List ℕ) (done : ℕ) : Type 0 where
  pub size : length new ≡ length old
  pub sums : (j : ℕ) → j < done → get_or new j 0 ≡ bit_xor (get_or old j 0) (prbs_byte j)
  pub rest : (j : ℕ) → done ≤ j → get_or new j 0 ≡ get_or old j 0

-- ---- a part that is put in place of another of its length
mid : List ℕ → ℕ → List ℕ → List ℕ
mid xs at piece = take at xs ++ (piece ++ drop (length piece) (drop at xs))

before_mid : (xs piece : List ℕ) (at j : ℕ) → at ≤ length xs → j < at → get_or (mid xs at piece) j 0 ≡ get_or xs j 0
unfolding mid
before_mid xs piece at j inside h =
    get_or_append_left (take at xs) (piece ++ drop (length piece) (drop at xs)) 0 j
    (omega (arith, length-take-le at xs inside))
    ∙ get_or-take at xs j 0 h

from_mid : (xs piece : List ℕ) (at j : ℕ) → at ≤ length xs → at ≤ j → get_or (mid xs at piece) j 0
    ≡ get_or (piece ++ drop (length piece) (drop at xs)) (j - at) 0
unfolding mid
from_mid xs piece at j inside h = get_or-append_right (take at xs) (piece ++ drop (length piece) (drop at xs)) at j 0
    (length-take-le at xs inside) h

within_mid : (xs piece : List ℕ) (at j : ℕ) → at ≤ length xs → at ≤ j → j < at + length piece
    → get_or (mid xs at piece) j 0
    ≡ get_or piece (j - at) 0
within_mid xs piece at j inside h short =
    from_mid xs piece at j inside h ∙ get_or_append_left piece (drop (length piece) (drop at xs)) 0 (j - at)
    (omega arith)

behind_mid : (xs piece : List ℕ) (at j : ℕ) → at ≤ length xs → at + length piece ≤ j → get_or (mid xs at piece) j 0
    ≡ get_or xs j 0
behind_mid xs piece at j inside h =
    let n : ℕ = length piece in
    let place : at + (n + (j - at - n)) ≡ j = omega arith in
    from_mid xs piece at j inside (omega arith)
    ∙ get_or-append_right piece (drop n (drop at xs)) n (j - at) 0 refl (omega arith)
    ∙ get_or-drop n (drop at xs) (j - at - n) 0 ∙ get_or-drop at xs (n + (j - at - n)) 0
    ∙ ap (λ (i : ℕ). get_or xs i 0) place

length-mid : (xs piece : List ℕ) (at : ℕ) → at + length piece ≤ length xs → length (mid xs at piece) ≡ length xs
unfolding mid
length-mid xs piece at inside = simp (length-append, length-drop) (omega (arith, length-take-le at xs (omega arith)))

-- the sequence was added to a part more
more_added : (old now piece sequence : List ℕ) (done : ℕ) → AddedTo old now done → done + length piece ≤ length now
    → length piece ≤ 120 → Runs sequence done →
    ((k : ℕ) → k < length piece → get_or piece k 0 ≡ bit_xor (get_or now (done + k) 0) (get_or sequence k 0))
    → AddedTo old (mid now done piece) (done + length piece)
more_added old now piece sequence done a inside short runs each =
    let within : done ≤ length now = omega arith in
    record {
      size = length-mid now piece done inside ∙ a.size;
      sums = λ j h. ⊎_elim (λ less. before_mid now piece done j within less ∙ a.sums j less)
          (λ more.
          let k : ℕ = j - done in
          let place : done + k ≡ j = omega arith in
          within_mid now piece done j within more h ∙ each k (omega arith)
          ∙ ap (λ (n : ℕ). bit_xor (get_or now (done + k) 0) n) (runs k (omega arith))
          ∙ ap (λ (n : ℕ). bit_xor (get_or now n 0) (prbs_byte n)) place
          ∙ ap (λ (n : ℕ). bit_xor n (prbs_byte j)) (a.rest j more))
          (cases_lt j done);
      rest = λ j h. behind_mid now piece done j within h ∙ a.rest j (omega arith);
    }

pub part_added : (old now piece sequence : List ℕ) (done count n : ℕ) → AddedTo old now done → done + count ≤ length now
    → count ≤ 120 → n ≡ count → length piece ≡ length (take n (drop done now)) →
    Runs sequence done
    → ((k : ℕ) → k < length (take n (drop done now)) → get_or piece k 0 ≡ bit_xor (get_or (take n (drop done now)) k 0)
    (get_or sequence k 0)) →
    AddedTo old (take done now ++ (piece ++ drop n (drop done now))) (done + count)
unfolding mid
part_added old now piece sequence done count n a inside short is size runs each =
    let part : length (take n (drop done now)) ≡ count = length-part now done n (omega arith) ∙ is in
    let long : length piece ≡ count = size ∙ part in
    let same : n ≡ length piece = omega arith in
    let sums : (k : ℕ) → k < length piece → get_or piece k 0 ≡ bit_xor (get_or now (done + k) 0) (get_or sequence k 0) =
    λ k h. each k (omega arith) ∙ ap (λ (x : ℕ). bit_xor x (get_or sequence k 0))
    (get_or-part now done n k 0 (omega arith)) in
    let all = more_added old now piece sequence done a (omega arith) (omega arith) runs sums in
    rw (same, ← long) all

pub all_added : (old new : List ℕ) (done : ℕ) → AddedTo old new done → done ≡ length old
    → bits_of new ≡ scrambled (bits_of old)
all_added old new done a is = all_scrambled old new a.size (λ j h. a.sums j (omega arith))
