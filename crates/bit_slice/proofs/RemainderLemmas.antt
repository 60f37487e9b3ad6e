-- A polynomial has one remainder: long division gives it back from each quotient.
use Rattle.std.proofs.Common.{◌≡◌, ℕ, zero, suc, ◌+◌, ◌*◌, ◌/◌, ◌^◌, ◌<◌, ◌≤◌, ◌==◌, Bool, true, false, cond, List, []}
use Rattle.std.proofs.Common.{◌∷◌}
use Rattle.std.proofs.Common.{length, refl, ap, sym, ◌∙◌, arith, add-one, inl, inr}
use Rattle.std.specs.Prelude.{bit_xor}
use Rattle.std.specs.Int.{bit_at}
use lib.Bits.{xor_assoc, xor_zero_l}
use Rattle.std.proofs.lemmas.Bool.{cases_lt}
use Rattle.std.proofs.lemmas.Nat.{xor_lt, xor_comm, pow_pos, pow_below, shl_below, shl-shr, shr-shr, div_below, le-div}
use Rattle.std.proofs.lemmas.Nat.Bits.{bit_at_xor, bit_at_above}
use Rattle.std.proofs.Math.Nat.{pow-succ', pow-le-pow_right}
use Rattle.bit_slice.specs.Crc.{product, HasDegree, remainder}
use Rattle.bit_slice.specs.Laws.{RemainderIsUnique}
use Rattle.bit_slice.proofs.XorLemmas.{xor_twice}

product_lt : (d g : ℕ) → g < 2 ^ (d + 1) → (q : List Bool) → product q g < 2 ^ (length q + d)
product_lt d g small [] = pow_pos (0 + d)
product_lt d g small (b ∷ q) =
    let e : d + 1 + length q ≡ suc (length q) + d = omega arith in
    let here : g * 2 ^ length q < 2 ^ (suc (length q) + d) = rw e at (shl_below g (d + 1) (length q) small) in
    let less : length q + d < suc (length q) + d = omega arith in
    let wider = pow_below (length q + d) (suc (length q) + d) less in
    let rest : product q g < 2 ^ (suc (length q) + d) = let h = product_lt d g small q in omega arith in
    let none : 0 < 2 ^ (suc (length q) + d) = pow_pos (suc (length q) + d) in
    elim b as (λ v. bit_xor (cond v (g * 2 ^ length q) 0) (product q g) < 2 ^ (suc (length q) + d)) [
      | true ↦ xor_lt (suc (length q) + d) (g * 2 ^ length q) (product q g) here rest
      | false ↦
          xor_lt (suc (length q) + d) 0 (product q g) none rest
    ]

-- a product and a remainder have no term from a place on
sum_lt : (d g n : ℕ) (q : List Bool) (r : ℕ) → g < 2 ^ (d + 1) → r < 2 ^ d → length q ≤ n
    → bit_xor (product q g) r < 2 ^ (n + d)
sum_lt d g n q r small below few =
    let two : 0 < 2 = omega arith in
    let more : length q + d ≤ n + d = omega arith in
    let least : d ≤ n + d = omega arith in
    let a : product q g < 2 ^ (n + d) = let h = product_lt d g small q in let w = pow-le-pow_right two
    more in omega arith in
    let b : r < 2 ^ (n + d) = let w = pow-le-pow_right two least in omega arith in
    xor_lt (n + d) (product q g) r a b

-- if the term is not there, division goes on
goes_on : (p n d a : ℕ) → p < 2 ^ (n + d) → cond (bit_at p (n + d) == 1) a p ≡ p
goes_on p n d a small = let le : n + d ≤ n + d = omega arith in rw (bit_at_above p (n + d) (n + d) small le) refl

-- if it is there, the generator is taken away
takes_away : (g n d p : ℕ) → HasDegree g d → p < 2 ^ (n + d) →
    cond (bit_at (bit_xor (g * 2 ^ n) p) (n + d) == 1) (bit_xor (bit_xor (g * 2 ^ n) p) (g * 2 ^ n))
    (bit_xor (g * 2 ^ n) p) ≡ p
takes_away g n d p has small =
    let le : n + d ≤ n + d = omega arith in
    let pos = pow_pos d in
    let twice : 2 ^ (d + 1) ≡ 2 * 2 ^ d = rw add-one (pow-succ' 2 d) in
    let low : 1 ≤ g / 2 ^ d = le-div 1 g (2 ^ d) pos (omega (arith, has.0)) in
    let high : g / 2 ^ d < 2 = div_below g (2 ^ d) 2 pos (omega (arith, has.1, twice)) in
    let one : g / 2 ^ d ≡ 1 = omega arith in
    let shifted : g * 2 ^ n / 2 ^ (n + d) ≡ 1 = sym (shr-shr (g * 2 ^ n) n d) ∙ ap (λ (x : ℕ). x / 2 ^ d) (shl-shr g n)
    ∙ one in
    let top : bit_at (bit_xor (g * 2 ^ n) p) (n + d) ≡ 1 =
    rw (bit_at_xor (g * 2 ^ n) p (n + d), bit_at_above p (n + d) (n + d) small le, shifted) refl in
    rw top (xor_comm (bit_xor (g * 2 ^ n) p) (g * 2 ^ n) ∙ ap (bit_xor (g * 2 ^ n)) (xor_comm (g * 2 ^ n) p)
    ∙ xor_twice (g * 2 ^ n) p)

-- the first coefficient of a quotient, by division
first_divided : (d g : ℕ) → HasDegree g d → (b : Bool) (q : List Bool) (r n : ℕ) → r < 2 ^ d → n ≡ length q →
    cond (bit_at (bit_xor (product (b ∷ q) g) r) (n + d) == 1) (bit_xor (bit_xor (product (b ∷ q) g) r) (g * 2 ^ n))
    (bit_xor (product (b ∷ q) g) r)
    ≡ bit_xor (product q g) r
first_divided d g has true q r n below e =
    let few : length q ≤ n = omega arith in
    let p : bit_xor (bit_xor (g * 2 ^ length q) (product q g)) r ≡ bit_xor (g * 2 ^ n) (bit_xor (product q g) r) =
    rw e (xor_assoc (g * 2 ^ length q) (product q g) r) in
    rw p (takes_away g n d (bit_xor (product q g) r) has (sum_lt d g n q r has.1 below few))
first_divided d g has false q r n below e =
    let few : length q ≤ n = omega arith in
    let p : bit_xor (bit_xor 0 (product q g)) r ≡ bit_xor (product q g) r =
    ap (λ (x : ℕ). bit_xor x r) (xor_zero_l (product q g)) in
    rw p (goes_on (bit_xor (product q g) r) n d (bit_xor (bit_xor (product q g) r) (g * 2 ^ n))
    (sum_lt d g n q r has.1 below few))

-- Long division of a quotient's product and a remainder gives the remainder.
pub divided : (d g : ℕ) → HasDegree g d → (n : ℕ) (q : List Bool) (r : ℕ) → r < 2 ^ d → length q ≤ n
    → remainder d g n (bit_xor (product q g) r) ≡ r
divided d g has zero [] r below few = xor_zero_l r
divided d g has zero (b ∷ q) r below few = absurd (omega arith)
divided d g has (suc n) [] r below few =
    let none : 0 ≤ n = omega arith in
    ap (remainder d g n) (goes_on (bit_xor 0 r) n d (bit_xor (bit_xor 0 r) (g * 2 ^ n))
    (sum_lt d g n [] r has.1 below none))
    ∙ divided d g has n [] r below none
divided d g has (suc n) (b ∷ q) r below few =
    let p : ℕ = bit_xor (product (b ∷ q) g) r in
    elim (cases_lt (length q) n) [
      | inl lt ↦
          let fewer : suc (length q) ≤ n = omega arith in
          ap (remainder d g n) (goes_on p n d (bit_xor p (g * 2 ^ n)) (sum_lt d g n (b ∷ q) r has.1 below fewer))
          ∙ divided d g has n (b ∷ q) r below fewer
      | inr ge ↦
          let e : n ≡ length q = omega arith in
          let fewer : length q ≤ n = omega arith in
          ap (remainder d g n) (first_divided d g has b q r n below e) ∙ divided d g has n q r below fewer
    ]

pub remainder_is_unique : RemainderIsUnique
remainder_is_unique d p g r s has a b =
    let n : ℕ = length a.1.0 + length b.1.0 in
    let first : remainder d g n (bit_xor (product a.1.0 g) r) ≡ r = divided d g has n a.1.0 r a.0 (omega arith) in
    let second : remainder d g n (bit_xor (product b.1.0 g) s) ≡ s = divided d g has n b.1.0 s b.0 (omega arith) in
    sym first ∙ ap (remainder d g n) (sym a.1.1 ∙ b.1.1) ∙ second
