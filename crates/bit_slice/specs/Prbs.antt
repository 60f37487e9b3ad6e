-- The sequence of the scrambler (EN 302 755, clause 5.2.4): x(i) = x(i - 14) + x(i - 15), modulo 2.
use Rattle.std.specs.Prelude.{◌≡◌, ℕ, zero, suc, ◌-◌, ◌*◌, Bool, true, false, not, List, [], ◌∷◌, ◌++◌, drop, map}
use Rattle.std.specs.Prelude.{nat_lt}
use Rattle.std.specs.Prelude.{slice_index_or, if◌then◌else◌}
use Rattle.std.specs.List.{range_with_len}
use Rattle.terms.specs.Bits.{number_of}
use Rattle.bit_slice.specs.declared.prbs.Prbs.{Prbs}

-- the sum of two bits modulo 2
abbrev pub plus : Bool → Bool → Bool
plus true b = not b
plus false b = b

-- x(-15) to x(-1), the loading sequence from its end on
abbrev pub loaded : List Bool
loaded = false ∷ false ∷ false ∷ false ∷ false ∷ false ∷ false ∷ true ∷ false ∷ true ∷ false ∷ true ∷ false
    ∷ false ∷ true ∷ []

-- the bit behind fifteen bits: the sum of the fourteenth and the fifteenth before it
abbrev pub next_bit : List Bool → Bool
next_bit bits = plus (slice_index_or bits 1 false) (slice_index_or bits 0 false)

-- x(i - 15) to x(i - 1)
unfoldable pub fifteen_before : ℕ → List Bool
fifteen_before zero = loaded
fifteen_before (suc i) = drop 1 (fifteen_before i) ++ next_bit (fifteen_before i) ∷ []

-- x(i)
abbrev pub prbs : ℕ → Bool
prbs i = next_bit (fifteen_before i)

-- the sequence with the loading sequence before it: bit n is x(n - 15)
abbrev pub sequence : ℕ → Bool
sequence n = if nat_lt n 15 then slice_index_or loaded n false else prbs (n - 15)

-- x(8 k) to x(8 k + 7) as a byte, the first one highest
abbrev pub prbs_byte : ℕ → ℕ
prbs_byte k = number_of (map prbs (range_with_len (8 * k) 8))

-- The generator has given so many bytes.
pub record PrbsStandsFor (generator : Prbs) (given : ℕ) : Type 0 where
  pub register : generator.register ≡ number_of (fifteen_before (8 * given))
