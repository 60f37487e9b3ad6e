-- Scrambling (EN 302 755, clause 5.2.4): the sequence is added to the bits of a frame, header included, from its start.
use Rattle.std.specs.Prelude.{ℕ, ◌+◌, List, Bool, [], ◌∷◌}
use Rattle.bit_slice.specs.Prbs.{plus, prbs}

-- bits with the sequence added from bit i of it on
abbrev pub added : ℕ → List Bool → List Bool
added i [] = []
added i (b ∷ bits) = plus b (prbs i) ∷ added (i + 1) bits

abbrev pub scrambled : List Bool → List Bool
scrambled bits = added 0 bits
