-- How bits lie in bytes that have more room. No public clause cites this module.
use Rattle.std.specs.Prelude.{◌≡◌, ℕ, ◌-◌, ◌*◌, Bool, false, List, ◌++◌, length, take, replicate}
use Rattle.terms.specs.Bits.{bits_of, bytes_for}

-- bits filled up with zeros
abbrev pub padded : List Bool → ℕ → List Bool
padded bits n = bits ++ replicate (n - length bits) false

-- The bytes that the bits fill, at the front, hold the bits and then zeros. Of those behind them nothing is said.
abbrev pub Holds : List ℕ → List Bool → Type 0
Holds bytes bits = bits_of (take (bytes_for (length bits)) bytes) ≡ padded bits (8 * bytes_for (length bits))
