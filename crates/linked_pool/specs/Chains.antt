-- How chunks are linked by index into chains. No public clause cites this module.
use Rattle.std.specs.Prelude.{◌≡◌, ℕ, zero, suc, ◌+◌, ◌-◌, ◌^◌, ◌<◌, ◌≤◌, List, [], ◌∷◌, ◌++◌, length, take, drop}
use Rattle.std.specs.Prelude.{get_or, set}
use Rattle.std.specs.Prelude.{nat_eq, replicate, if◌then◌else◌}

-- so many chunks, from the first on
abbrev pub walk : List ℕ → ℕ → ℕ → List ℕ
walk next zero first = []
walk next (suc n) first = first ∷ walk next n (get_or next first 0)

-- the chunk that many steps on
abbrev pub last_on : List ℕ → ℕ → ℕ → ℕ
last_on next zero first = first
last_on next (suc n) first = last_on next n (get_or next first 0)

-- the chains, by their first chunks and their sizes
abbrev pub chains_of : List ℕ → List ℕ → List ℕ → List (List ℕ)
chains_of next [] sizes = []
chains_of next (h ∷ heads) [] = []
chains_of next (h ∷ heads) (s ∷ sizes) = walk next s h ∷ chains_of next heads sizes

abbrev pub count : ℕ → List ℕ → ℕ
count x [] = 0
count x (y ∷ ys) = (if nat_eq x y then 1 else 0) + count x ys

-- how often a chunk is in the chains
abbrev pub occurs : ℕ → List (List ℕ) → ℕ
occurs x [] = 0
occurs x (c ∷ cs) = count x c + occurs x cs

abbrev pub total : List ℕ → ℕ
total [] = 0
total (n ∷ ns) = n + total ns

pub record IsSound (next heads tails sizes : List ℕ) : Type 0 where
  pub few : length next < 2 ^ 32
  pub heads_too : length heads ≡ length sizes
  pub tails_too : length tails ≡ length sizes
  pub all : total sizes ≡ length next
  pub apart : (x : ℕ) → occurs x (chains_of next heads sizes) ≤ 1
  pub within : (x : ℕ) → length next ≤ x → occurs x (chains_of next heads sizes) ≡ 0
  pub last : (i : ℕ) → i < length sizes → 0 < get_or sizes i 0 → get_or tails i 0 ≡ last_on next (get_or sizes i 0 - 1)
      (get_or heads i 0)

-- so many of a chain's first chunks moved to the end of another
abbrev pub moved : List (List ℕ) → ℕ → ℕ → ℕ → List (List ℕ)
moved chains from to n =
    set (set chains from (drop n (get_or chains from []))) to (get_or chains to [] ++ take n (get_or chains from []))

-- the chunks from a number on
abbrev pub rising : ℕ → ℕ → List ℕ
rising zero first = []
rising (suc n) first = first ∷ rising n (first + 1)

-- all chunks in the first chain, and so many empty ones
abbrev pub opened : ℕ → ℕ → List (List ℕ)
opened n lists = rising n 0 ∷ replicate lists []

-- the links after a move
pub record Moves (next heads sizes next' heads' tails' sizes' : List ℕ) (a b k : ℕ) : Type 0 where
  pub sound : IsSound next' heads' tails' sizes'
  pub chains : chains_of next' heads' sizes' ≡ moved (chains_of next heads sizes) a b k

-- the chain at a place
abbrev pub chain : List (List ℕ) → ℕ → List ℕ
chain cs i = get_or cs i []
