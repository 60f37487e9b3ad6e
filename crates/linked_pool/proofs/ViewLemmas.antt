-- What the chains' lengths say of the vectors.
use Rattle.std.proofs.Common.{◌≡◌, ℕ, zero, suc, ◌+◌, ◌-◌, ◌<◌, ◌≤◌, List, [], length, get_or, refl}
use Rattle.std.proofs.Common.{arith}
use Rattle.linked_pool.specs.Chains.{chains_of, walk, last_on}
use Rattle.linked_pool.proofs.WalkLemmas.{length-chains_of, get_or-chains_of, length-walk, last_on_more}

pub inside : (view : List (List ℕ)) (next heads sizes sizes' : List ℕ) (i : ℕ) → view ≡ chains_of next heads sizes
    → length heads ≡ length sizes → sizes' ≡ sizes → i < length view → i < length sizes'
inside view next heads sizes sizes' i e h s lt = grind (arith, length-chains_of)

pub enough : (view : List (List ℕ)) (next heads sizes sizes' : List ℕ) (i k : ℕ) → view ≡ chains_of next heads sizes
    → length heads ≡ length sizes → sizes' ≡ sizes → i < length view → k ≤ length (get_or view i [])
    → k ≤ get_or sizes' i 0
enough view next heads sizes sizes' i k e h s lt le = grind (arith, inside, get_or-chains_of, length-walk)

-- the chunk at a place of a walk
pub get_or-walk : (next : List ℕ) (n i first : ℕ) → i < n → get_or (walk next n first) i 0 ≡ last_on next i first
get_or-walk next zero i first h = absurd (omega arith)
get_or-walk next (suc n) zero first h = refl
get_or-walk next (suc n) (suc i) first h = get_or-walk next n i (get_or next first 0) (omega arith)

pub size_is : (view : List (List ℕ)) (next heads sizes : List ℕ) (i : ℕ) → view ≡ chains_of next heads sizes
    → length heads ≡ length sizes → i < length view → get_or sizes i 0 ≡ length (get_or view i [])
size_is view next heads sizes i e h lt = grind (arith, inside, get_or-chains_of, length-walk)

pub first_is : (view : List (List ℕ)) (next heads sizes : List ℕ) (i : ℕ) → view ≡ chains_of next heads sizes
    → length heads ≡ length sizes → i < length view → 0 < length (get_or view i [])
    → get_or heads i 0 ≡ get_or (get_or view i []) 0 0
first_is view next heads sizes i e h lt some = grind (arith, inside, size_is, get_or-chains_of, get_or-walk)

pub inside_heads : (view : List (List ℕ)) (next heads sizes heads' : List ℕ) (i : ℕ) → view ≡ chains_of next heads sizes
    → length heads ≡ length sizes → heads' ≡ heads → i < length view → i < length heads'
inside_heads view next heads sizes heads' i e h s lt = let b = inside view next heads sizes sizes i e
    h refl lt in rw (s, h) b

pub after_is : (view : List (List ℕ)) (next heads sizes : List ℕ) (chunk : ℕ) → view ≡ chains_of next heads sizes
    → length heads ≡ length sizes →
    (i k : ℕ) → i < length view → k + 1 < length (get_or view i []) → get_or (get_or view i []) k 0 ≡ chunk
    → get_or next chunk 0
    ≡ get_or (get_or view i []) (k + 1) 0
after_is view next heads sizes chunk e h i k lt some here =
    grind (arith, inside, size_is, get_or-chains_of, get_or-walk, last_on_more)

pub last_is : (view : List (List ℕ)) (next heads tails sizes : List ℕ) (i : ℕ) → view ≡ chains_of next heads sizes
    → length heads ≡ length sizes
    → (0 < get_or sizes i 0 → get_or tails i 0 ≡ last_on next (get_or sizes i 0 - 1) (get_or heads i 0))
    → i < length view
    → 0 < length (get_or view i [])
    → get_or tails i 0 ≡ get_or (get_or view i []) (length (get_or view i []) - 1) 0
last_is view next heads tails sizes i e h last lt some =
    grind (arith, inside, size_is, get_or-chains_of, get_or-walk)
