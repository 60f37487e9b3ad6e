-- Where the blocks of a group stand in its frame (ETSI TS 102 773, clause 5.1): packet_count tells it modulo 256.
use Rattle.std.specs.Prelude.{ℕ, ◌+◌, ◌*◌, ◌%◌, ◌==◌, ◌&&◌, max, nat_lt, Bool, true, bytes_eq, List, length, [], ◌∷◌}
use Rattle.std.specs.Prelude.{◌++◌, map, filter, slice_index_or, if◌then◌else◌}
use Rattle.std.specs.List.{list_all}
use Rattle.frame_weave.specs.Marked.{MarkedBlock}
use Rattle.frame_weave.specs.Places.{start_of}

-- a block at a place
pub record Placed : Type 0 where
  pub place : ℕ
  pub bytes : List ℕ

-- the least place from one on that packet_count tells, if it is told what that of place 0 is
abbrev pub next_place : ℕ → ℕ → ℕ → ℕ
next_place origin count first = first + (count + 255 * (origin + first)) % 256

-- that of a block: one of its PLP
abbrev pub place_of : List ℕ → ℕ → ℕ → MarkedBlock → ℕ
place_of counts origin first b = next_place origin b.count (max first (start_of counts b.plp))

abbrev pub has_place : List ℕ → ℕ → ℕ → MarkedBlock → Bool
has_place counts origin first b = nat_lt (place_of counts origin first b) (start_of counts (b.plp + 1))

-- a block that has one stands there, and those behind it stand behind it; one that has none is passed over
abbrev pub one_placed : List ℕ → ℕ → ℕ → MarkedBlock → List Placed
one_placed counts origin first b =
    if has_place counts origin first b then record { place = place_of counts origin first b; bytes = b.bytes }
    ∷ [] else []

abbrev pub first_behind : List ℕ → ℕ → ℕ → MarkedBlock → ℕ
first_behind counts origin first b =
    if has_place counts origin first b then place_of counts origin first b + 1 else first

abbrev pub placed_from : List ℕ → ℕ → ℕ → List MarkedBlock → List Placed
placed_from counts origin first [] = []
placed_from counts origin first (b ∷ blocks) =
    one_placed counts origin first b ++ placed_from counts origin (first_behind counts origin first b) blocks

-- the blocks that stand at a place, and the first of them
abbrev pub stands_at : ℕ → Placed → Bool
stands_at place p = p.place == place

abbrev pub blocks_at : List Placed → ℕ → List (List ℕ)
blocks_at placed place = map (λ p. p.bytes) (filter (stands_at place) placed)

abbrev pub block_at : List Placed → ℕ → List ℕ
block_at placed place = slice_index_or (blocks_at placed place) 0 []

-- all blocks are the same
abbrev pub are_alike : List (List ℕ) → Bool
are_alike [] = true
are_alike (b ∷ more) = list_all (bytes_eq b) more

-- and there is one
abbrev pub is_one : List (List ℕ) → Bool
is_one blocks = nat_lt 0 (length blocks) && are_alike blocks
