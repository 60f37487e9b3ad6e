-- Laws of where blocks stand: what came of a frame stands where it stood in it.
use Rattle.std.specs.Prelude.{◌≡◌, ℕ, ◌+◌, ◌%◌, ◌<◌, ◌≤◌, max, true, List, [], ◌∷◌, map, length, All}
use Rattle.frame_weave.specs.Marked.{MarkedBlock}
use Rattle.frame_weave.specs.Placed.{Placed, placed_from, blocks_at, block_at, are_alike}
use Rattle.frame_weave.specs.Places.{start_of}

-- a block, and the place where it stood
pub record Stood : Type 0 where
  pub block : MarkedBlock
  pub place : ℕ

-- It stood at a place of its PLP, from one on that is less than 256 places before it, and packet_count told its place.
pub record StoodBehind (counts : List ℕ) (origin first : ℕ) (s : Stood) : Type 0 where
  pub low : max first (start_of counts s.block.plp) ≤ s.place
  pub near : s.place < max first (start_of counts s.block.plp) + 256
  pub high : s.place < start_of counts (s.block.plp + 1)
  pub count : s.block.count ≡ (origin + s.place) % 256

-- So it is of each of some blocks, behind the one before it.
abbrev pub AllStood : List ℕ → ℕ → ℕ → List Stood → Type 0
AllStood counts origin first [] = Unit {0}
AllStood counts origin first (s ∷ more) = StoodBehind counts origin first s × AllStood counts origin (s.place + 1) more

-- They are placed where they stood.
abbrev pub StoodIsPlaced : Type 0
StoodIsPlaced = (counts : List ℕ) (origin first : ℕ) (came : List Stood) → AllStood counts origin first came
    → placed_from counts origin first (map (λ s. s.block) came)
    ≡ map (λ s. record { place = s.place; bytes = s.block.bytes }) came

-- If each block that is placed is the one of its place in a frame, all at a place are the same, and the first one is
-- that of the frame.
pub record IsOfFrame (bytes_of : ℕ → List ℕ) (placed : List Placed) (place : ℕ) : Type 0 where
  pub alike : are_alike (blocks_at placed place) ≡ true
  pub first : 0 < length (blocks_at placed place) → block_at placed place ≡ bytes_of place

abbrev pub PlacedIsOfFrame : Type 0
PlacedIsOfFrame = (bytes_of : ℕ → List ℕ) (placed : List Placed) (place : ℕ)
    → All (λ (p : Placed). p.bytes ≡ bytes_of p.place) placed
    → IsOfFrame bytes_of placed place
