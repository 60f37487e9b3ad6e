-- Reading from left to right.
use Rattle.std.specs.Prelude.{◌≡◌, ℕ, zero, suc, ◌+◌, List, [], ◌∷◌, length, take, drop, slice_index, Option, Some}
use Rattle.std.specs.Prelude.{None, nat_lt}
use Rattle.std.specs.Prelude.{if◌then◌else◌}
use Rattle.byteorder.specs.Endian.{big_number}
use Rattle.site_frame.specs.Record.{Block, cell_of}
use Rattle.cell_map.specs.declared.places.Cell.{Cell}

infixl 10 ◌>>=◌
abbrev pub ◌>>=◌ : {A B : Type 0} → Option A → (A → Option B) → Option B
(Some x) >>= f = f x
None >>= f = None

-- What a function returned, seen by view, is what reading gives.
abbrev pub Gives : {X Y : Type 0} → (X → Y) → Option X → Option Y → Type 0
Gives view (Some x) read = read ≡ Some (view x)
Gives view None read = read ≡ None

-- so many bytes, and those after them
abbrev pub cut : ℕ → List ℕ → Option (List ℕ × List ℕ)
cut len bytes = if nat_lt (length bytes) len then None else Some (take len bytes, drop len bytes)

-- a number of so many bytes, and the bytes after it
abbrev pub number : ℕ → List ℕ → Option (ℕ × List ℕ)
number len bytes = if nat_lt (length bytes) len then None else Some (big_number len bytes, drop len bytes)

-- how many bytes the block at the front has
abbrev pub block_len : List ℕ → ℕ
block_len bytes = 4 + big_number 2 (drop 2 bytes)

-- behind a block
abbrev pub skip_block : List ℕ → Option (List ℕ)
skip_block bytes = if nat_lt (length bytes) (block_len bytes) then None else Some (drop (block_len bytes) bytes)

-- behind so many
abbrev pub skip_blocks : ℕ → List ℕ → Option (List ℕ)
skip_blocks zero bytes = Some bytes
skip_blocks (suc n) bytes = skip_block bytes >>= skip_blocks n

-- the block at the front
abbrev pub block_at : List ℕ → Block
block_at bytes = record { plp_id = slice_index bytes 0; bytes = take (big_number 2 (drop 2 bytes)) (drop 4 bytes) }

-- so many blocks from the front on
abbrev pub blocks_in : ℕ → List ℕ → List Block
blocks_in zero bytes = []
blocks_in (suc n) bytes = block_at bytes ∷ blocks_in n (drop (block_len bytes) bytes)

abbrev pub block_of : ℕ → List ℕ → Block
block_of plp_id bytes = record { plp_id = plp_id; bytes = bytes }

-- the cells that so many words spell
abbrev pub cells_in : ℕ → List ℕ → List (Option Cell)
cells_in zero bytes = []
cells_in (suc n) bytes = cell_of (big_number 4 bytes) ∷ cells_in n (drop 4 bytes)
