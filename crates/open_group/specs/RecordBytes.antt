-- The bytes of the blocks of a frame's record.
use Rattle.std.specs.Prelude.{ℕ, ◌+◌, ◌≤◌, List, [], ◌∷◌, ◌++◌, length, map, slice_index, slice_index_or, if◌then◌else◌}
use Rattle.std.specs.List.{flat_map}
use Rattle.terms.specs.Bits.{bits_of, bytes_of}
use Rattle.bb_frame.specs.Scrambled.{scrambled}
use Rattle.plp_config.specs.Plps.{plp_at}
use Rattle.plp_config.specs.declared.config.Config.{Config}
use Rattle.plp_config.specs.declared.plp.TheConstants.{MOST_BLOCK_BYTES}
use Rattle.plp_config.specs.InterleavingFrames.{is_first}
use Rattle.scheduler.specs.Shape.{FrameShape}
use Rattle.site_frame.specs.Record.{Block, block_bytes}

-- the most bytes of a piece
abbrev pub piece_len : ℕ
piece_len = 8192

-- bytes of a block as they are sent: scrambled (EN 302 755, clause 5.2.4)
abbrev pub scrambled_bytes : List ℕ → List ℕ
scrambled_bytes bytes = bytes_of (scrambled (bits_of bytes))

-- a block of a PLP, as a record has it, and its bytes
abbrev pub plp_block : Config → ℕ → List ℕ → Block
plp_block c plp bytes = record { plp_id = (plp_at c.plps plp).id; bytes = scrambled_bytes bytes }

abbrev pub sent_bytes : Config → ℕ → List ℕ → List ℕ
sent_bytes c plp bytes = block_bytes (plp_block c plp bytes) 0

-- how many blocks of a PLP stand in the record of frame n: as many as its shape tells if an interleaving frame begins
-- there, and else none
abbrev pub own_count : Config → ℕ → FrameShape → ℕ → ℕ
own_count c n shape plp = if is_first c plp n then slice_index shape.counts plp else 0

-- the blocks of lists, one for each PLP from one on, and their bytes
abbrev pub list_blocks : Config → ℕ → List (List (List ℕ)) → List Block
list_blocks c plp [] = []
list_blocks c plp (blocks ∷ lists) = map (plp_block c plp) blocks ++ list_blocks c (plp + 1) lists

abbrev pub lists_bytes : Config → ℕ → List (List (List ℕ)) → List ℕ
lists_bytes c plp [] = []
lists_bytes c plp (blocks ∷ lists) = flat_map (sent_bytes c plp) blocks ++ lists_bytes c (plp + 1) lists

-- the first block of a list
abbrev pub list_at : List (List (List ℕ)) → ℕ → List (List ℕ)
list_at lists list = slice_index_or lists list []

abbrev pub front_of : List (List (List ℕ)) → ℕ → List ℕ
front_of lists list = slice_index_or (list_at lists list) 0 []

-- No block is longer than the longest baseband frame.
abbrev pub AreShort : List (List (List ℕ)) → Type 0
AreShort lists = (list place : ℕ) → length (slice_index_or (list_at lists list) place []) ≤ MOST_BLOCK_BYTES
