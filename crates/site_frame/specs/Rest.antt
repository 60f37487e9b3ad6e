-- The rest of a frame's record: how it is spelled, and how it is read from left to right.
use Rattle.std.specs.Prelude.{◌≡◌, ℕ, ◌+◌, ◌*◌, ◌%◌, ◌<◌, ◌^◌, Bool, List, [], ◌∷◌, ◌++◌, length, take, Option, Some}
use Rattle.std.specs.Prelude.{None, ◌==◌}
use Rattle.std.specs.Prelude.{if◌then◌else◌}
use Rattle.std.specs.List.{concat, flat_map, AllByRecursion}
use Rattle.byteorder.specs.Endian.{big_bytes}
use Rattle.cell_map.specs.declared.places.Cell.{Cell}
use Rattle.terms.specs.Bits.{bits_of, bytes_of, bytes_for}
use Rattle.site_frame.specs.Record.{pre_len, FitsBlock, FitsCell, blocks_bytes, cell_bytes}
use Rattle.site_frame.specs.Reading.{◌>>=◌, cut, number, skip_blocks, blocks_in, cells_in}
use Rattle.site_frame.specs.declared.parts.FrameParts.{FrameParts}

-- the sections: L1-pre with its CRC_32; the number of bits of L1-post, and L1-post; the number of blocks, and the
-- blocks; the number of cells, and the cell words. What fills up L1-post, and the second byte of each block, are
-- whatever they are
abbrev pub rest_sections : FrameParts → List Bool → List ℕ → List (List ℕ)
rest_sections p pad ignored =
    bytes_of p.pre
    ∷ (big_bytes 4 (length p.post) ++ bytes_of (p.post ++ pad))
    ∷ (big_bytes 2 (length p.blocks) ++ blocks_bytes p.blocks ignored)
    ∷ (big_bytes 4 (length p.cells) ++ flat_map cell_bytes p.cells)
    ∷ []

abbrev pub rest_bytes : FrameParts → List Bool → List ℕ → List ℕ
rest_bytes p pad ignored = concat (rest_sections p pad ignored)

-- Each section fits its numbers.
pub record FitsFrame (p : FrameParts) : Type 0 where
  pub pre : length p.pre ≡ 8 * pre_len
  pub post : length p.post < 2 ^ 32
  pub blocks : length p.blocks < 2 ^ 16
  pub block : AllByRecursion FitsBlock p.blocks
  pub cells : length p.cells < 2 ^ 32
  pub cell : AllByRecursion FitsCell p.cells

-- The parts are spelled so.
pub record IsRest (p : FrameParts) (rest : List ℕ) : Type 0 where
  pub fits : FitsFrame p
  pub pad : List Bool
  pub ignored : List ℕ
  pub short : length pad < 8
  pub whole : (length p.post + length pad) % 8 ≡ 0
  pub spelled : rest ≡ rest_bytes p pad ignored

-- the cells, if their words are all that is left
abbrev pub all_cells : ℕ → List ℕ → Option (List (Option Cell))
all_cells count bytes = if length bytes == 4 * count then Some (cells_in count bytes) else None

-- the parts that fill a rest
unfoldable pub parts_in : List ℕ → Option FrameParts
parts_in rest = do
  pre ← cut pre_len rest
  bits ← number 4 pre.1
  post ← cut (bytes_for bits.0) bits.1
  count ← number 2 post.1
  behind ← skip_blocks count.0 count.1
  words ← number 4 behind
  cells ← all_cells words.0 words.1
  Some (record {
    pre = bits_of pre.0;
    post = take bits.0 (bits_of post.0);
    blocks = blocks_in count.0
        count.1;
    cells = cells;
  })
