-- The time interleaver (EN 302 755, clause 6.5): the position of a cell among the cells of its PLP in its interleaving
-- frame.
use Rattle.std.specs.Prelude.{ℕ, zero, suc, ◌+◌, ◌-◌, ◌*◌, ◌/◌, ◌%◌, List, [], ◌∷◌, ◌++◌, replicate, if◌then◌else◌}
use Rattle.std.specs.Prelude.{nat_lt}
use Rattle.cell_map.specs.declared.interleaving.TiBlock.{TiBlock}

-- the sizes of the TI-blocks into which n blocks are split, length of them (the configured interleaver length):
-- TI-blocks of floor(n / length) blocks, then those of one block more
abbrev pub sizes_of : ℕ → ℕ → List ℕ
sizes_of n length = replicate (length - n % length) (n / length) ++ replicate (n % length) (n / length + 1)

-- the TI-block of a block, if TI-blocks of these sizes follow so many blocks
abbrev pub ti_block_in : List ℕ → ℕ → ℕ → TiBlock
ti_block_in [] first block = record { first = first; size = 0 }
ti_block_in (size ∷ sizes) first block =
    if nat_lt block (first + size) then record { first = first; size = size } else ti_block_in sizes
    (first + size) block

unfoldable pub ti_block_of : ℕ → ℕ → ℕ → TiBlock
ti_block_of n length block = ti_block_in (sizes_of n length) 0 block

-- the position in a TI-block that is known: its blocks are written column by column, five columns a block, and read row
-- by row
abbrev pub in_ti_block : ℕ → TiBlock → ℕ → ℕ → ℕ
in_ti_block cells ti_block block cell =
    ti_block.first * cells + cell % (cells / 5) * (5 * ti_block.size) + 5 * (block - ti_block.first) + cell
    / (cells / 5)

-- the position of a cell of a block, of n blocks of so many cells, by the number of TI-blocks, the configured
-- interleaver length;
-- length 0 leaves the order
abbrev pub position : ℕ → ℕ → ℕ → ℕ → ℕ → ℕ
position cells zero n block cell = block * cells + cell
position cells (suc length) n block cell = in_ti_block cells (ti_block_of n (suc length) block) block cell
