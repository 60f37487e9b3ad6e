-- Lists that hold no more than the interleaving frames under way, and the chunks of the pools that have them.
use Rattle.std.specs.Prelude.{◌≡◌, ◌<◌, ◌≤◌, ℕ, ◌*◌, ◌/◌, List, [], length, slice_index_or, All}
use Rattle.plp_config.specs.Capacity.{block_bytes}
use Rattle.plp_config.specs.Plps.{plp_at, spread_max}
use Rattle.plp_config.specs.declared.config.Config.{Config}
use Rattle.linked_pool.specs.declared.chunk.TheConstants.{CHUNKS_OF_CELLS, FEWEST_CELLS}

-- A list has no more blocks than an interleaving frame of the PLP at a place, none longer than a block of it.
pub record ListFits (c : Config) (plp : ℕ) (blocks : List (List ℕ)) : Type 0 where
  pub few : length blocks ≤ (plp_at c.plps plp).blocks
  pub short : All (λ (block : List ℕ). length block ≤ block_bytes c plp) blocks

-- There is a list for each PLP, and each is such a list.
pub record ListsFit (c : Config) (lists : List (List (List ℕ))) : Type 0 where
  pub count : length lists ≡ length c.plps
  pub each : (plp : ℕ) → plp < length c.plps → ListFits c plp (slice_index_or lists plp [])

-- the cells of as many frames as the greatest spread, which the blocks of all interleaving frames under way fill at
-- most
abbrev pub spread_cells : Config → ℕ
spread_cells c = spread_max c.plps * c.cells

-- The two pools differ in what is rounded down. A gateway's lists hold blocks of whole cells, so 7 chunks for each full
-- 2,025 cells, the fewest that a block has, are enough (`PlanFits`). A modulator's are those that test a of a group
-- asks for, which rounds the chunks and not the cells: the same, or up to 6 more.
abbrev pub frame_chunks : Config → ℕ
frame_chunks c = CHUNKS_OF_CELLS * (spread_cells c / FEWEST_CELLS)

abbrev pub group_chunks : Config → ℕ
group_chunks c = CHUNKS_OF_CELLS * spread_cells c / FEWEST_CELLS
