-- Laws of pools, for the crates above.
use Rattle.std.specs.Prelude.{◌≡◌, ℕ, ◌*◌, ◌/◌, ◌<◌, ◌≤◌, List, length}
use Rattle.plp_config.specs.Capacity.{IsPlan}
use Rattle.plp_config.specs.Places.{FramesStandAlone}
use Rattle.plp_config.specs.Rules.{AllRules}
use Rattle.plp_config.specs.declared.config.Config.{Config}
use Rattle.linked_pool.specs.Pool.{State, chunks_for, used_chunks, appended, IsWhole}
use Rattle.linked_pool.specs.Fits.{ListsFit, frame_chunks, group_chunks}
use Rattle.linked_pool.specs.declared.chunk.TheConstants.{CHUNKS_OF_CELLS, FEWEST_CELLS}

-- The blocks of such lists fill no more chunks than a gateway's pool has.
abbrev pub PlanFits : Type 0
PlanFits = (c : Config) (lists : List (List (List ℕ))) → IsPlan c → ListsFit c lists
    → used_chunks lists ≤ frame_chunks c

-- So a pool of as many has room for a block with which its lists are still such lists.
abbrev pub NextFits : Type 0
NextFits = (c : Config) (pool : State) (list : ℕ) (block : List ℕ) → IsPlan c → IsWhole pool
    → frame_chunks c ≤ pool.opened
    → list < length pool.lists → ListsFit c (appended pool list block).lists → chunks_for (length block) ≤ pool.spare

-- If each interleaving frame is carried by one frame, the chunks are those of the cells of a frame.
abbrev pub PoolAlone : Type 0
PoolAlone = (c : Config) → AllRules c → FramesStandAlone c
    → (frame_chunks c ≡ CHUNKS_OF_CELLS * (c.cells / FEWEST_CELLS))
    × (group_chunks c ≡ CHUNKS_OF_CELLS * c.cells / FEWEST_CELLS)
