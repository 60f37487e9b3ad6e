-- Whether a shape has a cell map, by going over its cells in each frame of a superframe (EN 302 755, clauses 6.5 and
-- 8).
use Rattle.std.specs.Prelude.{ℕ, ◌==◌, ◌&&◌, ◌||◌, not, nat_lt, nat_le, Bool, length, slice_index}
use Rattle.std.specs.List.{list_all, range_with_len}
use Rattle.plp_config.specs.Plps.{plp_at}
use Rattle.plp_config.specs.declared.config.Config.{Config}
use Rattle.scheduler.specs.Shape.{FrameShape}
use Rattle.cell_map.specs.Address.{address_of}
use Rattle.cell_map.specs.CellMap.{carried_cells}

-- each number below one passes a test
abbrev pub each_below : ℕ → (ℕ → Bool) → Bool
each_below n test = list_all test (range_with_len 0 n)

-- each cell that a frame carries passes a test; the frame is told by its number in its superframe
abbrev pub each_cell : Config → FrameShape → ℕ → (ℕ → ℕ → ℕ → Bool) → Bool
each_cell c shape frame_idx test =
    each_below (length c.plps)
    (λ plp. each_below (slice_index shape.counts plp)
    (λ block. list_all (test plp block) (carried_cells c shape frame_idx plp block)))

-- a cell has an address in the frame
abbrev pub is_within : Config → FrameShape → ℕ → ℕ → ℕ → ℕ → Bool
is_within c shape frame_idx plp block cell = nat_lt (address_of c shape frame_idx plp block cell) c.cells

-- two cells have two addresses, or are one
abbrev pub are_apart : Config → FrameShape → ℕ → ℕ → ℕ → ℕ → ℕ → ℕ → ℕ → Bool
are_apart c shape frame_idx i b q j d r =
    not (address_of c shape frame_idx i b q == address_of c shape frame_idx j d r) || ((i == j) && (b == d) && (q == r))

abbrev pub all_apart : Config → FrameShape → ℕ → Bool
all_apart c shape frame_idx =
    each_cell c shape frame_idx (λ i b q. each_cell c shape frame_idx (are_apart c shape frame_idx i b q))

-- no PLP has more blocks than it may
abbrev pub counts_within : Config → FrameShape → Bool
counts_within c shape = each_below (length c.plps) (λ plp. nat_le (slice_index shape.counts plp)
    (plp_at c.plps plp).blocks)

-- each address is one of the frame, and no two cells share one
abbrev pub frame_passes : Config → FrameShape → ℕ → Bool
frame_passes c shape frame_idx = each_cell c shape frame_idx (is_within c shape frame_idx)
    && all_apart c shape frame_idx

-- and so it is in each frame of a superframe
unfoldable pub map_passes : Config → FrameShape → Bool
map_passes c shape = counts_within c shape && each_below c.frames (frame_passes c shape)
