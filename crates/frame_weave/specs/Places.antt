-- The places of the blocks of a frame: PLP by PLP, as many of each as come with it.
use Rattle.std.specs.Prelude.{ℕ, ◌*◌, nat_le, Bool, List, length, sum_by, slice_index}
use Rattle.std.specs.List.{range_with_len}
use Rattle.linked_pool.specs.Pool.{chunks_for}
use Rattle.plp_config.specs.Capacity.{block_bytes}
use Rattle.plp_config.specs.Places.{places}
use Rattle.plp_config.specs.declared.config.Config.{Config}
use Rattle.frame_groups.specs.Tests.{pool_chunks}

-- those of a PLP begin behind those of the PLPs before it
abbrev pub start_of : List ℕ → ℕ → ℕ
start_of counts plp = sum_by (λ j. slice_index counts j) (range_with_len 0 plp)

-- how many there are
abbrev pub place_count : Config → List ℕ → ℕ
place_count c counts = start_of counts (length c.plps)

-- the chunks of a pool that the blocks of a PLP need, and whether all have room
abbrev pub plp_need : Config → List ℕ → ℕ → ℕ
plp_need c counts plp = slice_index counts plp * chunks_for (block_bytes c plp)

abbrev pub has_room : Config → List ℕ → Bool
has_room c counts = nat_le (sum_by (plp_need c counts) (places c)) (pool_chunks c)
