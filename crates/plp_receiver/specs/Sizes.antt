-- The sizes of the blocks that come with a frame, from a PLP on. No public clause cites this module.
use Rattle.std.specs.Prelude.{ℕ, List, replicate, slice_index}
use Rattle.std.specs.List.{flat_map, range_with_len}
use Rattle.plp_config.specs.Capacity.{block_bytes}
use Rattle.plp_config.specs.Plps.{plp_at}
use Rattle.plp_config.specs.declared.config.Config.{Config}
use Rattle.frame_groups.specs.Readable.{BlockSize}

abbrev pub size_of : ℕ → ℕ → BlockSize
size_of id len = record { plp_id = id; len = len }

abbrev pub plp_sizes : Config → List ℕ → ℕ → List BlockSize
plp_sizes c counts plp = replicate (slice_index counts plp) (size_of (plp_at c.plps plp).id (block_bytes c plp))

-- those of so many PLPs
abbrev pub sizes_from : Config → List ℕ → ℕ → ℕ → List BlockSize
sizes_from c counts plp count = flat_map (plp_sizes c counts) (range_with_len plp count)
