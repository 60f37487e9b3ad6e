-- How blocks lie at their places. No public clause cites this module.
use Rattle.std.specs.Prelude.{◌≡◌, ℕ, ◌+◌, ◌<◌, ◌≤◌, true, false, ◌&&◌, bytes_eq, List, [], length, take, slice_index}
use Rattle.std.specs.Prelude.{slice_index_or}
use Rattle.linked_pool.specs.Pool.{State, list_at, chunks_of, chunks_for, appended, IsWhole}
use Rattle.plp_config.specs.Capacity.{block_bytes}
use Rattle.plp_config.specs.declared.config.Config.{Config}
use Rattle.frame_groups.specs.Tests.{pool_chunks}
use Rattle.frame_weave.specs.Placed.{Placed, blocks_at, are_alike}
use Rattle.frame_weave.specs.Places.{start_of, place_count, has_room}
use Rattle.frame_weave.specs.declared.layout.Layout.{Layout}
use Rattle.frame_weave.specs.declared.slots.Slots.{Slots}

-- The places are those of so many blocks of each PLP.
pub record IsLaid (c : Config) (counts : List ℕ) (layout : Layout) : Type 0 where
  pub starts : (plp : ℕ) → plp ≤ length c.plps → slice_index layout.starts.items plp ≡ start_of counts plp
  pub room : layout.is_room ≡ has_room c counts

-- At each place stands the first block that was placed there, and it is told whether all others are the same.
pub record HoldsPlaced (slots : Slots) (placed : List Placed) : Type 0 where
  pub first : (k : ℕ) → list_at slots.pool k ≡ take 1 (blocks_at placed k)
  pub same : slots.alike ≡ true → (k : ℕ) → are_alike (blocks_at placed k) ≡ true
  pub other : slots.alike ≡ false → (k : ℕ) × (are_alike (blocks_at placed k) ≡ false)

-- A place of a PLP has no more than one of its blocks, and no other place has one.
pub record AreSized (c : Config) (counts : List ℕ) (pool : State) : Type 0 where
  pub each : (plp : ℕ) → plp < length c.plps → (k : ℕ) → start_of counts plp ≤ k → k < start_of counts (plp + 1)
      → chunks_of (list_at pool k) ≤ chunks_for (block_bytes c plp)
  pub none : (k : ℕ) → place_count c counts ≤ k → list_at pool k ≡ []
  pub opened : pool.opened ≡ pool_chunks c
  pub lists : length pool.lists ≡ pool_chunks c

-- A block is put at a place: there is none yet, and it has room; or there is one, and it is told whether this is the
-- same.
pub record Puts (old new : Slots) (place : ℕ) (block : List ℕ) : Type 0 where
  pub whole : IsWhole old.pool
  pub first : list_at old.pool place ≡ [] → place < length old.pool.lists → chunks_for (length block) ≤ old.pool.spare
      → (new.pool ≡ appended old.pool place block) × (new.alike ≡ old.alike)
  pub other : 0 < length (list_at old.pool place) → (new.pool ≡ old.pool)
      × (new.alike ≡ (old.alike && bytes_eq (slice_index_or (list_at old.pool place) 0 []) block))

-- The blocks that were placed stand at their places.
pub record Fills (c : Config) (counts : List ℕ) (slots : Slots) (placed : List Placed) : Type 0 where
  pub sized : AreSized c counts slots.pool
  pub holds : HoldsPlaced slots placed
