-- What is held of the blocks of a group.
use Rattle.std.specs.Prelude.{◌≡◌, ◌<◌, ◌≤◌, ℕ, Bool, List, length, map, slice_index}
use Rattle.linked_pool.specs.Pool.{State, list_at}
use Rattle.plp_config.specs.declared.config.Config.{Config}
use Rattle.t2mi_packet.specs.declared.packet.Packet.{Packet}
use Rattle.frame_groups.specs.Carried.{right_blocks}
use Rattle.frame_groups.specs.Tally.{Tally, tally_need}
use Rattle.frame_groups.specs.Tests.{capped}
use Rattle.open_group.specs.Sent.{held_bytes}
use Rattle.open_group.specs.declared.blocks.HeldBlocks.{HeldBlocks}

-- all that is held
pub record Held : Type 0 where
  pub pool : State
  pub counts : List ℕ
  pub rights : List ℕ
  pub chunks : ℕ
  pub need : ℕ
  pub known : Bool

abbrev pub held_of : HeldBlocks → Held
held_of h = record {
  pool = h.pool;
  counts = h.counts.items;
  rights = h.rights.items;
  chunks = h.chunks;
  need = h.need;
  known = h.known;
}

-- The numbers are those of a tally.
pub record HoldsCounts (c : Config) (held : HeldBlocks) (t : Tally) : Type 0 where
  pub counts : (plp : ℕ) → plp < length c.plps → slice_index held.counts.items plp ≡ capped (slice_index t.blocks plp)
  pub rights : (plp : ℕ) → plp < length c.plps → slice_index held.rights.items plp ≡ capped (slice_index t.right plp)
  pub need : held.need ≡ capped (tally_need c t)
  pub known : held.known ≡ t.known

-- If the right blocks have room, the lists of the pool are they.
abbrev pub HoldsLists : Config → HeldBlocks → List Packet → Type 0
HoldsLists c held packets = held.need ≤ held.chunks → (plp : ℕ) → plp < length c.plps → list_at held.pool plp
    ≡ map held_bytes (right_blocks c plp packets)

-- There is a list and two numbers for each PLP of so many.
pub record IsOpenFor (held : HeldBlocks) (plps : ℕ) : Type 0 where
  pub lists : length held.pool.lists ≡ plps
  pub counts : length held.counts.items ≡ plps
  pub rights : length held.rights.items ≡ plps
