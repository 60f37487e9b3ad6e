-- When the blocks of an interleaving frame have their chunks in a pool.
use Rattle.std.specs.Prelude.{◌≡◌, ◌≢◌, ◌<◌, ◌≤◌, ℕ, List, length}
use Rattle.std.specs.List.{All}
use Rattle.linked_pool.specs.Pool.{State, list_at}
use Rattle.linked_pool.specs.Fits.{ListFits, frame_chunks}
use Rattle.plp_config.specs.declared.config.Config.{Config}
use Rattle.plp_config.specs.declared.plp.TheConstants.{MOST_BLOCK_BYTES}

-- A pool of as many chunks as a gateway's has a list for each PLP, that of one PLP at its place, and in each other list
-- no more than an interleaving frame.
pub record HasPlace (c : Config) (plp : ℕ) (pool : State) (list : ℕ) : Type 0 where
  pub enough : frame_chunks c ≤ pool.opened
  pub lists : length pool.lists ≡ length c.plps
  pub place : list ≡ plp
  pub others : (other : ℕ) → other < length c.plps → other ≢ plp → ListFits c other (list_at pool other)

-- No block is longer than one of a PLP can be.
abbrev pub AreShort : List (List ℕ) → Type 0
AreShort blocks = All (λ (block : List ℕ). length block ≤ MOST_BLOCK_BYTES) blocks
