-- What the packets of a region and their blocks stand for. No public clause cites this module.
use Rattle.std.specs.Prelude.{◌≡◌, ◌≢◌, ◌<◌, ◌≤◌, ℕ, Bool, false, List, [], length, if◌then◌else◌}
use Rattle.plp_config.specs.InterleavingFrames.{is_first}
use Rattle.plp_config.specs.Plps.{plp_at}
use Rattle.plp_config.specs.declared.config.Config.{Config}
use Rattle.linked_pool.specs.Fits.{frame_chunks}
use Rattle.linked_pool.specs.Pool.{State, list_at}
use Rattle.mode_adapt.specs.Blocks.{own_blocks, told_count}
use Rattle.gateway_core.specs.InputSoFar.{Told, in_next, Continues}
use Rattle.gateway_core.specs.Lists.{bits_in, AllShort}
use Rattle.gateway_core.specs.IsFed.{IsFed, most}
use Rattle.gateway_core.specs.declared.input.Input.{Input}
use Rattle.region_swap.specs.declared.region.Region.{Region}

-- the blocks that the chain put already of a later interleaving frame: none while the list holds those of the frame
-- before
abbrev pub early_in : Bool → State → ℕ → List (List Bool)
early_in sends pool plp = if sends then [] else bits_in pool plp

-- the blocks that are sent in the frame before
abbrev pub sent_in : Bool → State → ℕ → List (List Bool)
sent_in sends pool plp = if sends then bits_in pool plp else []

-- Its input was told this; the count of the interleaving frame that goes on in the next frame stands.
pub record Supplies (i : Input) (pool : State) (sends : Bool) (next count : ℕ) (c : Config) (plp : ℕ)
    (t : Told) : Type 0 where
  pub fed : IsFed i c plp t (early_in sends pool plp)
  pub next_is : next ≡ t.frame
  pub stays : (input : List (List ℕ)) → Continues t input → is_first c plp t.frame ≡ false
      → count ≡ told_count c (λ _. input) t.frame plp

abbrev pub RegionStandsFor : Region → Config → ℕ → Told → Type 0
RegionStandsFor r c plp t = Supplies r.input r.blocks r.sends r.next r.count c plp t

-- what a region was told: once the frame under way was begun, it has gone on to the next one
abbrev pub region_told : Bool → Told → Told
region_told begun t = if begun then in_next t else t

-- There is something that it was told.
pub record HasTold (i : Input) (pool : State) (sends : Bool) (next count : ℕ) (c : Config) (plp : ℕ) : Type 0 where
  pub told : Told
  pub stands : Supplies i pool sends next count c plp told

-- It is one for the PLP at a place of a network: its pool has place for a frame, and no other list a block.
pub record Serves (i : Input) (pool : State) (sends : Bool) (next count : ℕ) (c : Config) (plp : ℕ) : Type 0 where
  pub place : plp < length c.plps
  pub lists : length pool.lists ≡ length c.plps
  pub chunks : pool.opened ≡ frame_chunks c
  pub alone : (other : ℕ) → other ≢ plp → list_at pool other ≡ []
  pub short : AllShort pool
  pub most_is : most i ≡ (plp_at c.plps plp).blocks
  pub few : count ≤ (plp_at c.plps plp).blocks
  pub told : ∥ HasTold i pool sends next count c plp ∥₁

abbrev pub IsRegionOf : Region → Config → ℕ → Type 0
IsRegionOf r c plp = Serves r.input r.blocks r.sends r.next r.count c plp

-- The frame before is frame n of whatever input continues: its blocks and its count.
pub record Gives (pool : State) (sends : Bool) (count : ℕ) (c : Config) (plp n : ℕ) (input : List (List ℕ)) :
    Type 0 where
  pub blocks : sent_in sends pool plp ≡ own_blocks c (λ _. input) n plp
  pub count_is : count ≡ told_count c (λ _. input) n plp

abbrev pub GivesFrame : Region → Config → ℕ → ℕ → List (List ℕ) → Type 0
GivesFrame r c plp n input = Gives r.blocks r.sends r.count c plp n input

-- What it has for the frame before: its blocks, its count, and the frame behind it.
pub record Kept : Type 0 where
  pub blocks : State
  pub sends : Bool
  pub next : ℕ
  pub count : ℕ

abbrev pub kept_of : Region → Kept
kept_of r = record { blocks = r.blocks; sends = r.sends; next = r.next; count = r.count }
