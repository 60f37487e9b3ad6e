-- What the calls of a chain do, each as one relation between the chain and its list before and after.
use Rattle.std.specs.Prelude.{◌≡◌, ◌<◌, ℕ, List, [], ◌∷◌, ◌++◌, length, map}
use Rattle.terms.specs.Bits.{bits_of}
use Rattle.linked_pool.specs.Pool.{State, list_at, chunks_for}
use Rattle.plp_config.specs.Capacity.{block_bytes, field_bytes, up_bytes}
use Rattle.plp_config.specs.SlotTime.{epoch_ticks}
use Rattle.plp_config.specs.declared.config.Config.{Config}
use Rattle.null_delete.specs.Deletion.{packet_at}
use Rattle.mode_adapt.specs.Blocks.{blocks_of}
use Rattle.mode_adapt.specs.Events.{Event, Offered, Cut, HasRoom, IsDue, offered, cuts}
use Rattle.mode_adapt.specs.Place.{HasPlace}
use Rattle.mode_adapt.specs.StandsFor.{ChainStandsFor, early_blocks, kept_of}
use Rattle.mode_adapt.specs.declared.chain.Chain.{Chain}

-- After the packet of the next slot: the list has the blocks that are full with it, and less than a data field waits.
pub record HasTaken (chain : Chain) (packet : List ℕ) (was is : List (List ℕ)) (c : Config) (plp : ℕ)
    (events : List Event) : Type 0 where
  pub stands : ChainStandsFor chain c plp (events ++ Offered packet ∷ [])
  pub blocks : map bits_of was ≡ early_blocks c plp events → map bits_of is ≡ early_blocks c plp
      (events ++ Offered packet ∷ [])
  pub kept : kept_of chain < field_bytes c plp

abbrev pub Takes : Chain → Chain → List ℕ → State → State → ℕ → Type 0
Takes old new packet was is list = (c : Config) (plp : ℕ) (events : List Event) → ChainStandsFor old c plp events
    → HasRoom c plp events → HasTaken new packet (list_at was list) (list_at is list) c plp events

-- After the end of an interleaving frame: the list has its blocks, so many, those of the next come into an empty one,
-- and less than one user packet waits.
pub record HasEnded (chain : Chain) (count : ℕ) (was is : List (List ℕ)) (c : Config) (plp : ℕ)
    (events : List Event) : Type 0 where
  pub stands : ChainStandsFor chain c plp (events ++ Cut ∷ [])
  pub blocks : map bits_of was ≡ early_blocks c plp events
      → map bits_of is ≡ blocks_of c plp (epoch_ticks c plp) (packet_at (offered events)) (cuts events)
  pub answer : count ≡ length (blocks_of c plp (epoch_ticks c plp) (packet_at (offered events)) (cuts events))
  pub none_put : early_blocks c plp (events ++ Cut ∷ []) ≡ []
  pub kept : kept_of chain < up_bytes c plp

abbrev pub Ends : Chain → Chain → State → State → ℕ → ℕ → Type 0
Ends old new was is list count = (c : Config) (plp : ℕ) (events : List Event) → ChainStandsFor old c plp events
    → IsDue c plp events → HasEnded new count (list_at was list) (list_at is list) c plp events

-- The list has the blocks that the chain put, and its pool place for the next.
pub record IsReady (chain : Chain) (pool : State) (list : ℕ) (c : Config) (plp : ℕ) (events : List Event) : Type 0 where
  pub stands : ChainStandsFor chain c plp events
  pub put : map bits_of (list_at pool list) ≡ early_blocks c plp events
  pub place : HasPlace c plp pool list

-- A block of the PLP was to be put, which fills so many chunks, and the pool was not ready for it.
pub record LacksFor (chain : Chain) (pool : State) (list chunks : ℕ) (c : Config) (plp : ℕ) (events : List Event) :
    Type 0 where
  pub need : chunks ≡ chunks_for (block_bytes c plp)
  pub never : ¬ (IsReady chain pool list c plp events)

abbrev pub LacksPlace : Chain → State → ℕ → ℕ → Type 0
LacksPlace chain pool list chunks = (c : Config) (plp : ℕ) (events : List Event) → ChainStandsFor chain c plp events
    → LacksFor chain pool list chunks c plp events

-- So, if the pool is ready, each call does its work.
abbrev pub TakesIfReady : Chain → Chain → List ℕ → State → State → ℕ → Type 0
TakesIfReady old new packet was is list = (c : Config) (plp : ℕ) (events : List Event)
    → IsReady old was list c plp events
    → HasRoom c plp events → HasTaken new packet (list_at was list) (list_at is list) c plp events

abbrev pub EndsIfReady : Chain → Chain → State → State → ℕ → ℕ → Type 0
EndsIfReady old new was is list count = (c : Config) (plp : ℕ) (events : List Event) → IsReady old was list c plp events
    → IsDue c plp events → HasEnded new count (list_at was list) (list_at is list) c plp events
