-- What calls change in the fields of a chain. No public clause cites this module.
use Rattle.std.specs.Prelude.{◌≡◌, ◌<◌, ◌≤◌, ℕ, ◌+◌, ◌-◌, List, map, length, [], ◌∷◌, ◌++◌, take, drop}
use Rattle.std.specs.Int.{div_ceil}
use Rattle.terms.specs.Bits.{bits_of}
use Rattle.bb_frame.specs.declared.header.TheConstants.{HEADER_BYTES}
use Rattle.linked_pool.specs.Pool.{State, chunks_for, IsWhole}
use Rattle.mode_adapt.specs.declared.chain.Chain.{Chain}
use Rattle.mode_adapt.specs.Pieces.{piece_of}

-- A packet was kept, with this dnp.
pub record Keeps (old new : Chain) (packet : List ℕ) (dnp : ℕ) : Type 0 where
  pub settings : new.settings ≡ old.settings
  pub deleter : new.deleter ≡ old.deleter
  pub slot : new.slot ≡ old.slot + 1
  pub made : new.made ≡ old.made
  pub sent : new.sent ≡ old.sent
  pub pending : new.pending.items ≡ old.pending.items ++ take old.settings.up_bytes (drop 1 packet ++ dnp ∷ [])
  pub slots : new.slots.items ≡ old.slots.items ++ old.slot ∷ []

-- So many bytes were sent, those of a block.
pub record Sends (old new : Chain) (count : ℕ) : Type 0 where
  pub settings : new.settings ≡ old.settings
  pub deleter : new.deleter ≡ old.deleter
  pub slot : new.slot ≡ old.slot
  pub made : new.made ≡ old.made + 1
  pub sent : new.sent ≡ old.sent + count
  pub pending : new.pending.items ≡ drop count old.pending.items
  pub slots : new.slots.items ≡ drop (div_ceil (old.sent + count) old.settings.up_bytes - div_ceil old.sent
      old.settings.up_bytes)
      old.slots.items

-- There is room for a user packet.
abbrev pub HasSpace : Chain → Type 0
HasSpace chain = length chain.pending.items ≤ chain.settings.field_bytes

-- What a packet does not change.
pub record Stays (old new : Chain) : Type 0 where
  pub settings : new.settings ≡ old.settings
  pub made : new.made ≡ old.made

-- A data field is full, and a block may be put.
abbrev pub IsFull : Chain → Type 0
IsFull chain = (chain.made < chain.settings.blocks) × (chain.settings.field_bytes ≤ length chain.pending.items)

-- Bytes are left for a last block.
abbrev pub IsLeft : Chain → Type 0
IsLeft chain = (chain.made < chain.settings.blocks) × (0 < length chain.pending.items)

-- None are.
abbrev pub IsOver : Chain → Type 0
IsOver chain = chain.made < chain.settings.blocks → length chain.pending.items ≡ 0

-- The block of the first bytes was put at the end of a list.
pub record Puts (old new : Chain) (count : ℕ) (was is : List (List ℕ)) : Type 0 where
  pub sends : Sends old new count
  pub list : map bits_of is ≡ map bits_of was ++ piece_of old count ∷ []

-- The count of blocks was taken back.
pub record Resets (old new : Chain) : Type 0 where
  pub settings : new.settings ≡ old.settings
  pub deleter : new.deleter ≡ old.deleter
  pub slot : new.slot ≡ old.slot
  pub sent : new.sent ≡ old.sent
  pub made : new.made ≡ 0
  pub pending : new.pending.items ≡ old.pending.items
  pub slots : new.slots.items ≡ old.slots.items

-- A packet was deleted.
pub record Skips (old new : Chain) : Type 0 where
  pub settings : new.settings ≡ old.settings
  pub deleter : new.deleter ≡ old.deleter
  pub slot : new.slot ≡ old.slot + 1
  pub sent : new.sent ≡ old.sent
  pub made : new.made ≡ old.made
  pub pending : new.pending.items ≡ old.pending.items
  pub slots : new.slots.items ≡ old.slots.items

-- A block may be put, and the pool has too few chunks for it.
pub record Lacks (chain : Chain) (pool : State) (want have : ℕ) : Type 0 where
  pub wanted : want ≡ chunks_for (chain.settings.field_bytes + HEADER_BYTES)
  pub spare : have ≡ pool.spare
  pub less : have < want
  pub room : chain.made < chain.settings.blocks
  pub whole : IsWhole pool
