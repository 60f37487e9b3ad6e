-- What is held of the groups before the one under way.
use Rattle.std.specs.Prelude.{◌≡◌, ◌≢◌, ℕ, ◌+◌, ◌*◌, ◌/◌, ◌%◌, ◌<◌, ◌==◌, ◌&&◌, Bool, true, List, [], ◌∷◌, length}
use Rattle.std.specs.Prelude.{slice_index, slice_index_or, if◌then◌else◌}
use Rattle.plp_config.specs.declared.config.Config.{Config}
use Rattle.frame_groups.specs.Modulated.{Numbered}
use Rattle.frame_groups.specs.Sequenced.{IsAbove}
use Rattle.plp_config.specs.InterleavingFrames.{is_first, begin_of}
use Rattle.frame_groups.specs.Begun.{packets_at}
use Rattle.frame_groups.specs.Carried.{blocks_of, right_blocks}
use Rattle.frame_groups.specs.Tests.{pool_need, capped}
use Rattle.open_group.specs.declared.blocks.HeldBlocks.{HeldBlocks}
use Rattle.open_group.specs.declared.past.Begun.{Begun}
use Rattle.open_group.specs.declared.past.HeldPast.{HeldPast}
use Rattle.open_group.specs.declared.past.Need.{Need}

-- what is held of a PLP, and of the frames with a frame_idx
abbrev pub begun_at : HeldPast → ℕ → Begun
begun_at held plp = slice_index_or held.begun.items plp (record { number = 0; blocks = 0; right = 0 })

abbrev pub need_at : HeldPast → ℕ → Need
need_at held place = slice_index_or held.needs.items place (record { superframe = 0; chunks = 0 })

-- There is one for each.
pub record AreSized (c : Config) (held : HeldPast) : Type 0 where
  pub begun : length held.begun.items ≡ length c.plps
  pub needs : length held.needs.items ≡ c.frames

-- whether the group of frame b had so many blocks, each of its length
abbrev pub told_begun : Begun → ℕ → ℕ → Bool
told_begun begun b told = if begun.number == b then (begun.blocks == told) && (begun.right == told) else told == 0

-- with the group of frame n, which has these blocks
abbrev pub noted : Config → ℕ → HeldBlocks → ℕ → Begun → Begun
noted c n blocks plp old = if is_first c plp n then record {
  number = n;
  blocks = slice_index blocks.counts.items plp;
  right = slice_index blocks.rights.items plp;
} else old

-- Numbers fall: the group with the greatest stands in front.
abbrev pub AreFalling : List Numbered → Type 0
AreFalling [] = Unit {0}
AreFalling (b ∷ past) = IsAbove past b.number × AreFalling past

-- It is the last group in which an interleaving frame of a PLP began.
pub record IsBegun (c : Config) (past : List Numbered) (plp : ℕ) (begun : Begun) : Type 0 where
  pub first : is_first c plp begun.number ≡ true
  pub blocks : begun.blocks ≡ capped (length (blocks_of c plp (packets_at past begun.number)))
  pub right : begun.right ≡ capped (length (right_blocks c plp (packets_at past begun.number)))
  -- There is no other in which one began that a later frame carries.
  pub others : (n : ℕ) → IsAbove past n → begin_of c plp n ≢ begun.number → packets_at past (begin_of c plp n) ≡ []

-- It is the last group with a frame_idx.
pub record IsNeeded (c : Config) (past : List Numbered) (place : ℕ) (need : Need) : Type 0 where
  pub chunks : need.chunks ≡ capped (pool_need c (packets_at past (need.superframe * c.frames + place)))
  -- There is no other in the superframe of a later frame.
  pub others : (n : ℕ) → IsAbove past n → place < n % c.frames → n / c.frames ≢ need.superframe
      → packets_at past (n / c.frames * c.frames + place) ≡ []

-- These groups were before.
pub record HoldsPast (c : Config) (held : HeldPast) (past : List Numbered) : Type 0 where
  pub falling : AreFalling past
  pub begun : (plp : ℕ) → plp < length c.plps → IsBegun c past plp (begun_at held plp)
  pub needs : (place : ℕ) → place < c.frames → IsNeeded c past place (need_at held place)
