-- What a block holds, and whether the PLPs fit their frames.
use Rattle.std.specs.Prelude.{◌≡◌, ℕ, ◌+◌, ◌-◌, ◌*◌, ◌/◌, ◌%◌, ◌<◌, ◌≤◌, Bool, true, false, None, length, sum_by}
use Rattle.std.specs.Prelude.{unwrap_or, MatchBool}
use Rattle.std.specs.Prelude.{IsSomeAnd, if◌then◌else◌}
use Rattle.std.specs.Int.{div_ceil}
use Rattle.plp_config.specs.FirstFailure.{HoldsBelow, IsFirstFailure}
use Rattle.plp_config.specs.Plps.{plp_at, is_type2, spread}
use Rattle.plp_config.specs.Rules.{AllRules}
use Rattle.plp_config.specs.SlotTime.{num, den, epoch_ticks}
use Rattle.plp_config.specs.Tables.{info_bits, cells_per_block}
use Rattle.plp_config.specs.declared.config.Config.{Config}
use Rattle.plp_config.specs.declared.config.TheConstants.{GREATEST_REST, MOST_CELLS, FIXED_REST, L1_POST_BITS}
use Rattle.plp_config.specs.declared.config.TheConstants.{L1_POST_PLP_BITS}
use Rattle.plp_config.specs.declared.capacity.CapacityFault.{CapacityFault}
use Rattle.plp_config.specs.declared.plp.Plp.{Plp}

-- bytes of a baseband frame, and of its data field, behind a header of 80 bits (EN 302 755, clause 5.1)
unfoldable pub block_bytes : Config → ℕ → ℕ
block_bytes c plp = info_bits (plp_at c.plps plp).fec (plp_at c.plps plp).rate / 8

unfoldable pub field_bytes : Config → ℕ → ℕ
field_bytes c plp = block_bytes c plp - 10

-- cells of a block
unfoldable pub block_cells : Config → ℕ → ℕ
block_cells c plp = cells_per_block (plp_at c.plps plp).fec (plp_at c.plps plp).modulation

-- bytes of a user packet: no sync byte, and one byte more if null packets are deleted (EN 302 755, clause 5.1)
unfoldable pub up_bytes : Config → ℕ → ℕ
up_bytes c plp = if (plp_at c.plps plp).delete then 188 else 187

-- bytes that the blocks of an interleaving frame carry at most
unfoldable pub capacity : Config → ℕ → ℕ
capacity c plp = (plp_at c.plps plp).blocks * field_bytes c plp

-- cells that the blocks of a PLP fill at most in each of the frames that carry them
abbrev pub frame_room : Plp → ℕ
frame_room plp = plp.blocks * cells_per_block plp.fec plp.modulation / plp.spread

-- cells that they fill at most in a superframe of so many frames, which holds whole interleaving frames
abbrev pub superframe_room : ℕ → Plp → ℕ
superframe_room frames plp = plp.blocks * cells_per_block plp.fec plp.modulation * (frames / plp.spread)

-- cells that the blocks of all PLPs fill at most in a frame: those of a superframe, parted among its frames, rounded up
unfoldable pub cell_need : Config → ℕ
cell_need c = div_ceil (sum_by (superframe_room c.frames) c.plps) c.frames

-- the parts of a block, all of one length: one for each of its frames and, of type 2, for each sub-slice of these
abbrev pub block_parts : Config → ℕ → ℕ
block_parts c plp = (if is_type2 (plp_at c.plps plp).plp_type then c.sub_slices else 1) * spread c.plps plp

-- bytes of the blocks of a PLP in a record at most, each with its head of four
abbrev pub block_room : Plp → ℕ
block_room plp = plp.blocks * (4 + info_bits plp.fec plp.rate / 8)

-- bytes of a record of a frame at most, behind its head: L1-pre and three counts, L1-post, the words of the cells, and
-- the blocks
unfoldable pub longest_rest : Config → ℕ
longest_rest c = FIXED_REST + div_ceil (L1_POST_BITS + L1_POST_PLP_BITS * length c.plps) 8 + 4 * c.cells + sum_by
    block_room c.plps

-- The tests of the capacity. A test's number is its place, from 1.
pub data Test : Type 0 where
  Throughput : Test
  CellCount : Test
  EvenParts : Test
  CellAddresses : Test
  RecordLength : Test

abbrev pub test_number : Test → ℕ
test_number Throughput = 1
test_number CellCount = 2
test_number EvenParts = 3
test_number CellAddresses = 4
test_number RecordLength = 5

-- what the tests of the PLPs ask at a place; the others ask nothing there
abbrev pub PlaceFits : Test → Config → ℕ → Type 0
PlaceFits Throughput c plp = up_bytes c plp * epoch_ticks c plp * den c plp ≤ capacity c plp * num c
PlaceFits EvenParts c plp = block_cells c plp % block_parts c plp ≡ 0
PlaceFits _ c plp = Unit {0}

-- what each test demands
abbrev pub TestHolds : Test → Config → Type 0
TestHolds CellCount c = cell_need c ≤ c.cells
TestHolds CellAddresses c = c.cells ≤ MOST_CELLS
TestHolds RecordLength c = longest_rest c ≤ GREATEST_REST
TestHolds test c = HoldsBelow (PlaceFits test c) (length c.plps)

-- what a test needs, and what there is, at a place if it speaks of one
abbrev pub need_of : Test → Config → ℕ → ℕ
need_of Throughput c plp = div_ceil (up_bytes c plp * epoch_ticks c plp * den c plp) (num c)
need_of CellCount c plp = cell_need c
need_of EvenParts c plp = block_parts c plp
need_of CellAddresses c plp = c.cells
need_of RecordLength c plp = longest_rest c

abbrev pub supply_of : Test → Config → ℕ → ℕ
supply_of Throughput c plp = capacity c plp
supply_of CellCount c plp = c.cells
supply_of EvenParts c plp = block_cells c plp
supply_of CellAddresses c plp = MOST_CELLS
supply_of RecordLength c plp = GREATEST_REST

-- every test holds
abbrev pub AllTests : Config → Type 0
AllTests c = (test : Test) → TestHolds test c

-- every test below a number holds
abbrev pub TestsBelow : ℕ → Config → Type 0
TestsBelow number c = (test : Test) → test_number test < number → TestHolds test c

-- whether a test is one of single PLPs
abbrev pub is_of_plps : Test → Bool
is_of_plps Throughput = true
is_of_plps CellCount = false
is_of_plps EvenParts = true
is_of_plps CellAddresses = false
is_of_plps RecordLength = false

-- the refusal for want of capacity: the least test that fails, the first place where it fails if it is one of the PLPs,
-- and what it needs there and what there is
pub record Lacks (c : Config) (fault : CapacityFault) : Type 0 where
  pub test : Test
  pub number : fault.test ≡ test_number test
  pub fails : ¬ (TestHolds test c)
  pub lower : TestsBelow (test_number test) c
  pub place : MatchBool (is_of_plps test) (IsSomeAnd fault.plp (IsFirstFailure (PlaceFits test c) (length c.plps)))
      (fault.plp ≡ None)
  pub need : fault.need ≡ need_of test c (unwrap_or fault.plp 0)
  pub supply : fault.have ≡ supply_of test c (unwrap_or fault.plp 0)

-- every rule and every test holds
pub record IsPlan (c : Config) : Type 0 where
  pub rules : AllRules c
  pub tests : AllTests c
