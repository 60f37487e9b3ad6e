-- Facts of the tables, by computing over them.
use Rattle.std.proofs.Common.{◌≡◌, ℕ, ◌*◌, ◌/◌, ◌%◌, ◌≤◌, Bool, true, false, cond, MatchBool, refl, lit≤, arith}
use Rattle.std.specs.Int.{div_ceil}
use Rattle.std.proofs.lemmas.Nat.{mul-le}
use Rattle.plp_config.specs.Capacity.{block_bytes, field_bytes, block_cells, up_bytes, capacity, CellAddresses, IsPlan}
use Rattle.plp_config.specs.Laws.{SlotLength, FrameTicks, FrameQuarter, FieldRange, BlockBits, UserPacketRange}
use Rattle.plp_config.specs.Laws.{CapacityHoldsUp}
use Rattle.plp_config.specs.Laws.{CellsByFive, BlockChunks, EpochTicks, SoundTimes}
use Rattle.plp_config.specs.Plps.{plp_at, has_type2, spread}
use Rattle.plp_config.specs.Ranges.{HasRanges}
use Rattle.plp_config.specs.Rules.{FrameDuration, SuperframeLength, LeastCells, SubSlices, PlpCount, BlockLimit}
use Rattle.plp_config.specs.Rules.{BitRate}
use Rattle.plp_config.specs.Rules.{SpreadDivides, EpochDuration}
use Rattle.plp_config.specs.SlotTime.{num, den}
use Rattle.plp_config.specs.Tables.{subseconds_per_second, subseconds_per_tick, greatest_ticks, info_bits}
use Rattle.plp_config.specs.Tables.{cells_per_block}
use Rattle.plp_config.specs.declared.config.Config.{Config}
use Rattle.plp_config.specs.declared.band.Band.{Band}
use Rattle.plp_config.specs.declared.band.Band.TheVariants.{Mhz1_7, Mhz5, Mhz6, Mhz7, Mhz8, Mhz10}
use Rattle.plp_config.specs.declared.plp.FecSize.{FecSize}
use Rattle.plp_config.specs.declared.plp.FecSize.TheVariants.{Short, Normal}
use Rattle.plp_config.specs.declared.plp.Rate.{Rate}
use Rattle.plp_config.specs.declared.plp.Rate.TheVariants.{R1_2, R3_5, R2_3, R3_4, R4_5, R5_6}
use Rattle.plp_config.specs.declared.plp.Modulation.{Modulation}
use Rattle.plp_config.specs.declared.plp.Modulation.TheVariants.{Qpsk, Qam16, Qam64, Qam256}

-- the longest frame of all bandwidths
pub greatest_ticks-le : (band : Band) → greatest_ticks band ≤ 2857142
greatest_ticks-le Mhz1_7 = lit≤ tt
greatest_ticks-le Mhz5 = lit≤ tt
greatest_ticks-le Mhz6 = lit≤ tt
greatest_ticks-le Mhz7 = lit≤ tt
greatest_ticks-le Mhz8 = lit≤ tt
greatest_ticks-le Mhz10 = lit≤ tt

-- the longest frame lasts a quarter of a second
greatest_quarter : (band : Band) → 4 * greatest_ticks band * subseconds_per_tick band ≤ subseconds_per_second band
greatest_quarter Mhz1_7 = lit≤ tt
greatest_quarter Mhz5 = lit≤ tt
greatest_quarter Mhz6 = lit≤ tt
greatest_quarter Mhz7 = lit≤ tt
greatest_quarter Mhz8 = lit≤ tt
greatest_quarter Mhz10 = lit≤ tt

-- no frame lasts longer than a quarter of a second
pub quarter : (band : Band) (ticks : ℕ) → ticks ≤ greatest_ticks band → 4 * ticks * subseconds_per_tick band
    ≤ subseconds_per_second band
quarter band ticks h =
    let four : 4 * ticks ≤ 4 * greatest_ticks band = omega arith in
    let all : 4 * ticks * subseconds_per_tick band ≤ 4 * greatest_ticks band * subseconds_per_tick band =
    mul-le (4 * ticks) (subseconds_per_tick band) (4 * greatest_ticks band) (subseconds_per_tick band)
    four (omega arith) in
    omega (arith, greatest_quarter band)

-- the sub-slices of either case
pub sub_slices-range : (several : Bool) (sub_slices : ℕ) → MatchBool several ((2 ≤ sub_slices) × (sub_slices ≤ 6480))
    (sub_slices ≡ 1)
    → (1 ≤ sub_slices) × (sub_slices ≤ 6480)
sub_slices-range true sub_slices range = (omega (arith, range), range.1)
sub_slices-range false sub_slices one = (omega arith, omega arith)

-- 72,000,000 bit/s still give a slot 38 ticks
fastest : (band : Band) → 38 * (72000000 * subseconds_per_tick band) ≤ 1504 * subseconds_per_second band
fastest Mhz1_7 = lit≤ tt
fastest Mhz5 = lit≤ tt
fastest Mhz6 = lit≤ tt
fastest Mhz7 = lit≤ tt
fastest Mhz8 = lit≤ tt
fastest Mhz10 = lit≤ tt

-- the subseconds of a tick
tick_range : (band : Band) → (1 ≤ subseconds_per_tick band) × (subseconds_per_tick band ≤ 71)
tick_range Mhz1_7 = (lit≤ tt, lit≤ tt)
tick_range Mhz5 = (lit≤ tt, lit≤ tt)
tick_range Mhz6 = (lit≤ tt, lit≤ tt)
tick_range Mhz7 = (lit≤ tt, lit≤ tt)
tick_range Mhz8 = (lit≤ tt, lit≤ tt)
tick_range Mhz10 = (lit≤ tt, lit≤ tt)

-- the subseconds of a second
pub second_range : (band : Band) → (1 ≤ subseconds_per_second band) × (subseconds_per_second band ≤ 131000000)
second_range Mhz1_7 = (lit≤ tt, lit≤ tt)
second_range Mhz5 = (lit≤ tt, lit≤ tt)
second_range Mhz6 = (lit≤ tt, lit≤ tt)
second_range Mhz7 = (lit≤ tt, lit≤ tt)
second_range Mhz8 = (lit≤ tt, lit≤ tt)
second_range Mhz10 = (lit≤ tt, lit≤ tt)

-- the bytes of a block, which are whole
pub block_table : (fec : FecSize) (rate : Rate) → (879 ≤ info_bits fec rate / 8) × (info_bits fec rate / 8 ≤ 6730)
    × (8 * (info_bits fec rate / 8) ≡ info_bits fec rate)
block_table Normal R1_2 = (lit≤ tt, lit≤ tt, refl)
block_table Normal R3_5 = (lit≤ tt, lit≤ tt, refl)
block_table Normal R2_3 = (lit≤ tt, lit≤ tt, refl)
block_table Normal R3_4 = (lit≤ tt, lit≤ tt, refl)
block_table Normal R4_5 = (lit≤ tt, lit≤ tt, refl)
block_table Normal R5_6 = (lit≤ tt, lit≤ tt, refl)
block_table Short R1_2 = (lit≤ tt, lit≤ tt, refl)
block_table Short R3_5 = (lit≤ tt, lit≤ tt, refl)
block_table Short R2_3 = (lit≤ tt, lit≤ tt, refl)
block_table Short R3_4 = (lit≤ tt, lit≤ tt, refl)
block_table Short R4_5 = (lit≤ tt, lit≤ tt, refl)
block_table Short R5_6 = (lit≤ tt, lit≤ tt, refl)

-- the cells of a block
pub cell_table : (fec : FecSize) (modulation : Modulation)
    → (cells_per_block fec modulation % 5 ≡ 0) × (2025 ≤ cells_per_block fec modulation)
    × (cells_per_block fec modulation ≤ 32400)
cell_table Normal Qpsk = (refl, lit≤ tt, lit≤ tt)
cell_table Normal Qam16 = (refl, lit≤ tt, lit≤ tt)
cell_table Normal Qam64 = (refl, lit≤ tt, lit≤ tt)
cell_table Normal Qam256 = (refl, lit≤ tt, lit≤ tt)
cell_table Short Qpsk = (refl, lit≤ tt, lit≤ tt)
cell_table Short Qam16 = (refl, lit≤ tt, lit≤ tt)
cell_table Short Qam64 = (refl, lit≤ tt, lit≤ tt)
cell_table Short Qam256 = (refl, lit≤ tt, lit≤ tt)

-- a short block has at most 1,644 bytes, and a normal one at least 8,100 cells
pub short_bytes : (rate : Rate) → info_bits Short rate / 8 ≤ 1644
short_bytes R1_2 = lit≤ tt
short_bytes R3_5 = lit≤ tt
short_bytes R2_3 = lit≤ tt
short_bytes R3_4 = lit≤ tt
short_bytes R4_5 = lit≤ tt
short_bytes R5_6 = lit≤ tt

pub normal_cells : (modulation : Modulation) → 8100 ≤ cells_per_block Normal modulation
normal_cells Qpsk = lit≤ tt
normal_cells Qam16 = lit≤ tt
normal_cells Qam64 = lit≤ tt
normal_cells Qam256 = lit≤ tt

-- the chunks of a block of so many bytes and cells
chunks_of : (bytes cells most : ℕ) → bytes ≤ 256 * (7 * most) → 2025 * most ≤ cells
    → div_ceil bytes 256 ≤ 7 * (cells / 2025)
chunks_of bytes cells most few many = omega arith

-- the chunks of a block
chunk_table : (fec : FecSize) (rate : Rate) (modulation : Modulation) → div_ceil (info_bits fec rate / 8) 256
    ≤ 7 * (cells_per_block fec modulation / 2025)
chunk_table Normal rate modulation =
    chunks_of (info_bits Normal rate / 8) (cells_per_block Normal modulation) 4
    (omega (arith, (block_table Normal rate).1))
    (normal_cells modulation)
chunk_table Short rate modulation =
    chunks_of (info_bits Short rate / 8) (cells_per_block Short modulation) 1 (omega (arith, short_bytes rate))
    ((cell_table Short modulation).1)

-- ---- the laws of lengths and sizes

pub slot_length : SlotLength
unfolding num den
slot_length c plp rules lt =
    let rate : (1 ≤ (plp_at c.plps plp).bits_per_second) × ((plp_at c.plps plp).bits_per_second ≤ 72000000) =
    rules BitRate plp lt in
    let band = c.band in
    let least : 1 * 1 ≤ den c plp = mul-le 1 1 (plp_at c.plps plp).bits_per_second (subseconds_per_tick band) rate.0
    (tick_range band).0 in
    let most : den c plp ≤ 72000000 * 71 =
    mul-le (plp_at c.plps plp).bits_per_second (subseconds_per_tick band) 72000000 71 rate.1 (tick_range band).1 in
    let long : den c plp ≤ 72000000 * subseconds_per_tick band =
    mul-le (plp_at c.plps plp).bits_per_second (subseconds_per_tick band) 72000000 (subseconds_per_tick band) rate.1
    (omega arith) in
    (omega arith, omega arith, omega (arith, fastest band), omega (arith, second_range band))

pub frame_ticks : FrameTicks
frame_ticks c rules = ((rules FrameDuration).0, omega (arith, (rules FrameDuration).1, greatest_ticks-le c.band))

pub epoch_ticks_range : EpochTicks
epoch_ticks_range c plp rules inside = (
  omega (arith, mul-le 1 c.ticks (spread c.plps plp) c.ticks (rules SpreadDivides plp inside).0 (omega arith)),
  rules EpochDuration plp inside,
)

pub sound_times : SoundTimes
sound_times c plp rules inside =
    let slot = slot_length c plp rules inside in
    let epoch = epoch_ticks_range c plp rules inside in
    let frame = rules FrameDuration in
    record {
      some = slot.0;
      long = omega (arith, slot.2);
      small = slot.3;
      least = omega (arith, epoch.0, frame.0);
      most = epoch.1;
    }

pub frame_quarter : FrameQuarter
frame_quarter c rules = (
  omega (arith, mul-le 1000 1 c.ticks (subseconds_per_tick c.band) (rules FrameDuration).0 (tick_range c.band).0),
  omega (arith, quarter c.band c.ticks (rules FrameDuration).1),
)

pub field_range : FieldRange
unfolding field_bytes block_bytes
field_range c plp =
    let table = block_table (plp_at c.plps plp).fec (plp_at c.plps plp).rate in
    (omega (arith, table), omega (arith, table), omega (arith, table))

pub block_bits : BlockBits
unfolding block_bytes
block_bits c plp = (block_table (plp_at c.plps plp).fec (plp_at c.plps plp).rate).2

-- the bytes of a user packet
up_range : (delete : Bool) → (187 ≤ cond delete 188 187) × (cond delete 188 187 ≤ 188)
up_range true = (lit≤ tt, lit≤ tt)
up_range false = (lit≤ tt, lit≤ tt)

pub user_packet_range : UserPacketRange
unfolding up_bytes
user_packet_range c plp = up_range (plp_at c.plps plp).delete

pub capacity_holds_up : CapacityHoldsUp
unfolding capacity
capacity_holds_up c plp rules lt =
    let some : 1 ≤ (plp_at c.plps plp).blocks = (rules BlockLimit plp lt).0 in
    let whole : 1 * 869 ≤ (plp_at c.plps plp).blocks * field_bytes c plp =
    mul-le 1 869 (plp_at c.plps plp).blocks (field_bytes c plp) some (field_range c plp).0 in
    omega (arith, user_packet_range c plp)

pub cells_by_five : CellsByFive
unfolding block_cells
cells_by_five c plp = cell_table (plp_at c.plps plp).fec (plp_at c.plps plp).modulation

pub block_chunks : BlockChunks
unfolding block_bytes block_cells
block_chunks c plp = chunk_table (plp_at c.plps plp).fec (plp_at c.plps plp).rate (plp_at c.plps plp).modulation

-- the ranges of a plan
pub plan_ranges : (c : Config) → IsPlan c → HasRanges c
plan_ranges c plan = record {
  ticks = frame_ticks c plan.rules;
  frames = plan.rules SuperframeLength;
  cells = (plan.rules LeastCells, plan.tests CellAddresses);
  sub_slices = sub_slices-range (has_type2 c.plps) c.sub_slices (plan.rules SubSlices);
  plps = plan.rules PlpCount;
}
