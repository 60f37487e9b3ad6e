-- Laws of the times and the tables, for the crates above. A slot lasts num / den ticks, and an epoch is any number of
-- ticks.
use Rattle.std.specs.Prelude.{◌≡◌, ◌≢◌, ◌⊎◌, ℕ, true, ◌+◌, ◌-◌, ◌*◌, ◌/◌, ◌%◌, ◌^◌, ◌<◌, ◌≤◌, ◌↔◌, length, sum_by}
use Rattle.std.specs.Prelude.{if◌then◌else◌}
use Rattle.std.specs.Int.{div_ceil}
use Rattle.plp_config.specs.Capacity.{block_bytes, field_bytes, block_cells, up_bytes, capacity, frame_room, AllTests}
use Rattle.plp_config.specs.Capacity.{Lacks}
use Rattle.plp_config.specs.Capacity.{IsPlan, PlaceFits, TestHolds, Throughput, CellCount, CellAddresses, RecordLength}
use Rattle.plp_config.specs.Capacity.{cell_need}
use Rattle.plp_config.specs.Capacity.{block_parts}
use Rattle.plp_config.specs.Emission.{subseconds_by, origin, frame_subseconds, emission, FindsFrame}
use Rattle.plp_config.specs.InterleavingFrames.{interleaving_frame, is_first, begin_of}
use Rattle.plp_config.specs.Places.{FramesStandAlone}
use Rattle.plp_config.specs.Plps.{plp_at, spread, spread_max, is_type2, StandsAlone}
use Rattle.plp_config.specs.Rules.{AllRules, Refuses}
use Rattle.plp_config.specs.RunLength.{frame_count, IsFrameCount}
use Rattle.plp_config.specs.Tables.{subseconds_per_second, info_bits, cells_per_block}
use Rattle.plp_config.specs.declared.capacity.CapacityFault.{CapacityFault}
use Rattle.plp_config.specs.declared.config.Config.{Config}
use Rattle.plp_config.specs.declared.moment.Moment.{Moment}
use Rattle.plp_config.specs.declared.plp.TheConstants.{MOST_FIELD_BYTES}
use Rattle.plp_config.specs.declared.rules.ConfigFault.{ConfigFault}
use Rattle.plp_config.specs.SlotTime.{num, den, slot_start, slot_count, InRange, iscr_slot, delay, delay_ticks}
use Rattle.plp_config.specs.SlotTime.{released_count}
use Rattle.plp_config.specs.SlotTime.{window_slots, IsReleased, epoch_ticks}
use Rattle.plp_config.specs.SlotTimes.{slot_times, AreSlotTimes}

-- a slot starts before a tick
abbrev pub StartsBefore : Type 0
StartsBefore = (num den slot tick : ℕ) → 0 < den → (slot_start num den slot < tick) ↔ (slot * num < tick * den)

-- a slot does not start before a tick
abbrev pub StartsFrom : Type 0
StartsFrom = (num den slot tick : ℕ) → 0 < den → (tick ≤ slot_start num den slot) ↔ (tick * den ≤ slot * num)

-- a slot starts in a tick
abbrev pub StartsAt : Type 0
StartsAt = (num den slot tick : ℕ) → 0 < den → (slot_start num den slot ≡ tick)
    ↔ ((tick * den ≤ slot * num) × (slot * num < (tick + 1) * den))

-- a slot is over by a tick: its end, the start of the next one, is not after it
abbrev pub OverBy : Type 0
OverBy = (num den slot tick : ℕ) → 0 < num → (slot < slot_count num den tick) ↔ ((slot + 1) * num ≤ tick * den)

abbrev pub NotOverBy : Type 0
NotOverBy = (num den slot tick : ℕ) → 0 < num → (slot_count num den tick ≤ slot) ↔ (tick * den < (slot + 1) * num)

-- so many slots are over by a tick
abbrev pub CountReaches : Type 0
CountReaches = (num den slots tick : ℕ) → 0 < num → (slots ≤ slot_count num den tick) ↔ (slots * num ≤ tick * den)

abbrev pub StartRises : Type 0
StartRises = (num den slot later : ℕ) → 0 < den → slot ≤ later → slot_start num den slot ≤ slot_start num den later

abbrev pub CountRises : Type 0
CountRises = (num den tick later : ℕ) → 0 < num → tick ≤ later → slot_count num den tick ≤ slot_count num den later

abbrev pub NoneAtZero : Type 0
NoneAtZero = (num den : ℕ) → 0 < num → slot_count num den 0 ≡ 0

-- a slot has ended one slot's length, rounded up, after the tick in which it starts
abbrev pub EndsAfterStart : Type 0
EndsAfterStart = (num den slot : ℕ) → 0 < den → (slot + 1) * num < (slot_start num den slot + 1 + div_ceil num den)
    * den

-- if a slot lasts a tick or more, no two slots start in one tick
abbrev pub StartsApart : Type 0
StartsApart = (num den slot later : ℕ) → 0 < den → den ≤ num → slot < later
    → slot_start num den slot < slot_start num den later

-- each slot is in the range of exactly one epoch, and that is not epoch 0
pub record IsOnlyEpoch (num den epoch slot m : ℕ) : Type 0 where
  pub positive : 1 ≤ m
  pub inside : InRange num den epoch m slot
  pub only : (other : ℕ) → InRange num den epoch other slot → other ≡ m

abbrev pub RangesPartition : Type 0
RangesPartition = (num den epoch slot : ℕ) → 0 < num → 0 < den → 1 ≤ epoch → (m : ℕ) × IsOnlyEpoch num den epoch slot m

-- the end of a slot in the range of an epoch
abbrev pub RangeBounds : Type 0
RangeBounds = (num den epoch m slot : ℕ) → 0 < num → InRange num den epoch m slot
    → (1 ≤ m) × ((slot + 1) * num ≤ m * epoch * den) × ((m - 1) * epoch * den < (slot + 1) * num)

-- two slots of one epoch start an epoch apart at most
abbrev pub SpansEpoch : Type 0
SpansEpoch = (num den epoch m slot later : ℕ) → 0 < den → den ≤ num → InRange num den epoch m slot
    → InRange num den epoch m later
    → slot < later
    → (slot_start num den slot < slot_start num den later)
    × (slot_start num den later ≤ slot_start num den slot + epoch)

-- ISCR, the start of a slot modulo 2^22, tells the slots of an epoch apart. Both premises are needed
abbrev pub OneSlotPerIscr : Type 0
OneSlotPerIscr = (num den epoch m slot later : ℕ) → 0 < den → den ≤ num → epoch < 2 ^ 22
    → InRange num den epoch m slot → InRange num den epoch m later → slot < later
    → slot_start num den slot % 2 ^ 22 ≢ slot_start num den later % 2 ^ 22

-- what the ISCR gives is the slot, if it is one of the range
abbrev pub IscrFindsSlot : Type 0
IscrFindsSlot = (num den epoch m slot : ℕ) → 0 < den → den ≤ num → epoch < 2 ^ 22 → InRange num den epoch m slot
    → iscr_slot num den epoch m (slot_start num den slot % 2 ^ 22) ≡ slot

-- the delay of a slot has not passed when two epochs more have ended after the one in which the slot ends
abbrev pub DelayOutlasts : Type 0
DelayOutlasts = (num den epoch m slot : ℕ) → 0 < num → 0 < den → InRange num den epoch m slot
    → (m + 2) * epoch < slot_start num den slot + delay_ticks num den epoch

-- the slots that are given out by a tick are the first ones
abbrev pub ReleasedFirst : Type 0
ReleasedFirst = (num den delay tick slot : ℕ) → 0 < num → 0 < den → (slot < released_count num den delay tick)
    ↔ (slot_start num den slot + delay ≤ tick)

-- the slots that are given out when a frame has ended are the first ones
abbrev pub ReleasedByFrame : Type 0
ReleasedByFrame = (c : Config) (plp frame slot : ℕ) → AllRules c → plp < length c.plps
    → IsReleased c plp frame slot ↔ (slot < released_count (num c) (den c plp) (delay c plp) ((frame + 1) * c.ticks))

-- a slot that is given out has been over for three epochs
abbrev pub ReleasedOld : Type 0
ReleasedOld = (num den epoch tick slot : ℕ) → 0 < num → 0 < den
    → slot < released_count num den (delay_ticks num den epoch) tick
    → (3 * epoch ≤ tick) × (slot < slot_count num den (tick - 3 * epoch))

-- between the slots given out by a tick and those over by it lie no more than a window
abbrev pub WindowHolds : Type 0
WindowHolds = (num den delay ticks tick first : ℕ) → 0 < num → 0 < den → released_count num den delay tick ≤ first
    → slot_count num den tick - first + 2 ≤ window_slots num den delay ticks

-- every emission is so many frames after the start
abbrev pub EmissionTotal : Type 0
EmissionTotal = (c : Config) (frame : ℕ) → subseconds_by c (emission c frame) ≡ origin c + frame * frame_subseconds c

-- no two frames leave at one moment
abbrev pub EmissionsDiffer : Type 0
EmissionsDiffer = (c : Config) (frame other : ℕ) → AllRules c → emission c frame ≡ emission c other → frame ≡ other

-- which frame leaves at a moment
abbrev pub EmissionFound : Type 0
EmissionFound = (c : Config) (moment : Moment) (frame : ℕ) → AllRules c → (moment ≡ emission c frame)
    ↔ FindsFrame c moment frame

-- the emissions of a run fit a timestamp, and are neither relative (0 seconds) nor null (all ones)
abbrev pub EmissionFits : Type 0
EmissionFits = (c : Config) (frame : ℕ) → AllRules c → frame < 2 ^ 32
    → (1 ≤ (emission c frame).seconds) × ((emission c frame).seconds < 2 ^ 40 - 1)
    × ((emission c frame).subseconds < 2 ^ 27)

-- `frame_count` is the least number of whole superframes that is enough
abbrev pub FrameCountLeast : Type 0
FrameCountLeast = (c : Config) (packets : ℕ → ℕ) → AllRules c → IsFrameCount c packets (frame_count c packets)

-- A configuration has one refusal at most, and then a rule fails.
abbrev pub OneRuleFails : Type 0
OneRuleFails = (c : Config) (fault other : ConfigFault) → Refuses c fault → Refuses c other → fault ≡ other

abbrev pub RefusalFails : Type 0
RefusalFails = (c : Config) (fault : ConfigFault) → Refuses c fault → ¬ (AllRules c)

-- A configuration satisfies every rule, or it has a refusal.
abbrev pub RulesDecided : Type 0
RulesDecided = (c : Config) → AllRules c ⊎ ((fault : ConfigFault) × Refuses c fault)

-- The same for the capacity.
abbrev pub OneTestFails : Type 0
OneTestFails = (c : Config) (fault other : CapacityFault) → Lacks c fault → Lacks c other → fault ≡ other

abbrev pub LackFails : Type 0
LackFails = (c : Config) (fault : CapacityFault) → Lacks c fault → ¬ (AllTests c)

abbrev pub TestsDecided : Type 0
TestsDecided = (c : Config) → AllTests c ⊎ ((fault : CapacityFault) × Lacks c fault)

-- Facts of the tables, for every configuration or for those that satisfy the rules.

-- a slot lasts 38 ticks or more
abbrev pub SlotLength : Type 0
SlotLength = (c : Config) (plp : ℕ) → AllRules c → plp < length c.plps → (1 ≤ den c plp) × (den c plp < 2 ^ 33)
    × (38 * den c plp ≤ num c) × (num c < 2 ^ 38)

-- a frame is an epoch in which the ISCR tells slots apart
abbrev pub FrameTicks : Type 0
FrameTicks = (c : Config) → AllRules c → (1000 ≤ c.ticks) × (c.ticks < 2 ^ 22)

-- and so is an interleaving frame
abbrev pub EpochTicks : Type 0
EpochTicks = (c : Config) (plp : ℕ) → AllRules c → plp < length c.plps → (c.ticks ≤ epoch_ticks c plp)
    × (epoch_ticks c plp < 2 ^ 22)

-- the numbers of a PLP are times of slots
abbrev pub SoundTimes : Type 0
SoundTimes = (c : Config) (plp : ℕ) → AllRules c → plp < length c.plps → AreSlotTimes (slot_times c plp)

-- an interleaving frame that is carried by one frame lasts as long
abbrev pub EpochAlone : Type 0
EpochAlone = (c : Config) (plp : ℕ) → spread c.plps plp ≡ 1 → epoch_ticks c plp ≡ c.ticks

-- a superframe holds whole interleaving frames
abbrev pub SpreadDividesFrames : Type 0
SpreadDividesFrames = (c : Config) (plp : ℕ) → AllRules c → plp < length c.plps → (1 ≤ spread c.plps plp)
    × (c.frames % spread c.plps plp ≡ 0)

-- no spread is greater than the greatest, which a PLP has
abbrev pub SpreadIsGreatest : Type 0
SpreadIsGreatest = (c : Config) → AllRules c
    → ((plp : ℕ) → plp < length c.plps → spread c.plps plp ≤ spread_max c.plps)
    × ((plp : ℕ) × (plp < length c.plps) × (spread c.plps plp ≡ spread_max c.plps))

-- in the first frame of a superframe an interleaving frame of each PLP begins
abbrev pub SuperframeBegins : Type 0
SuperframeBegins = (c : Config) (plp frame : ℕ) → AllRules c → plp < length c.plps → frame % c.frames ≡ 0
    → is_first c plp frame ≡ true

-- one begins in the superframe in which it is carried
abbrev pub BeginsInSuperframe : Type 0
BeginsInSuperframe = (c : Config) (plp frame : ℕ) → AllRules c → plp < length c.plps
    → frame - frame % c.frames ≤ begin_of c plp frame

-- of the frames up to one, `begin_of` is the last in which one begins
abbrev pub BeginIsFirst : Type 0
BeginIsFirst = (c : Config) (plp frame : ℕ) → AllRules c → plp < length c.plps
    → is_first c plp (begin_of c plp frame) ≡ true

abbrev pub BeginIsLast : Type 0
BeginIsLast = (c : Config) (plp frame first : ℕ) → AllRules c → plp < length c.plps → is_first c plp first ≡ true
    → first ≤ frame
    → first ≤ begin_of c plp frame

-- interleaving frame m begins in frame m P
abbrev pub BeginByNumber : Type 0
BeginByNumber = (c : Config) (plp frame : ℕ) → begin_of c plp frame ≡ interleaving_frame c plp frame * spread c.plps plp

-- with spread 1 frames and interleaving frames are the same
abbrev pub BeginAlone : Type 0
BeginAlone = (c : Config) (plp frame : ℕ) → StandsAlone c.plps plp
    → (is_first c plp frame ≡ true) × (interleaving_frame c plp frame ≡ frame) × (begin_of c plp frame ≡ frame)

-- a frame lasts a quarter of a second at most
abbrev pub FrameQuarter : Type 0
FrameQuarter = (c : Config) → AllRules c → (1 ≤ frame_subseconds c)
    × (4 * frame_subseconds c ≤ subseconds_per_second c.band)

-- the sizes of blocks: a data field is longer than a user packet, and shorter than 65,535 bits
abbrev pub FieldRange : Type 0
FieldRange = (c : Config) (plp : ℕ) → (869 ≤ field_bytes c plp) × (field_bytes c plp ≤ MOST_FIELD_BYTES)
    × (block_bytes c plp ≡ field_bytes c plp + 10)

-- a block is whole bytes
abbrev pub BlockBits : Type 0
BlockBits = (c : Config) (plp : ℕ) → 8 * block_bytes c plp ≡ info_bits (plp_at c.plps plp).fec (plp_at c.plps plp).rate

abbrev pub UserPacketRange : Type 0
UserPacketRange = (c : Config) (plp : ℕ) → (187 ≤ up_bytes c plp) × (up_bytes c plp ≤ 188)

-- a frame can carry a user packet
abbrev pub CapacityHoldsUp : Type 0
CapacityHoldsUp = (c : Config) (plp : ℕ) → AllRules c → plp < length c.plps → up_bytes c plp ≤ capacity c plp

-- the frames that carry a block have equal parts of its cells
abbrev pub CellsInParts : Type 0
CellsInParts = (c : Config) (plp : ℕ) → IsPlan c → plp < length c.plps → block_cells c plp % spread c.plps plp ≡ 0

-- a frame has room for all blocks
abbrev pub RoomsFit : Type 0
RoomsFit = (c : Config) → IsPlan c → sum_by frame_room c.plps ≤ c.cells

-- all blocks of the interleaving frames that a frame carries have no more cells than as many frames as the greatest
-- spread
abbrev pub BlocksFit : Type 0
BlocksFit = (c : Config) → IsPlan c
    → sum_by (λ plp. plp.blocks * cells_per_block plp.fec plp.modulation) c.plps ≤ spread_max c.plps * c.cells

-- the time interleaver has five columns a block
abbrev pub CellsByFive : Type 0
CellsByFive = (c : Config) (plp : ℕ) → (block_cells c plp % 5 ≡ 0) × (2025 ≤ block_cells c plp)
    × (block_cells c plp ≤ 32400)

-- the chunks of 256 bytes that a block fills are 7 for each 2,025 cells at most
abbrev pub BlockChunks : Type 0
BlockChunks = (c : Config) (plp : ℕ) → div_ceil (block_bytes c plp) 256 ≤ 7 * (block_cells c plp / 2025)

-- If each interleaving frame is carried by one frame, the tests of the capacity are those of single frames: the blocks
-- of a frame carry what arrives in its time, the cells of all blocks fit it, a block of type 2 is parted by its
-- sub-slices alone, and no record is too long.
pub record FitsByFrames (c : Config) : Type 0 where
  pub throughput : (plp : ℕ) → plp < length c.plps
      → PlaceFits Throughput c plp ↔ (up_bytes c plp * c.ticks * den c plp ≤ capacity c plp * num c)
  pub cells : cell_need c ≡ sum_by (λ p. p.blocks * cells_per_block p.fec p.modulation) c.plps
  pub parts : (plp : ℕ) → plp < length c.plps
      → block_parts c plp ≡ (if is_type2 (plp_at c.plps plp).plp_type then c.sub_slices else 1)
  pub records : TestHolds CellCount c → TestHolds CellAddresses c → TestHolds RecordLength c
  pub spread : spread_max c.plps ≡ 1

abbrev pub FitsAlone : Type 0
FitsAlone = (c : Config) → AllRules c → FramesStandAlone c → FitsByFrames c
