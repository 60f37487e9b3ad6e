-- The rules of a configuration. A rule's number is its place in `Rule`, from 1.
use Rattle.std.specs.Prelude.{◌≡◌, ◌≢◌, ℕ, ◌<◌, ◌≤◌, ◌%◌, ◌^◌, min, length, nat_le, None, MatchBool, IsSomeAnd}
use Rattle.plp_config.specs.FirstFailure.{HoldsBelow, IsFirstFailure}
use Rattle.plp_config.specs.Plps.{plp_at, type_number, has_type2, spread}
use Rattle.plp_config.specs.SlotTime.{epoch_ticks}
use Rattle.plp_config.specs.Tables.{subseconds_per_second, greatest_ticks}
use Rattle.plp_config.specs.declared.config.Config.{Config}
use Rattle.plp_config.specs.declared.config.L1Numbers.{L1Numbers}
use Rattle.plp_config.specs.declared.moment.TheConstants.{ISCR_TICKS}
use Rattle.plp_config.specs.declared.plp.Plp.{Plp}
use Rattle.plp_config.specs.declared.plp.PlpType.TheVariants.{Common}
use Rattle.plp_config.specs.declared.plp.TheConstants.{MOST_BLOCKS}
use Rattle.plp_config.specs.declared.rules.ConfigFault.{ConfigFault}

pub data Rule : Type 0 where
  FrameDuration : Rule
  SuperframeLength : Rule
  LeastCells : Rule
  StartTime : Rule
  UtcOffset : Rule
  PidRange : Rule
  L1Fields : Rule
  SubSlices : Rule
  PlpCount : Rule
  DistinctIds : Rule
  TypeOrder : Rule
  BlockLimit : Rule
  InterleaverLength : Rule
  BitRate : Rule
  SpreadDivides : Rule
  SpreadLength : Rule
  EpochDuration : Rule
  OneCommon : Rule
  CommonRate : Rule
  CommonShared : Rule

abbrev pub rule_number : Rule → ℕ
rule_number FrameDuration = 1
rule_number SuperframeLength = 2
rule_number LeastCells = 3
rule_number StartTime = 4
rule_number UtcOffset = 5
rule_number PidRange = 6
rule_number L1Fields = 7
rule_number SubSlices = 8
rule_number PlpCount = 9
rule_number DistinctIds = 10
rule_number TypeOrder = 11
rule_number BlockLimit = 12
rule_number InterleaverLength = 13
rule_number BitRate = 14
rule_number SpreadDivides = 15
rule_number SpreadLength = 16
rule_number EpochDuration = 17
rule_number OneCommon = 18
rule_number CommonRate = 19
rule_number CommonShared = 20

-- each number fits its field of L1-pre, and S2 is even (EN 302 755, clause 7.2.2); TX_ID_AVAILABILITY has 8 bits, as
-- its type
pub record FitsL1 (l1 : L1Numbers) : Type 0 where
  pub bwt_ext : l1.bwt_ext < 2 ^ 1
  pub s2 : l1.s2 < 2 ^ 4
  pub s2_even : l1.s2 % 2 ≡ 0
  pub guard : l1.guard < 2 ^ 3
  pub papr : l1.papr < 2 ^ 4
  pub l1_mod : l1.l1_mod < 2 ^ 4
  pub l1_cod : l1.l1_cod < 2 ^ 2
  pub l1_fec : l1.l1_fec < 2 ^ 2
  pub post_size : l1.post_size < 2 ^ 18
  pub pilot : l1.pilot < 2 ^ 4
  pub symbols : l1.symbols < 2 ^ 12
  pub regen : l1.regen < 2 ^ 3

-- the PLP at a place is the common one of a group, or one of them
abbrev pub IsCommonOf : Config → ℕ → ℕ → Type 0
IsCommonOf c group place = ((plp_at c.plps place).plp_type ≡ Common) × ((plp_at c.plps place).group ≡ group)

-- two PLPs have one bit rate and one spread
abbrev pub IsInStep : Plp → Plp → Type 0
IsInStep a b = (a.bits_per_second ≡ b.bits_per_second) × (a.spread ≡ b.spread)

-- another PLP than the one at a place is in its group
abbrev pub HasCompany : Config → ℕ → Type 0
HasCompany c place = (other : ℕ) × (other < length c.plps) × (other ≢ place)
    × ((plp_at c.plps other).group ≡ (plp_at c.plps place).group)

-- what the rules of the PLPs ask of the PLP at a place; the other rules ask nothing of it
abbrev pub PlaceHolds : Rule → Config → ℕ → Type 0
PlaceHolds DistinctIds c place = HoldsBelow (λ earlier. (plp_at c.plps earlier).id ≢ (plp_at c.plps place).id) place
PlaceHolds TypeOrder c place =
    HoldsBelow (λ earlier. type_number (plp_at c.plps earlier).plp_type ≤ type_number (plp_at c.plps place).plp_type)
    place
PlaceHolds BlockLimit c place = (1 ≤ (plp_at c.plps place).blocks) × ((plp_at c.plps place).blocks ≤ MOST_BLOCKS)
PlaceHolds InterleaverLength c place = (plp_at c.plps place).interleave ≤ min (plp_at c.plps place).blocks 255
PlaceHolds BitRate c place = (1 ≤ (plp_at c.plps place).bits_per_second)
    × ((plp_at c.plps place).bits_per_second ≤ 72000000)
PlaceHolds SpreadDivides c place = (1 ≤ spread c.plps place) × (c.frames % spread c.plps place ≡ 0)
PlaceHolds SpreadLength c place = 1 < spread c.plps place → (plp_at c.plps place).interleave ≡ 1
PlaceHolds EpochDuration c place = epoch_ticks c place < ISCR_TICKS
PlaceHolds OneCommon c place =
    (plp_at c.plps place).plp_type ≡ Common
    → HoldsBelow (λ earlier. ¬ (IsCommonOf c (plp_at c.plps place).group earlier)) place
PlaceHolds CommonRate c place = HoldsBelow (λ common. IsCommonOf c (plp_at c.plps place).group common
    → IsInStep (plp_at c.plps place) (plp_at c.plps common)) (length c.plps)
PlaceHolds CommonShared c place = (plp_at c.plps place).plp_type ≡ Common → HasCompany c place
PlaceHolds _ c place = Unit {0}

-- what each rule demands
abbrev pub RuleHolds : Rule → Config → Type 0
RuleHolds FrameDuration c = (1000 ≤ c.ticks) × (c.ticks ≤ greatest_ticks c.band)
RuleHolds SuperframeLength c = (2 ≤ c.frames) × (c.frames ≤ 255)
RuleHolds LeastCells c = 2025 ≤ c.cells
RuleHolds StartTime c = (1 ≤ c.seconds) × (c.seconds ≤ 2 ^ 39) × (c.subseconds < subseconds_per_second c.band)
RuleHolds UtcOffset c = c.utco < 8192
RuleHolds PidRange c = (16 ≤ c.pid) × (c.pid ≤ 8190)
RuleHolds L1Fields c = FitsL1 c.l1
RuleHolds SubSlices c = MatchBool (has_type2 c.plps) ((2 ≤ c.sub_slices) × (c.sub_slices ≤ 6480)) (c.sub_slices ≡ 1)
RuleHolds PlpCount c = (1 ≤ length c.plps) × (length c.plps ≤ 255)
RuleHolds rule c = HoldsBelow (PlaceHolds rule c) (length c.plps)

-- every rule holds
abbrev pub AllRules : Config → Type 0
AllRules c = (rule : Rule) → RuleHolds rule c

-- every rule below a number holds
abbrev pub RulesBelow : ℕ → Config → Type 0
RulesBelow number c = (rule : Rule) → rule_number rule < number → RuleHolds rule c

-- the refusal of a configuration: the least rule that fails and, for the rules of the PLPs, the first place where it
-- fails
pub record Refuses (c : Config) (fault : ConfigFault) : Type 0 where
  pub rule : Rule
  pub number : fault.rule ≡ rule_number rule
  pub fails : ¬ (RuleHolds rule c)
  pub lower : RulesBelow (rule_number rule) c
  pub place : MatchBool (nat_le 10 (rule_number rule))
      (IsSomeAnd fault.plp (IsFirstFailure (PlaceHolds rule c) (length c.plps)))
      (fault.plp ≡ None)
