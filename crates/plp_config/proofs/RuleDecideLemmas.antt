-- Every rule is decided, so a configuration satisfies all or has a refusal.
use Rattle.std.proofs.Common.{◌≡◌, ◌≢◌, ◌⊎◌, ℕ, ◌+◌, ◌-◌, ◌%◌, ◌^◌, ◌<◌, ◌≤◌, length, min, Some, None, refl, ap, subst}
use Rattle.std.proofs.Common.{◌∙◌, inl, inr}
use Rattle.std.proofs.Common.{arith}
use Rattle.std.proofs.Math.Decide.{dec_le, dec_lt, map_dec, ℕ_discrete}
use Rattle.std.proofs.lemmas.Bool.{lt-leb}
use Rattle.terms.proofs.DecisionLemmas.{as_sum, decide_not, decide_both, decide_three, decide_if, decide_case}
use Rattle.terms.proofs.DecisionLemmas.{first_other}
use Rattle.terms.proofs.DecisionLemmas.{first_failure, decide_below}
use Rattle.plp_config.proofs.RuleLemmas.{rule_at, rule_at-rule_number, rule_number-rule_at, rule_number-range}
use Rattle.plp_config.proofs.RuleLemmas.{refused_at}
use Rattle.plp_config.specs.FirstFailure.{HoldsBelow}
use Rattle.plp_config.specs.Laws.{RulesDecided}
use Rattle.plp_config.specs.Plps.{plp_at, type_number, has_type2, spread}
use Rattle.plp_config.specs.SlotTime.{epoch_ticks}
use Rattle.plp_config.specs.Rules.{Rule, FrameDuration, SuperframeLength, LeastCells, StartTime, UtcOffset, PidRange}
use Rattle.plp_config.specs.Rules.{L1Fields}
use Rattle.plp_config.specs.Rules.{SubSlices, PlpCount, DistinctIds, TypeOrder, BlockLimit, InterleaverLength, BitRate}
use Rattle.plp_config.specs.Rules.{SpreadDivides, SpreadLength, EpochDuration, OneCommon, CommonRate, CommonShared}
use Rattle.plp_config.specs.Rules.{IsCommonOf, IsInStep, HasCompany}
use Rattle.plp_config.specs.Rules.{rule_number, FitsL1, PlaceHolds, RuleHolds, RulesBelow, Refuses}
use Rattle.plp_config.specs.Tables.{subseconds_per_second, greatest_ticks}
use Rattle.plp_config.specs.declared.config.Config.{Config}
use Rattle.plp_config.specs.declared.config.L1Numbers.{L1Numbers}
use Rattle.plp_config.specs.declared.moment.TheConstants.{ISCR_TICKS}
use Rattle.plp_config.specs.declared.plp.Plp.{Plp}
use Rattle.plp_config.specs.declared.plp.PlpType.{PlpType}
use Rattle.plp_config.specs.declared.plp.PlpType.TheVariants.{Common, Type1, Type2}
use Rattle.plp_config.specs.declared.plp.TheConstants.{MOST_BLOCKS}
use Rattle.plp_config.specs.declared.rules.ConfigFault.{ConfigFault}

decide_l1 : (l1 : L1Numbers) → Dec (FitsL1 l1)
decide_l1 l1 =
    map_dec
    (λ (h : (((l1.bwt_ext < 2 ^ 1) × (l1.s2 < 2 ^ 4) × (l1.s2 % 2 ≡ 0))
    × ((l1.guard < 2 ^ 3) × (l1.papr < 2 ^ 4) × (l1.l1_mod < 2 ^ 4)))
    × (((l1.l1_cod < 2 ^ 2) × (l1.l1_fec < 2 ^ 2) × (l1.post_size < 2 ^ 18))
    × ((l1.pilot < 2 ^ 4) × (l1.symbols < 2 ^ 12) × (l1.regen < 2 ^ 3)))). record {
      bwt_ext = h.0.0.0;
      s2 = h.0.0.1;
      s2_even = h.0.0.2;
      guard = h.0.1.0;
      papr = h.0.1.1;
      l1_mod = h.0.1.2;
      l1_cod = h.1.0.0;
      l1_fec = h.1.0.1;
      post_size = h.1.0.2;
      pilot = h.1.1.0;
      symbols = h.1.1.1;
      regen = h.1.1.2;
    })
    (λ (f : FitsL1 l1). (
      ((f.bwt_ext, f.s2, f.s2_even), (f.guard, f.papr, f.l1_mod)),
      ((f.l1_cod, f.l1_fec, f.post_size), (f.pilot, f.symbols, f.regen)),
    ))
    (decide_both
    (decide_both
    (decide_three (dec_lt l1.bwt_ext (2 ^ 1)) (dec_lt l1.s2 (2 ^ 4)) (ℕ_discrete (l1.s2 % 2) 0))
    (decide_three (dec_lt l1.guard (2 ^ 3)) (dec_lt l1.papr (2 ^ 4)) (dec_lt l1.l1_mod (2 ^ 4))))
    (decide_both
    (decide_three (dec_lt l1.l1_cod (2 ^ 2)) (dec_lt l1.l1_fec (2 ^ 2)) (dec_lt l1.post_size (2 ^ 18)))
    (decide_three (dec_lt l1.pilot (2 ^ 4)) (dec_lt l1.symbols (2 ^ 12)) (dec_lt l1.regen (2 ^ 3)))))

-- whether a PLP is common, and of which group
decide_common : (plp_type : PlpType) → Dec (plp_type ≡ Common)
decide_common Common = yes refl
decide_common Type1 = no (λ h. let e = ap type_number h in omega (arith, e))
decide_common Type2 = no (λ h. let e = ap type_number h in omega (arith, e))

decide_common_of : (c : Config) (group place : ℕ) → Dec (IsCommonOf c group place)
decide_common_of c group place =
    decide_both (decide_common (plp_at c.plps place).plp_type) (ℕ_discrete (plp_at c.plps place).group group)

decide_in_step : (a b : Plp) → Dec (IsInStep a b)
decide_in_step a b = decide_both (ℕ_discrete a.bits_per_second b.bits_per_second) (ℕ_discrete a.spread b.spread)

-- whether another PLP is in a PLP's group
abbrev IsOther : Config → ℕ → ℕ → Type 0
IsOther c place other = (other ≢ place) × ((plp_at c.plps other).group ≡ (plp_at c.plps place).group)

is_other : (c : Config) (place other : ℕ) → (¬ (IsOther c place other)) ⊎ IsOther c place other
is_other c place other =
    elim (as_sum (decide_both (decide_not (ℕ_discrete other place))
    (ℕ_discrete (plp_at c.plps other).group (plp_at c.plps place).group))) [
      | inl is ↦ inr is
      | inr not ↦ inl not
    ]

decide_company : (c : Config) (place : ℕ) → Dec (HasCompany c place)
decide_company c place =
    elim (first_other (λ other. ¬ (IsOther c place other)) (IsOther c place) (is_other c place) (length c.plps)) [
      | inl none ↦ no (λ h. none h.0 h.1 (h.2, h.3))
      | inr found ↦ yes (found.0, found.1, found.2.0, found.2.1)
    ]

decide_place : (rule : Rule) (c : Config) (place : ℕ) → Dec (PlaceHolds rule c place)
decide_place DistinctIds c place =
    decide_below _ (λ earlier. decide_not (ℕ_discrete (plp_at c.plps earlier).id (plp_at c.plps place).id)) place
decide_place TypeOrder c place =
    decide_below _ (λ earlier. dec_le (type_number (plp_at c.plps earlier).plp_type)
    (type_number (plp_at c.plps place).plp_type))
    place
decide_place BlockLimit c place =
    decide_both (dec_le 1 (plp_at c.plps place).blocks) (dec_le (plp_at c.plps place).blocks MOST_BLOCKS)
decide_place InterleaverLength c place = dec_le (plp_at c.plps place).interleave (min (plp_at c.plps place).blocks 255)
decide_place BitRate c place = decide_both (dec_le 1 (plp_at c.plps place).bits_per_second)
    (dec_le (plp_at c.plps place).bits_per_second 72000000)
decide_place SpreadDivides c place = decide_both (dec_le 1 (spread c.plps place))
    (ℕ_discrete (c.frames % spread c.plps place) 0)
decide_place SpreadLength c place =
    decide_if (dec_lt 1 (spread c.plps place)) (ℕ_discrete (plp_at c.plps place).interleave 1)
decide_place EpochDuration c place = dec_lt (epoch_ticks c place) ISCR_TICKS
decide_place OneCommon c place = decide_if (decide_common (plp_at c.plps place).plp_type)
    (decide_below _ (λ earlier. decide_not (decide_common_of c (plp_at c.plps place).group earlier)) place)
decide_place CommonRate c place = decide_below _
    (λ common. decide_if (decide_common_of c (plp_at c.plps place).group common)
    (decide_in_step (plp_at c.plps place) (plp_at c.plps common))) (length c.plps)
decide_place CommonShared c place = decide_if (decide_common (plp_at c.plps place).plp_type) (decide_company c place)
decide_place FrameDuration c place = yes tt
decide_place SuperframeLength c place = yes tt
decide_place LeastCells c place = yes tt
decide_place StartTime c place = yes tt
decide_place UtcOffset c place = yes tt
decide_place PidRange c place = yes tt
decide_place L1Fields c place = yes tt
decide_place SubSlices c place = yes tt
decide_place PlpCount c place = yes tt

decide_rule : (rule : Rule) (c : Config) → Dec (RuleHolds rule c)
decide_rule FrameDuration c = decide_both (dec_le 1000 c.ticks) (dec_le c.ticks (greatest_ticks c.band))
decide_rule SuperframeLength c = decide_both (dec_le 2 c.frames) (dec_le c.frames 255)
decide_rule LeastCells c = dec_le 2025 c.cells
decide_rule StartTime c = decide_three (dec_le 1 c.seconds) (dec_le c.seconds (2 ^ 39))
    (dec_lt c.subseconds (subseconds_per_second c.band))
decide_rule UtcOffset c = dec_lt c.utco 8192
decide_rule PidRange c = decide_both (dec_le 16 c.pid) (dec_le c.pid 8190)
decide_rule L1Fields c = decide_l1 c.l1
decide_rule SubSlices c = decide_case (has_type2 c.plps) (decide_both (dec_le 2 c.sub_slices)
    (dec_le c.sub_slices 6480))
    (ℕ_discrete c.sub_slices 1)
decide_rule PlpCount c = decide_both (dec_le 1 (length c.plps)) (dec_le (length c.plps) 255)
decide_rule DistinctIds c = decide_below _ (decide_place DistinctIds c) (length c.plps)
decide_rule TypeOrder c = decide_below _ (decide_place TypeOrder c) (length c.plps)
decide_rule BlockLimit c = decide_below _ (decide_place BlockLimit c) (length c.plps)
decide_rule InterleaverLength c = decide_below _ (decide_place InterleaverLength c) (length c.plps)
decide_rule BitRate c = decide_below _ (decide_place BitRate c) (length c.plps)
decide_rule SpreadDivides c = decide_below _ (decide_place SpreadDivides c) (length c.plps)
decide_rule SpreadLength c = decide_below _ (decide_place SpreadLength c) (length c.plps)
decide_rule EpochDuration c = decide_below _ (decide_place EpochDuration c) (length c.plps)
decide_rule OneCommon c = decide_below _ (decide_place OneCommon c) (length c.plps)
decide_rule CommonRate c = decide_below _ (decide_place CommonRate c) (length c.plps)
decide_rule CommonShared c = decide_below _ (decide_place CommonShared c) (length c.plps)

abbrev Refused : Config → Type 0
Refused c = (fault : ConfigFault) × Refuses c fault

-- the refusal for a rule of the network
refused_network : (c : Config) (rule : Rule) → rule_number rule < 10 → ¬ (RuleHolds rule c)
    → RulesBelow (rule_number rule) c
    → Refused c
refused_network c rule early fails lower = (
  record { rule = rule_number rule; plp = None },
  record {
    rule = rule;
    number = refl;
    fails = fails;
    lower = lower;
    place = rw (lt-leb 10 (rule_number rule) early)
        refl;
  },
)

-- the refusal for a rule of the PLPs
refused_plp : (c : Config) (rule : Rule) → 10 ≤ rule_number rule
    → (RuleHolds rule c → HoldsBelow (PlaceHolds rule c) (length c.plps))
    → (HoldsBelow (PlaceHolds rule c) (length c.plps) → RuleHolds rule c)
    → ¬ (RuleHolds rule c) → RulesBelow (rule_number rule) c → Refused c
refused_plp c rule late whole parts fails lower =
    elim (first_failure (PlaceHolds rule c) (decide_place rule c) (length c.plps)) [
      | inl all ↦ absurd (fails (parts all))
      | inr found ↦ (
        record { rule = rule_number rule; plp = Some found.0 },
        refused_at c rule found.0 late whole lower (record { inside = found.1; fails = found.2; before = found.3 }),
      )
    ]

refused_by : (c : Config) (rule : Rule) → ¬ (RuleHolds rule c) → RulesBelow (rule_number rule) c → Refused c
refused_by c FrameDuration fails lower = refused_network c FrameDuration (omega arith) fails lower
refused_by c SuperframeLength fails lower = refused_network c SuperframeLength (omega arith) fails lower
refused_by c LeastCells fails lower = refused_network c LeastCells (omega arith) fails lower
refused_by c StartTime fails lower = refused_network c StartTime (omega arith) fails lower
refused_by c UtcOffset fails lower = refused_network c UtcOffset (omega arith) fails lower
refused_by c PidRange fails lower = refused_network c PidRange (omega arith) fails lower
refused_by c L1Fields fails lower = refused_network c L1Fields (omega arith) fails lower
refused_by c SubSlices fails lower = refused_network c SubSlices (omega arith) fails lower
refused_by c PlpCount fails lower = refused_network c PlpCount (omega arith) fails lower
refused_by c DistinctIds fails lower = refused_plp c DistinctIds (omega arith) (λ h. h) (λ h. h) fails lower
refused_by c TypeOrder fails lower = refused_plp c TypeOrder (omega arith) (λ h. h) (λ h. h) fails lower
refused_by c BlockLimit fails lower = refused_plp c BlockLimit (omega arith) (λ h. h) (λ h. h) fails lower
refused_by c InterleaverLength fails lower = refused_plp c InterleaverLength (omega arith) (λ h. h) (λ h. h) fails lower
refused_by c BitRate fails lower = refused_plp c BitRate (omega arith) (λ h. h) (λ h. h) fails lower
refused_by c SpreadDivides fails lower = refused_plp c SpreadDivides (omega arith) (λ h. h) (λ h. h) fails lower
refused_by c SpreadLength fails lower = refused_plp c SpreadLength (omega arith) (λ h. h) (λ h. h) fails lower
refused_by c EpochDuration fails lower = refused_plp c EpochDuration (omega arith) (λ h. h) (λ h. h) fails lower
refused_by c OneCommon fails lower = refused_plp c OneCommon (omega arith) (λ h. h) (λ h. h) fails lower
refused_by c CommonRate fails lower = refused_plp c CommonRate (omega arith) (λ h. h) (λ h. h) fails lower
refused_by c CommonShared fails lower = refused_plp c CommonShared (omega arith) (λ h. h) (λ h. h) fails lower

-- the rule at a place is so, for each place
abbrev HoldsAt : Config → ℕ → Type 0
HoldsAt c place = RuleHolds (rule_at (place + 1)) c

-- what is so at the place of a rule is so of the rule
holds_of : (c : Config) (rule : Rule) → HoldsAt c (rule_number rule - 1) → RuleHolds rule c
holds_of c rule h =
    let number : rule_number rule - 1 + 1 ≡ rule_number rule = omega (arith, rule_number-range rule) in
    subst (λ (r : Rule). RuleHolds r c) (ap rule_at number ∙ rule_at-rule_number rule) h

pub rules_decided : RulesDecided
rules_decided c =
    elim (first_failure (HoldsAt c) (λ place. decide_rule (rule_at (place + 1)) c) 20) [
      | inl all ↦ inl (λ rule. holds_of c rule (all (rule_number rule - 1) (omega (arith, rule_number-range rule))))
      | inr found ↦
          let number : rule_number (rule_at (found.0 + 1)) ≡ found.0 + 1 = rule_number-rule_at found.0 found.1 in
          inr (refused_by c (rule_at (found.0 + 1)) found.2
          (λ other lt.
          holds_of c other (found.3 (rule_number other - 1) (omega (arith, lt, number, rule_number-range other)))))
    ]
