-- Each text gives something.
use Rattle.std.proofs.Common.{◌⊎◌, ℕ, List, inl, inr}
use Rattle.std.specs.Prelude.{Ok, Err}
use Rattle.plp_config.specs.Laws.{RulesDecided, TestsDecided}
use Rattle.plp_config.specs.declared.config.Config.{Config}
use Rattle.config_text.specs.ConfigText.{Spells, Refuses}
use Rattle.config_text.specs.declared.fault.TextWhy.{TextWhy}
use Rattle.file_run.specs.ConfigLaws.{ConfigEnds, PlanEnds}
use Rattle.file_run.specs.declared.config_stop.ConfigCause.TheVariants.{Text, Rule}
use Rattle.file_run.specs.declared.config_stop.ConfigStop.TheVariants.{Refused, Lacks}

-- each text spells a configuration or is refused
abbrev pub TextsDecided : Type 0
TextsDecided = (text : List ℕ) → ((c : Config) × Spells text c) ⊎ ((line : ℕ) × (why : TextWhy) × Refuses text line why)

pub config_ends : TextsDecided → RulesDecided → ConfigEnds
config_ends texts rules text =
    elim (texts text) [
      | inl spells ↦ elim (rules spells.0) [
        | inl all ↦ (Ok spells.0, (spells.1, all))
        | inr fault ↦ (Err (Refused (Rule fault.0.rule fault.0.plp)), (spells.0, spells.1, fault.1))
      ]
      | inr why ↦ (Err (Refused (Text why.0 why.1)), why.2)
    ]

pub plan_ends : TextsDecided → RulesDecided → TestsDecided → PlanEnds
plan_ends texts rules tests text =
    elim (texts text) [
      | inl spells ↦ elim (rules spells.0) [
        | inl all ↦ elim (tests spells.0) [
          | inl fits ↦ (Ok spells.0, (spells.1, record { rules = all; tests = fits }))
          | inr lack ↦ (Err (Lacks lack.0), (spells.0, spells.1, all, lack.1))
        ]
        | inr fault ↦ (Err (Refused (Rule fault.0.rule fault.0.plp)), (spells.0, spells.1, fault.1))
      ]
      | inr why ↦ (Err (Refused (Text why.0 why.1)), why.2)
    ]
