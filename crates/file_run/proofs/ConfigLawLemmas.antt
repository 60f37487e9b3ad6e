-- A text gives one thing.
use Rattle.std.proofs.Common.{◌≡◌, ℕ, List, ap, subst}
use Rattle.std.specs.Prelude.{Ok, Err}
use Rattle.plp_config.specs.Capacity as capacity
use Rattle.plp_config.specs.Capacity.{AllTests}
use Rattle.plp_config.specs.Laws.{OneRuleFails, RefusalFails, OneTestFails, LackFails}
use Rattle.plp_config.specs.Rules as rules
use Rattle.plp_config.specs.Rules.{AllRules}
use Rattle.plp_config.specs.declared.capacity.CapacityFault.{CapacityFault}
use Rattle.plp_config.specs.declared.config.Config.{Config}
use Rattle.plp_config.specs.declared.rules.ConfigFault.{ConfigFault}
use Rattle.config_text.specs.ConfigText.{Spells, Refuses}
use Rattle.config_text.specs.declared.fault.TextWhy.{TextWhy}
use Rattle.file_run.specs.ConfigFile.{IsCause}
use Rattle.file_run.specs.ConfigLaws.{OneConfig, OnePlan}
use Rattle.file_run.specs.declared.config_stop.ConfigCause.{ConfigCause}
use Rattle.file_run.specs.declared.config_stop.ConfigCause.TheVariants.{Text, Rule}
use Rattle.file_run.specs.declared.config_stop.ConfigStop.TheVariants.{Refused, Lacks}

-- the laws of the crates below
pub record ConfigLaws : Type 0 where
  pub spelled : (text : List ℕ) (c d : Config) → Spells text c → Spells text d → c ≡ d
  pub accepted : (text : List ℕ) (c : Config) (line : ℕ) (why : TextWhy) → Spells text c → Refuses text line why → ⊥
  pub refused : (text : List ℕ) (line other : ℕ) (why reason : TextWhy) → Refuses text line why
      → Refuses text other reason
      → (line ≡ other) × (why ≡ reason)
  pub one_rule : OneRuleFails
  pub rules_fail : RefusalFails
  pub one_test : OneTestFails
  pub tests_fail : LackFails

cause_once : ConfigLaws → (text : List ℕ) (cause other : ConfigCause) → IsCause text cause → IsCause text other
    → cause ≡ other
cause_once l text (Text line why) (Text place reason) a b = let same = l.refused text line place why reason a b in
    λ i. Text (same.0 i) (same.1 i)
cause_once l text (Text line why) (Rule rule plp) a b = absurd (l.accepted text b.0 line why b.1 a)
cause_once l text (Rule rule plp) (Text line why) a b = absurd (l.accepted text a.0 line why a.1 b)
cause_once l text (Rule rule plp) (Rule number place) a b =
    let fault : ConfigFault = record { rule = rule; plp = plp } in
    let other : ConfigFault = record { rule = number; plp = place } in
    let same : fault ≡ other =
    l.one_rule b.0 fault other (subst (λ (c : Config). rules.Refuses c fault) (l.spelled text a.0 b.0 a.1 b.1) a.2)
    b.2 in
    ap (λ (f : ConfigFault). Rule f.rule f.plp) same

-- a text whose configuration satisfies the rules is not refused
no_cause : ConfigLaws → (text : List ℕ) (c : Config) (cause : ConfigCause) → Spells text c → AllRules c
    → IsCause text cause → ⊥
no_cause l text c (Text line why) s all b = l.accepted text c line why s b
no_cause l text c (Rule rule plp) s all b =
    l.rules_fail b.0 (record { rule = rule; plp = plp }) b.2 (subst AllRules (l.spelled text c b.0 s b.1) all)

-- a text whose configuration passes the capacity tests fails none
no_lack : ConfigLaws → (text : List ℕ) (c d : Config) (fault : CapacityFault) → Spells text c → AllTests c
    → Spells text d
    → capacity.Lacks d fault → ⊥
no_lack l text c d fault s tests t lacks = l.tests_fail d fault lacks (subst AllTests (l.spelled text c d s t) tests)

pub config_once : ConfigLaws → OneConfig
config_once l text (Ok c) (Ok d) a b = ap Ok (l.spelled text c d a.0 b.0)
config_once l text (Ok c) (Err (Refused cause)) a b = absurd (no_cause l text c cause a.0 a.1 b)
config_once l text (Err (Refused cause)) (Ok d) a b = absurd (no_cause l text d cause b.0 b.1 a)
config_once l text (Err (Refused cause)) (Err (Refused reason)) a b =
    ap (λ (x : ConfigCause). Err (Refused x)) (cause_once l text cause reason a b)
config_once l text (Ok c) (Err other) a b = absurd b
config_once l text (Err (Refused cause)) (Err other) a b = absurd b
config_once l text (Err stop) other a b = absurd a

pub plan_once : ConfigLaws → OnePlan
plan_once l text (Ok c) (Ok d) a b = ap Ok (l.spelled text c d a.0 b.0)
plan_once l text (Ok c) (Err (Refused cause)) a b = absurd (no_cause l text c cause a.0 a.1.rules b)
plan_once l text (Ok c) (Err (Lacks fault)) a b = absurd (no_lack l text c b.0 fault a.0 a.1.tests b.1 b.3)
plan_once l text (Err (Refused cause)) (Ok d) a b = absurd (no_cause l text d cause b.0 b.1.rules a)
plan_once l text (Err (Refused cause)) (Err (Refused reason)) a b =
    ap (λ (x : ConfigCause). Err (Refused x)) (cause_once l text cause reason a b)
plan_once l text (Err (Refused cause)) (Err (Lacks fault)) a b = absurd (no_cause l text b.0 cause b.1 b.2 a)
plan_once l text (Err (Lacks fault)) (Ok d) a b = absurd (no_lack l text d a.0 fault b.0 b.1.tests a.1 a.3)
plan_once l text (Err (Lacks fault)) (Err (Refused cause)) a b = absurd (no_cause l text a.0 cause a.1 a.2 b)
plan_once l text (Err (Lacks fault)) (Err (Lacks other)) a b =
    ap (λ (x : CapacityFault). Err (Lacks x))
    (l.one_test b.0 fault other (subst (λ (c : Config). capacity.Lacks c fault) (l.spelled text a.0 b.0 a.1 b.1) a.3)
    b.3)
plan_once l text (Ok c) (Err other) a b = absurd b
plan_once l text (Err (Refused cause)) (Err other) a b = absurd b
plan_once l text (Err (Lacks fault)) (Err other) a b = absurd b
plan_once l text (Err stop) other a b = absurd a
