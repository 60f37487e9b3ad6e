-- The PLPs of inputs.
use Rattle.std.proofs.Common.{◌≡◌, ℕ, zero, suc, ◌+◌, ◌<◌, ◌≤◌, Bool, true, false, List, [], ◌∷◌, length, inl, inr, sym}
use Rattle.std.proofs.Common.{subst, ◌∙◌, arith}
use Rattle.std.specs.Prelude.{if◌then◌else◌}
use Rattle.std.proofs.lemmas.Bool.{cases_lt, true≢false}
use Rattle.terms.proofs.CaseLemmas.{bool_cases}
use Rattle.plp_config.specs.Plps.{plp_at, type_number}
use Rattle.plp_config.specs.Rules.{AllRules}
use Rattle.plp_config.specs.Rules.Rule.{TypeOrder}
use Rattle.plp_config.specs.declared.config.Config.{Config}
use Rattle.plp_config.specs.declared.plp.Plp.{Plp}
use Rattle.plp_config.specs.declared.plp.PlpType.{PlpType}
use Rattle.plp_config.specs.declared.plp.PlpType.TheVariants.{Common, Type1, Type2}
use Rattle.common_plp.specs.Groups.{is_common_type, is_common}
use Rattle.common_plp.specs.Inputs.{commons, place_of, input_count}
use Rattle.common_plp.specs.Sharing.{Sharing, Apart, Joint}

pub commons_few : (plps : List Plp) → commons plps ≤ length plps
commons_few [] = omega arith
commons_few (p ∷ plps) =
    bool_cases (is_common_type p.plp_type) (λ on. rw on (let few = commons_few plps in omega (arith, few)))
    (λ off. rw off (omega arith))

-- those before are common
common_more : (p : Plp) (plps : List Plp) (at : ℕ) → is_common_type p.plp_type ≡ true
    → ((place : ℕ) → place < commons plps → is_common_type (plp_at plps place).plp_type ≡ true)
    → at < commons (p ∷ plps)
    → is_common_type (plp_at (p ∷ plps) at).plp_type ≡ true
common_more p plps zero on rest less = on
common_more p plps (suc at) on rest less =
    let z : suc at < commons plps + 1 = subst (λ (b : Bool). suc at < (if b then commons plps + 1 else 0)) on less in
    rest at (omega (arith, z))

never_common : (p : Plp) (plps : List Plp) (at : ℕ) → is_common_type p.plp_type ≡ false → at < commons (p ∷ plps) → ⊥
never_common p plps at off less =
    let z : at < 0 = subst (λ (b : Bool). at < (if b then commons plps + 1 else 0)) off less in absurd
    (omega (arith, z))

commons_are : (plps : List Plp) (place : ℕ) → place < commons plps → is_common_type (plp_at plps place).plp_type ≡ true
commons_are [] place lt = absurd (omega (arith, lt))
commons_are (p ∷ plps) place lt =
    bool_cases (is_common_type p.plp_type) (λ on. common_more p plps place on (commons_are plps) lt)
    (λ off. absurd (never_common p plps place off lt))

-- and the one behind them is not
own_more : (p : Plp) (plps : List Plp) → is_common_type p.plp_type ≡ true
    → (commons plps < length plps → is_common_type (plp_at plps (commons plps)).plp_type ≡ false)
    → commons (p ∷ plps) < length (p ∷ plps) → is_common_type (plp_at (p ∷ plps) (commons (p ∷ plps))).plp_type ≡ false
own_more p plps on rest lt =
    let less : commons plps + 1 < suc (length plps) =
    subst (λ (b : Bool). (if b then commons plps + 1 else 0) < suc (length plps)) on lt in
    let at : suc (commons plps) ≡ commons plps + 1 = omega arith in
    subst (λ (b : Bool). is_common_type (plp_at (p ∷ plps) (if b then commons plps + 1 else 0)).plp_type ≡ false)
    (sym on)
    (subst (λ (n : ℕ). is_common_type (plp_at (p ∷ plps) n).plp_type ≡ false) at (rest (omega (arith, less))))

own_here : (p : Plp) (plps : List Plp) → is_common_type p.plp_type ≡ false
    → is_common_type (plp_at (p ∷ plps) (commons (p ∷ plps))).plp_type ≡ false
own_here p plps off =
    subst (λ (b : Bool). is_common_type (plp_at (p ∷ plps) (if b then commons plps + 1 else 0)).plp_type ≡ false)
    (sym off) off

first_own : (plps : List Plp) → commons plps < length plps
    → is_common_type (plp_at plps (commons plps)).plp_type ≡ false
first_own [] lt = absurd (omega (arith, lt))
first_own (p ∷ plps) lt =
    bool_cases (is_common_type p.plp_type) (λ on. own_more p plps on (first_own plps) lt) (λ off. own_here p plps off)

-- by the number of a type
not_common : (t : PlpType) → 1 ≤ type_number t → is_common_type t ≡ false
not_common Common some = absurd (omega (arith, some))
not_common Type1 some = λ i. false
not_common Type2 some = λ i. false

some_number : (t : PlpType) → is_common_type t ≡ false → 1 ≤ type_number t
some_number Common off = absurd (true≢false off)
some_number Type1 off = omega arith
some_number Type2 off = omega arith

-- the PLPs behind the common ones are none
pub own_behind : (c : Config) (plp : ℕ) → AllRules c → plp < length c.plps → commons c.plps ≤ plp
    → is_common c plp ≡ false
own_behind c plp rules inside behind =
    elim (cases_lt (commons c.plps) plp) [
      | inl later ↦
          let least = some_number (plp_at c.plps (commons c.plps)).plp_type
          (first_own c.plps (omega (arith, inside, behind))) in
          let order = rules TypeOrder plp inside (commons c.plps) later in
          not_common (plp_at c.plps plp).plp_type (omega (arith, least, order))
      | inr le ↦
          let here : commons c.plps ≡ plp = omega (arith, behind, le) in
          subst (λ (k : ℕ). is_common c k ≡ false) here (first_own c.plps (omega (arith, here, inside)))
    ]

pub behind_own : (c : Config) (plp : ℕ) → is_common c plp ≡ false → commons c.plps ≤ plp
behind_own c plp own =
    elim (cases_lt plp (commons c.plps)) [
      | inl before ↦ absurd (true≢false (sym (commons_are c.plps plp before) ∙ own))
      | inr le ↦ le
    ]

-- ---- counting them

pub commons_on : (c : Config) (place : ℕ) → place < length c.plps → place ≤ commons c.plps → is_common c place ≡ true
    → place + 1 ≤ commons c.plps
commons_on c place inside le common =
    elim (cases_lt place (commons c.plps)) [
      | inl less ↦ omega (arith, less)
      | inr ge ↦
          let here : commons c.plps ≡ place = omega (arith, le, ge) in
          let own : is_common c place ≡ false =
          subst (λ (k : ℕ). is_common c k ≡ false) here (first_own c.plps (omega (arith, here, inside))) in
          absurd (true≢false (sym common ∙ own))
    ]

pub commons_here : (c : Config) (place : ℕ) → place ≤ commons c.plps → is_common c place ≡ false
    → place ≡ commons c.plps
commons_here c place le own = let ge = behind_own c place own in omega (arith, le, ge)

pub commons_all : (c : Config) (place : ℕ) → place ≤ commons c.plps → length c.plps ≤ place
    → length c.plps ≡ commons c.plps
commons_all c place le end = let few = commons_few c.plps in omega (arith, few, le, end)

-- ---- inputs and their PLPs

-- an input has a PLP
pub place_inside : (w : Sharing) (c : Config) (input : ℕ) → input < input_count w c → place_of w c input < length c.plps
place_inside Apart c input lt = lt
place_inside Joint c input lt = let few = commons_few c.plps in omega (arith, lt, few)

-- and no other has it
pub place_apart : (w : Sharing) (c : Config) (input other : ℕ) → place_of w c input ≡ place_of w c other → input ≡ other
place_apart Apart c input other e = e
place_apart Joint c input other e = omega (arith, e)

pub place_own : (c : Config) (input : ℕ) → AllRules c → input < input_count Joint c
    → is_common c (place_of Joint c input) ≡ false
place_own c input rules lt =
    let inside = place_inside Joint c input lt in own_behind c (place_of Joint c input) rules inside (omega arith)
