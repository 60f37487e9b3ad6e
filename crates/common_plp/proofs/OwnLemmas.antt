-- The place of a PLP that is not common.
use Rattle.std.proofs.Common.{◌≡◌, ◌⊎◌, ℕ, true, false, inl, inr, sym, subst, ◌∙◌}
use Rattle.std.proofs.lemmas.Bool.{cases_eq, cases_Bool, true≢false}
use Rattle.plp_config.specs.Places.{IsPlace, HasNoPlace}
use Rattle.plp_config.specs.declared.config.Config.{Config}
use Rattle.common_plp.specs.Groups.{is_common}
use Rattle.common_plp.specs.Places.{IsOwnPlace, HasNoOwnPlace}

pub none_own : (c : Config) (id : ℕ) → HasNoPlace c id → HasNoOwnPlace c id
none_own c id none = λ plp inside own. none plp inside

-- if the PLP that has it is common, none else has it
pub common_alone : (c : Config) (id plp : ℕ) → IsPlace c id plp → is_common c plp ≡ true → HasNoOwnPlace c id
common_alone c id plp at common = λ other inside own.
    elim (cases_eq other plp) [
      | inl same ↦ absurd (true≢false (sym common ∙ subst (λ (k : ℕ). is_common c k ≡ false) same own))
      | inr differ ↦ at.others other inside differ
    ]

pub own_here : (c : Config) (id plp : ℕ) → IsPlace c id plp → is_common c plp ≡ false → IsOwnPlace c id plp
own_here c id plp at own = record { place = at; own = own }

-- there is one, or none
pub own_or_none : (c : Config) (id : ℕ) → HasNoPlace c id ⊎ ((plp : ℕ) × IsPlace c id plp)
    → HasNoOwnPlace c id ⊎ ((plp : ℕ) × IsOwnPlace c id plp)
own_or_none c id (inl none) = inl (none_own c id none)
own_or_none c id (inr (plp, at)) =
    elim (cases_Bool (is_common c plp)) [
      | inl common ↦ inl (common_alone c id plp at common)
      | inr own ↦ inr (plp, own_here c id plp at own)
    ]
