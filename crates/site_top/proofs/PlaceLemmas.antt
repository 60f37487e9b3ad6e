-- A PLP has an identifier, or none has it.
use Rattle.std.proofs.Common.{◌≡◌, ◌⊎◌, ℕ, inl, inr, length}
use Rattle.std.proofs.lemmas.Bool.{cases_eq}
use Rattle.terms.proofs.DecisionLemmas.{first_other}
use Rattle.terms.proofs.OptionLemmas.{none_some}
use Rattle.common_plp.specs.Sharing.{Sharing, Apart, Joint, joined_with, IsPlaceBy, HasNoPlaceBy}
use Rattle.common_plp.proofs.OwnLemmas.{own_or_none}
use Rattle.plp_receiver.specs.JoinedBack.{MayJoin}
use Rattle.plp_config.specs.Places.{IsPlace, HasNoPlace}
use Rattle.plp_config.specs.Plps.{plp_at}
use Rattle.plp_config.specs.Rules.{AllRules}
use Rattle.plp_config.specs.declared.config.Config.{Config}
use Rattle.plp_config.proofs.PlaceLemmas.{place_is}

same_or_not : (a b : ℕ) → ¬ (a ≡ b) ⊎ (a ≡ b)
same_or_not a b = elim (cases_eq a b) [ inl same ↦ inr same | inr differ ↦ inl differ ]

pub has_place : (c : Config) → AllRules c → (id : ℕ) → HasNoPlace c id ⊎ ((plp : ℕ) × IsPlace c id plp)
has_place c rules id =
    elim (first_other (λ k. ¬ ((plp_at c.plps k).id ≡ id)) (λ k. (plp_at c.plps k).id ≡ id)
    (λ k. same_or_not (plp_at c.plps k).id id) (length c.plps)) [
      | inl none ↦ inl none
      | inr found ↦ inr (found.0, place_is c rules id found.0 found.1 found.2)
    ]

-- ---- by how common PLPs are used

pub place_by : (sharing : Sharing) (c : Config) (id plp : ℕ) → IsPlaceBy sharing c id plp → IsPlace c id plp
place_by Apart c id plp at = at
place_by Joint c id plp at = at.place

pub never_by : (sharing : Sharing) (c : Config) (id plp : ℕ) → HasNoPlaceBy sharing c id → IsPlaceBy sharing c id plp
    → ⊥
never_by Apart c id plp none at = none plp at.inside at.own
never_by Joint c id plp none at = none plp at.place.inside at.own at.place.own

pub has_place_by : (sharing : Sharing) (c : Config) → AllRules c → (id : ℕ) → HasNoPlaceBy sharing c id
    ⊎ ((plp : ℕ) × IsPlaceBy sharing c id plp)
has_place_by Apart c rules id = has_place c rules id
has_place_by Joint c rules id = own_or_none c id (has_place c rules id)

pub may_join : (sharing : Sharing) (c : Config) (plp : ℕ) → MayJoin c plp (joined_with sharing c plp)
may_join Apart c plp common e = none_some common e
may_join Joint c plp common e = e
