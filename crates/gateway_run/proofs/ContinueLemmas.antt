-- What continues what came of inputs.
use Rattle.std.proofs.Common.{◌≡◌, ℕ, false, List, [], ◌∷◌, ◌++◌, sym, subst, inl, inr}
use Rattle.std.proofs.lemmas.Bool.{cases_eq}
use Rattle.plp_config.specs.declared.config.Config.{Config}
use Rattle.common_plp.specs.Inputs.{place_of}
use Rattle.common_plp.specs.Sharing.{Sharing}
use Rattle.gateway_core.specs.Events.{Event, Offered, Ended, Begun, has_ended}
use Rattle.gateway_core.specs.InputSoFar.{Told, told, Continues}
use Rattle.gateway_core.proofs.HoldsLemmas.{cont_packet, cont_end, other_offered, other_ended}
use Rattle.gateway_core.proofs.InputsLemmas.{told_offered, told_ended, told_begun, cont_next}
use Rattle.gateway_run.specs.Inputs.{Continue}

module _ (way : Sharing) where
  pub back_offered : (c : Config) (events : List Event) (plp : ℕ) (packet : List ℕ) (all : ℕ → List (List ℕ))
      → has_ended plp events ≡ false → Continue way c (events ++ Offered plp packet ∷ []) all
      → Continue way c events all
  back_offered c events plp packet all off h = λ k lt.
      elim (cases_eq (place_of way c k) plp) [
        | inl same ↦ subst (λ (p : ℕ). Continues (told p (events ++ Offered plp packet ∷ [])) (all k)
            → Continues (told p events) (all k)) (sym same)
            (λ x. cont_packet (told plp events) packet (all k) off
            (subst (λ (t : Told). Continues t (all k)) (told_offered plp events packet) x)) (h k lt)
        | inr differ ↦ subst (λ (t : Told). Continues t (all k)) (other_offered (place_of way c k) plp
            events packet differ) (h k lt)
      ]

  pub back_ended : (c : Config) (events : List Event) (plp : ℕ) (all : ℕ → List (List ℕ))
      → Continue way c (events ++ Ended plp ∷ []) all → Continue way c events all
  back_ended c events plp all h = λ k lt.
      elim (cases_eq (place_of way c k) plp) [
        | inl same ↦ subst (λ (p : ℕ). Continues (told p (events ++ Ended plp ∷ [])) (all k)
            → Continues (told p events) (all k))
            (sym same)
            (λ x. cont_end (told plp events) (all k) (subst (λ (t : Told). Continues t (all k)) (told_ended plp events)
            x))
            (h k lt)
        | inr differ ↦ subst (λ (t : Told). Continues t (all k)) (other_ended (place_of way c k) plp events differ)
            (h k lt)
      ]

  pub back_same : (c : Config) (events : List Event) (e : Event) (all : ℕ → List (List ℕ))
      → ((j : ℕ) → told j (events ++ e ∷ []) ≡ told j events) → Continue way c (events ++ e ∷ []) all
      → Continue way c events all
  back_same c events e all same h = λ k lt. subst (λ (t : Told). Continues t (all k)) (same (place_of way c k)) (h k lt)

  pub back_begun : (c : Config) (events : List Event) (all : ℕ → List (List ℕ))
      → Continue way c (events ++ Begun ∷ []) all
      → Continue way c events all
  back_begun c events all h = λ k lt.
      cont_next (told (place_of way c k) events) (all k)
      (subst (λ (t : Told). Continues t (all k)) (told_begun (place_of way c k) events) (h k lt))
