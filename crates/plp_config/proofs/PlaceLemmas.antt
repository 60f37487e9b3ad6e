-- The place of the PLP with an identifier.
use Rattle.std.proofs.Common.{◌≡◌, ◌≢◌, ℕ, ◌<◌, length, sym, ◌∙◌, ⊎_elim}
use Rattle.std.proofs.lemmas.Bool.{cases_order}
use Rattle.plp_config.specs.Places.{IsPlace}
use Rattle.plp_config.specs.Plps.{plp_at}
use Rattle.plp_config.specs.Rules.{AllRules}
use Rattle.plp_config.specs.Rules.Rule.{DistinctIds}
use Rattle.plp_config.specs.declared.config.Config.{Config}

-- no two PLPs have one identifier
apart : (c : Config) → AllRules c → (a b : ℕ) → a < b → b < length c.plps → (plp_at c.plps a).id ≢ (plp_at c.plps b).id
apart c rules a b less inside = rules DistinctIds b inside a less

pub place_is : (c : Config) → AllRules c → (id place : ℕ) → place < length c.plps → (plp_at c.plps place).id ≡ id
    → IsPlace c id place
place_is c rules id place inside own = record {
  inside = inside;
  own = own;
  others = λ plp within other same.
      ⊎_elim (λ (e : plp ≡ place). other e)
      (⊎_elim (λ (l : plp < place). apart c rules plp place l inside (same ∙ sym own))
      (λ (l : place < plp). apart c rules place plp l within (own ∙ sym same))) (cases_order plp place);
}
