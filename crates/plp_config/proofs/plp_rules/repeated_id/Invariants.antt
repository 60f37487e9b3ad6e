use Rattle.std.proofs.Common.{◌≡◌, ℕ, ◌<◌, true, false, get_or, length}
use Rattle.plp_config.specs.FirstFailure.{HoldsBelow}
use Rattle.plp_config.specs.Plps.{plp_at}
use Rattle.plp_config.specs.Rules.{PlaceHolds, DistinctIds}
use Rattle.plp_config.proofs.plp_rules.repeated_id.Given as goal

-- the identifiers that were seen are those of the PLPs so far
abbrev pub invariant-loop-place : goal.invariant-loop-place
invariant-loop-place l = record {
  items : l.plp-items ≡ l.config.plps;
  size : length l.seen ≡ 256;
  holds : HoldsBelow (PlaceHolds DistinctIds l.config) l.place;
  seen : HoldsBelow (λ earlier. get_or l.seen (plp_at l.config.plps earlier).id false ≡ true) l.place;
  only : (id : ℕ) → get_or l.seen id false ≡ true → (earlier : ℕ) × (earlier < l.place)
      × ((plp_at l.config.plps earlier).id ≡ id);
}
