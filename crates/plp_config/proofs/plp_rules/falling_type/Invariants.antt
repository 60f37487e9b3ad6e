use Rattle.std.proofs.Common.{◌≡◌, ℕ, ◌<◌, ◌≤◌, ◌⊎◌}
use Rattle.plp_config.specs.FirstFailure.{HoldsBelow}
use Rattle.plp_config.specs.Plps.{plp_at, type_number}
use Rattle.plp_config.specs.Rules.{PlaceHolds, TypeOrder}
use Rattle.plp_config.proofs.plp_rules.falling_type.Given as goal

-- `last` is the greatest type so far
abbrev pub invariant-loop-place : goal.invariant-loop-place
invariant-loop-place l = record {
  items : l.plp-items ≡ l.config.plps;
  holds : HoldsBelow (PlaceHolds TypeOrder l.config) l.place;
  greatest : HoldsBelow (λ earlier. type_number (plp_at l.config.plps earlier).plp_type ≤ l.last) l.place;
  reached : (l.last ≡ 0) ⊎ ((earlier : ℕ) × (earlier < l.place)
      × (type_number (plp_at l.config.plps earlier).plp_type ≡ l.last));
}
