-- The PLPs of a dynamic part, beside those of the plan.
use Rattle.std.proofs.Common.{◌≡◌, ◌≢◌, ℕ, zero, suc, ◌<◌, Bool, true, false, List, [], ◌∷◌, map, length, get_or, refl}
use Rattle.std.proofs.Common.{arith}
use Rattle.std.specs.Prelude.{nat_eq}
use Rattle.std.specs.Cmp.Lexicographic.{pointwise}
use Rattle.std.proofs.lemmas.Bool.{and_from, and_left, and_right, eq-eqb, ne_eqb}
use Rattle.plp_config.specs.Plps.{no_plp}
use Rattle.plp_config.specs.declared.plp.Plp.{Plp}
use Rattle.l1_signal.specs.L1Dynamic.{no_dyn_plp}
use Rattle.l1_signal.specs.declared.dyn_plp.DynPlp.{DynPlp}

abbrev same_ids : List DynPlp → List Plp → Bool
same_ids xs ys = pointwise nat_eq (map (λ plp. plp.plp_id) xs) (map (λ plp. plp.id) ys)

-- all are the same
pub ids_same : (xs : List DynPlp) (ys : List Plp) → length xs ≡ length ys
    → ((k : ℕ) → k < length ys → (get_or xs k no_dyn_plp).plp_id ≡ (get_or ys k no_plp).id) → same_ids xs ys ≡ true
ids_same [] [] e h = refl
ids_same [] (y ∷ ys) e h = absurd (omega (arith, e))
ids_same (x ∷ xs) [] e h = absurd (omega (arith, e))
ids_same (x ∷ xs) (y ∷ ys) e h =
    and_from (nat_eq x.plp_id y.id) (same_ids xs ys) (eq-eqb x.plp_id y.id (h 0 (omega arith)))
    (ids_same xs ys (omega (arith, e)) (λ k l. h (suc k) (omega (arith, l))))

-- two differ
pub ids_differ : (xs : List DynPlp) (ys : List Plp) (k : ℕ) → length xs ≡ length ys → k < length ys
    → (get_or xs k no_dyn_plp).plp_id ≢ (get_or ys k no_plp).id → same_ids xs ys ≡ false
ids_differ [] [] k e l h = absurd (omega (arith, l))
ids_differ [] (y ∷ ys) k e l h = absurd (omega (arith, e))
ids_differ (x ∷ xs) [] k e l h = absurd (omega (arith, e))
ids_differ (x ∷ xs) (y ∷ ys) zero e l h = and_left (nat_eq x.plp_id y.id) (same_ids xs ys) (ne_eqb x.plp_id y.id h)
ids_differ (x ∷ xs) (y ∷ ys) (suc k) e l h =
    and_right (nat_eq x.plp_id y.id) (same_ids xs ys) (ids_differ xs ys k (omega (arith, e)) (omega (arith, l)) h)
