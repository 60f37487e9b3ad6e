-- Records whose numbers one may have, or not.
use Rattle.std.proofs.Common.{◌≡◌, ◌≢◌, ◌⊎◌, ℕ, ◌<◌, List, [], ◌∷◌, length, ap, sym, subst, inl, inr, arith}
use Rattle.std.proofs.lemmas.Bool.{cases_lt}
use Rattle.plp_config.specs.declared.config.Config.{Config}
use Rattle.plp_config.specs.declared.moment.TheConstants.{MOST_FRAMES}
use Rattle.frame_groups.specs.Modulated.{FrameRecord}
use Rattle.modulator.specs.StandsFor.{records_of}
use Rattle.feed_merge.specs.Fed.{AreEarly}

none_early : (records : List FrameRecord) → records ≡ [] → AreEarly records
none_early records e = subst AreEarly (sym e) tt

pub not_late : (c : Config) (files : ℕ → List ℕ) → ((input : ℕ) → input < 2 → AreEarly (records_of c (files input)))
    → (¬ (AreEarly (records_of c (files 0)))) ⊎ (¬ (AreEarly (records_of c (files 1)))) → ⊥
not_late c files early (inl late) = late (early 0 (omega arith))
not_late c files early (inr late) = late (early 1 (omega arith))

pub early_none : (c : Config) (files : ℕ → List ℕ) → ((input : ℕ) → input < 2 → records_of c (files input) ≡ [])
    → (input : ℕ) → input < 2 → AreEarly (records_of c (files input))
early_none c files none input lt = none_early (records_of c (files input)) (none input lt)

pub early_or_late : (xs : List FrameRecord) → AreEarly xs ⊎ (¬ (AreEarly xs))
early_or_late [] = inl tt
early_or_late (x ∷ xs) =
    elim (cases_lt x.number MOST_FRAMES) [
      | inl less ↦ elim (early_or_late xs) [
        | inl early ↦ inl (less, early)
        | inr late ↦ inr (λ all. late all.1)
      ]
      | inr more ↦ inr (λ all. let less = all.0 in absurd (omega (arith, less, more)))
    ]

pub some_is : (x : FrameRecord) (xs : List FrameRecord) → x ∷ xs ≢ []
some_is x xs e = absurd (let n = ap length e in omega (arith, n))
