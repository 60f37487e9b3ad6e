-- A packet comes to its place.
use Rattle.std.proofs.Common.{◌≡◌, ℕ, zero, suc, List, [], ◌∷◌, Option, Some, None, refl, ap, ◌∙◌, sym}
use Rattle.std.specs.Prelude.{slice_get, slice_set, is_none, true, false}
use Rattle.std.proofs.lemmas.Option.{none-some, same_Some}
use Rattle.std.proofs.lemmas.Bool.{both_ways}
use Rattle.plp_receiver.specs.Filling.{filled}

pub fill_none : (slots : List (Option (List ℕ))) (place : ℕ) (old : Option (List ℕ)) (packet : List ℕ)
    → Some old ≡ slice_get slots place → is_none old ≡ true → slice_set slots place (Some packet) ≡ filled
    slots place packet
fill_none [] place old packet e n = refl
fill_none (None ∷ slots) zero old packet e n = refl
fill_none (Some other ∷ slots) zero old packet e n =
    let q : is_none (Some other) ≡ true = sym (ap is_none (same_Some old (Some other) e))
    ∙ n in absurd (both_ways _ refl q)
fill_none (None ∷ slots) (suc place) old packet e n =
    ap (λ (l : List (Option (List ℕ))). None ∷ l) (fill_none slots place old packet e n)
fill_none (Some other ∷ slots) (suc place) old packet e n =
    ap (λ (l : List (Option (List ℕ))). Some other ∷ l) (fill_none slots place old packet e n)

pub fill_some : (slots : List (Option (List ℕ))) (place : ℕ) (old : Option (List ℕ)) (packet : List ℕ)
    → Some old ≡ slice_get slots place → is_none old ≡ false → slice_set slots place old ≡ filled slots place packet
fill_some [] place old packet e n = refl
fill_some (None ∷ slots) zero old packet e n =
    let none : Option (List ℕ) = None in
    let q : is_none none ≡ false = sym (ap is_none (same_Some old none e)) ∙ n in absurd (both_ways _ q refl)
fill_some (Some other ∷ slots) zero old packet e n = ap (λ (o : Option (List ℕ)). o ∷ slots)
    (same_Some old (Some other) e)
fill_some (None ∷ slots) (suc place) old packet e n =
    ap (λ (l : List (Option (List ℕ))). None ∷ l) (fill_some slots place old packet e n)
fill_some (Some other ∷ slots) (suc place) old packet e n =
    ap (λ (l : List (Option (List ℕ))). Some other ∷ l) (fill_some slots place old packet e n)

pub fill_past : (slots : List (Option (List ℕ))) (place : ℕ) (packet : List ℕ) → None ≡ slice_get slots place
    → slots ≡ filled slots place packet
fill_past [] place packet e = refl
fill_past (slot ∷ slots) zero packet e = absurd (none-some slot e)
fill_past (None ∷ slots) (suc place) packet e = ap (λ (l : List (Option (List ℕ))). None ∷ l)
    (fill_past slots place packet e)
fill_past (Some other ∷ slots) (suc place) packet e =
    ap (λ (l : List (Option (List ℕ))). Some other ∷ l) (fill_past slots place packet e)
