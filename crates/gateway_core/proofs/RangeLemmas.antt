-- Tests and lists over the places below a number.
use Rattle.std.proofs.Common.{◌≡◌, ℕ, ◌+◌, ◌<◌, Bool, true, false, cond, List, [], ◌∷◌, ◌++◌, map}
use Rattle.std.proofs.Common.{length, refl, ap, sym, ◌∙◌, arith, append-nil}
use Rattle.std.specs.Prelude.{filter}
use Rattle.std.specs.declared.option.Option.{Option}
use Rattle.std.specs.List.{flat_map, list_any, range_with_len}
use Rattle.std.proofs.lemmas.Grind.{flat_map-append}
use Rattle.std.proofs.lemmas.Bool.{true≢false, false_from_ne_true}
use Rattle.std.proofs.lemmas.List.Folds.{list_any-append}
use Rattle.terms.proofs.ListLemmas.{one_in}
use Rattle.terms.proofs.RangeLemmas.{places_more}
use Rattle.plp_config.specs.declared.config.Config.{Config}
use Rattle.common_plp.specs.Groups.{is_common, group_of, is_own_in}
use Rattle.gateway_core.specs.Slots.{held_at, seen_of, slot_in}

pub flat_more : {X : Type 0} (f : ℕ → List X) (n : ℕ) → flat_map f (range_with_len 0 (n + 1)) ≡ flat_map
    f (range_with_len 0 n) ++ f n
flat_more f n =
    ap (flat_map f) (places_more n) ∙ flat_map-append f (range_with_len 0 n) (n ∷ [])
    ∙ ap (λ l. flat_map f (range_with_len 0 n) ++ l) (append-nil (f n))

pub any_more : (test : ℕ → Bool) (n : ℕ) → list_any test (range_with_len 0 n) ≡ false → test n ≡ false
    → list_any test (range_with_len 0 (n + 1)) ≡ false
any_more test n before here =
    ap (list_any test) (places_more n) ∙ list_any-append test (range_with_len 0 n) (n ∷ []) ∙ rw (before, here) refl

pub any_found : (test : ℕ → Bool) (k n : ℕ) → k < n → test k ≡ true → list_any test (range_with_len 0 n) ≡ true
any_found test k n below here = one_in test 0 n k (omega arith) (omega (arith, below)) here

-- ---- what is seen of a group

kept_seen : (c : Config) (held : List (Option (List ℕ))) (turn : ℕ) → is_common c turn ≡ true → (places : List ℕ)
    → flat_map (seen_of c held turn) places ≡ map (held_at held) (filter (is_own_in c (group_of c turn)) places)
kept_seen c held turn common [] = refl
kept_seen c held turn common (place ∷ places) =
    rw common (one (is_own_in c (group_of c turn) place) (kept_seen c held turn common places))
  where
    one : (b : Bool) → flat_map (seen_of c held turn) places ≡ map (held_at held)
        (filter (is_own_in c (group_of c turn)) places)
        → cond b (held_at held place ∷ []) [] ++ flat_map (seen_of c held turn) places
        ≡ map (held_at held) (cond b (place ∷ filter (is_own_in c (group_of c turn)) places)
        (filter (is_own_in c (group_of c turn)) places))
    one true e = ap (λ l. held_at held place ∷ l) e
    one false e = e

pub seen_slot : (c : Config) (held : List (Option (List ℕ))) (turn : ℕ) → is_common c turn ≡ true
    → flat_map (seen_of c held turn) (range_with_len 0 (length c.plps)) ≡ slot_in c held turn
seen_slot c held turn common = kept_seen c held turn common (range_with_len 0 (length c.plps))

-- where none passes, each fails
pub not_found : (test : ℕ → Bool) (k n : ℕ) → k < n → list_any test (range_with_len 0 n) ≡ false → test k ≡ false
not_found test k n below none =
    false_from_ne_true (test k) (λ here. true≢false (sym (any_found test k n below here) ∙ none))
