-- What is seen of a slot with one stream more, and what it tells.
use Rattle.std.proofs.Common.{◌≡◌, ℕ, ◌&&◌, not, Bool, true, false, cond, List, [], ◌∷◌, ◌++◌, Option, Some, None, refl}
use Rattle.std.proofs.Common.{sym, ◌∙◌, ap}
use Rattle.std.specs.List.{list_all}
use Rattle.std.proofs.lemmas.List.Folds.{list_all-append}
use Rattle.ts_packet.specs.Null.{is_null}
use Rattle.common_plp.specs.Shared.{is_packet, shared_packet}
use Rattle.common_plp.specs.StandsFor.{seen_of, seen_shared}
use Rattle.common_plp.specs.declared.splitter.Seen.{Seen}
use Rattle.common_plp.specs.declared.splitter.Seen.TheVariants.{Nothing, Equal, Apart}

-- what was seen with one stream more
abbrev pub seen_next : Seen → Option (List ℕ) → Seen
seen_next Nothing None = Apart
seen_next Nothing (Some packet) = Equal packet
seen_next (Equal first) other = cond (is_packet first other) (Equal first) Apart
seen_next Apart other = Apart

equal_more : (first : List ℕ) (other : Option (List ℕ)) (all one : Bool) → is_packet first other ≡ one
    → cond (all && (one && true)) (Equal first) Apart ≡ seen_next (cond all (Equal first) Apart) other
equal_more first other true true e = ap (λ (b : Bool). cond b (Equal first) Apart) (sym e)
equal_more first other true false e = ap (λ (b : Bool). cond b (Equal first) Apart) (sym e)
equal_more first other false one e = refl

pub seen_more : (slot : List (Option (List ℕ))) (other : Option (List ℕ))
    → seen_of (slot ++ other ∷ []) ≡ seen_next (seen_of slot) other
seen_more [] None = refl
seen_more [] (Some packet) = refl
seen_more (None ∷ others) other = refl
seen_more (Some first ∷ others) other =
    ap (λ (b : Bool). cond b (Equal first) Apart) (list_all-append (is_packet first) others (other ∷ []))
    ∙ equal_more first other (list_all (is_packet first) others) (is_packet first other) refl

told : (packet : List ℕ) (all null : Bool) → is_null packet ≡ null
    → cond (not null && all) (Some packet) None ≡ seen_shared (cond all (Equal packet) Apart)
told packet true true e = ap (λ (b : Bool). cond b None (Some packet)) (sym e)
told packet true false e = ap (λ (b : Bool). cond b None (Some packet)) (sym e)
told packet false true e = refl
told packet false false e = refl

-- it tells the packet that is shared
pub shared_seen : (slot : List (Option (List ℕ))) → shared_packet slot ≡ seen_shared (seen_of slot)
shared_seen [] = refl
shared_seen (None ∷ others) = refl
shared_seen (Some packet ∷ others) = told packet (list_all (is_packet packet) others) (is_null packet) refl
