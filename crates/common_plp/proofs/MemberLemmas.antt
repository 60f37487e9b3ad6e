-- What the streams of a group share, each of them has; so each comes together again.
use Rattle.std.proofs.Common.{◌≡◌, ℕ, ◌&&◌, not, inl, inr, Bool, true, false, List, [], ◌∷◌, map, Option, Some, None}
use Rattle.std.proofs.Common.{refl, ap, sym, subst}
use Rattle.std.specs.Prelude.{slice_get, is_some, unwrap_or, if◌then◌else◌}
use Rattle.std.specs.List.{list_all}
use Rattle.std.proofs.lemmas.Option.{cond_some}
use Rattle.std.proofs.lemmas.Slice.Eq.{bytes_eq-Decides}
use Rattle.std.proofs.lemmas.Bool.{and_parts}
use Rattle.terms.proofs.OptionLemmas.{none_some}
use Rattle.ts_packet.specs.Null.{is_null, null_packet}
use Rattle.ts_packet.proofs.WritingLemmas.{canonical_null}
use Rattle.common_plp.specs.Shared.{is_packet, shared_packet, joined_packet}
use Rattle.common_plp.specs.Split.{slot_of}
use Rattle.common_plp.proofs.PlaceLemmas.{IsIn}

packet_is : (q : List ℕ) (o : Option (List ℕ)) → is_packet q o ≡ true → o ≡ Some q
packet_is q None e = absurd (let f : false ≡ true = e in cc)
packet_is q (Some other) e = ap (λ (p : List ℕ). Some p) (sym ((bytes_eq-Decides q other).0 e))

all_have : (q : List ℕ) (inputs : ℕ → List (List ℕ)) (places : List ℕ) (place k : ℕ) → IsIn place places
    → list_all (is_packet q) (slot_of (map inputs places) k) ≡ true → slice_get (inputs place) k ≡ Some q
all_have q inputs [] place k is all = absurd is
all_have q inputs (other ∷ places) place k (inl same) all =
    subst (λ (p : ℕ). slice_get (inputs p) k ≡ Some q) same
    (packet_is q (slice_get (inputs other) k) (and_parts _ (list_all (is_packet q) (slot_of (map inputs places) k))
    all).0)
all_have q inputs (other ∷ places) place k (inr later) all =
    all_have q inputs places place k later (and_parts (is_packet q (slice_get (inputs other) k)) _ all).1

pub not_true : (b : Bool) → not b ≡ true → b ≡ false
not_true true e = sym e
not_true false e = refl

-- the first stream has what is shared, which is not null, and so do the others
pub first_has : (o : Option (List ℕ)) (others : List (Option (List ℕ))) (q : List ℕ)
    → shared_packet (o ∷ others) ≡ Some q
    → (o ≡ Some q) × (is_null q ≡ false) × (list_all (is_packet q) others ≡ true)
first_has None others q e = none_some q e
first_has (Some p) others q e =
    let c = cond_some (not (is_null p) && list_all (is_packet p) others) p q e in
    let b = and_parts (not (is_null p)) (list_all (is_packet p) others) c.0 in (
      ap (λ (x : List ℕ). Some x) c.1,
      not_true (is_null q) (subst (λ (x : List ℕ). not (is_null x) ≡ true) c.1 b.0),
      subst (λ (x : List ℕ). list_all (is_packet x) others ≡ true) c.1 b.1,
    )

pub members_have : (inputs : ℕ → List (List ℕ)) (places : List ℕ) (place k : ℕ) (q : List ℕ) → IsIn place places
    → shared_packet (slot_of (map inputs places) k) ≡ Some q → (slice_get (inputs place) k ≡ Some q)
    × (is_null q ≡ false)
members_have inputs [] place k q is e = absurd is
members_have inputs (other ∷ places) place k q (inl same) e =
    let f = first_has (slice_get (inputs other) k) (slot_of (map inputs places) k) q e in
    (subst (λ (p : ℕ). slice_get (inputs p) k ≡ Some q) same f.0, f.1)
members_have inputs (other ∷ places) place k q (inr later) e =
    let f = first_has (slice_get (inputs other) k) (slot_of (map inputs places) k) q e in
    (all_have q inputs places place k later f.2, f.1)

-- ---- together again

null_is_null : is_null null_packet ≡ true
null_is_null = canonical_null.0

-- a packet that is not shared stays
stays : (p : List ℕ) (b : Bool) → is_null p ≡ b → joined_packet null_packet p ≡ (if b then null_packet else p)
stays p true e = rw (e, null_is_null) refl
stays p false e = rw e refl

-- and one that is comes from the common PLP
comes : (q p : List ℕ) → p ≡ q → is_null q ≡ false
    → joined_packet q null_packet ≡ (if is_null p then null_packet else p)
comes q p same some = rw same (rw (null_is_null, some) refl)

pub again : (slot : Option (List ℕ)) (p : List ℕ) → ((q : List ℕ) → slot ≡ Some q → (p ≡ q) × (is_null q ≡ false))
    → joined_packet (unwrap_or slot null_packet) (if is_some slot then null_packet else p)
    ≡ (if is_null p then null_packet else p)
again None p has = stays p (is_null p) refl
again (Some q) p has = let h = has q refl in comes q p h.0 h.1
