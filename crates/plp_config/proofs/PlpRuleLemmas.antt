-- One PLP more has been looked at, in the loops over identifiers and over types.
use Rattle.std.proofs.Common.{◌≡◌, ℕ, ◌+◌, ◌<◌, ◌≤◌, Bool, true, false, List, length, get_or, set, sym, ap, ◌∙◌, arith}
use Rattle.std.proofs.Common.{inl, inr}
use Rattle.std.proofs.Common.{below_more, get_or-set_same, get_or-set_other}
use Rattle.std.proofs.lemmas.Bool.{cases_eq, cases_lt, false≢true}
use Rattle.std.proofs.lemmas.List.{get_or-replicate, length-replicate}
use Rattle.std.proofs.Math.ListN.{get_or-eq_default, replicate}
use Rattle.plp_config.specs.FirstFailure.{HoldsBelow}
use Rattle.plp_config.specs.Plps.{plp_at, type_number}
use Rattle.plp_config.specs.Rules.{PlaceHolds, TypeOrder, DistinctIds}
use Rattle.plp_config.specs.declared.config.Config.{Config}

-- a type that is no less than the greatest keeps the order
pub TypeOrder-more : (c : Config) (last now place : ℕ)
    → HoldsBelow (PlaceHolds TypeOrder c) place
    → HoldsBelow (λ earlier. type_number (plp_at c.plps earlier).plp_type ≤ last) place
    → now ≡ type_number (plp_at c.plps place).plp_type
    → last ≤ now
    → HoldsBelow (PlaceHolds TypeOrder c) (place + 1)
TypeOrder-more c last now place holds greatest is le =
    below_more (PlaceHolds TypeOrder c) place holds (λ earlier lt. omega (arith, greatest earlier lt, is))

-- and it is the greatest of all so far
pub greatest-more : (c : Config) (last now place : ℕ)
    → HoldsBelow (λ earlier. type_number (plp_at c.plps earlier).plp_type ≤ last) place
    → now ≡ type_number (plp_at c.plps place).plp_type
    → last ≤ now
    → HoldsBelow (λ earlier. type_number (plp_at c.plps earlier).plp_type ≤ now) (place + 1)
greatest-more c last now place greatest is le =
    below_more (λ earlier. type_number (plp_at c.plps earlier).plp_type ≤ now) place
    (λ earlier lt. omega (arith, greatest earlier lt)) (omega (arith, is))

-- an identifier that was not seen differs from all before
pub DistinctIds-more : (c : Config) (seen : List Bool) (place : ℕ)
    → HoldsBelow (PlaceHolds DistinctIds c) place
    → HoldsBelow (λ earlier. get_or seen (plp_at c.plps earlier).id false ≡ true) place
    → get_or seen (plp_at c.plps place).id false ≡ false
    → HoldsBelow (PlaceHolds DistinctIds c) (place + 1)
DistinctIds-more c seen place holds all new =
    below_more (PlaceHolds DistinctIds c) place holds
    (λ earlier lt same. false≢true (sym new ∙ ap (λ (id : ℕ). get_or seen id false) (sym same) ∙ all earlier lt))

-- its identifier is seen from now on, with those before
pub seen-more : (c : Config) (seen : List Bool) (place : ℕ)
    → HoldsBelow (λ earlier. get_or seen (plp_at c.plps earlier).id false ≡ true) place
    → (plp_at c.plps place).id < length seen
    → HoldsBelow (λ earlier. get_or (set seen (plp_at c.plps place).id true) (plp_at c.plps earlier).id false ≡ true)
    (place + 1)
seen-more c seen place all inside =
    below_more (λ earlier. get_or (set seen (plp_at c.plps place).id true) (plp_at c.plps earlier).id false ≡ true)
    place
    (λ earlier lt. elim (cases_eq (plp_at c.plps earlier).id (plp_at c.plps place).id) [
      | inl same ↦ ap (λ (id : ℕ). get_or (set seen (plp_at c.plps place).id true) id false) same
          ∙ get_or-set_same seen (plp_at c.plps place).id true false inside
      | inr differ ↦ get_or-set_other seen (plp_at c.plps place).id (plp_at c.plps earlier).id true false differ
          ∙ all earlier lt
    ])
    (get_or-set_same seen (plp_at c.plps place).id true false inside)

-- and no other is
pub only-more : (c : Config) (seen : List Bool) (place id : ℕ)
    → (get_or seen id false ≡ true → (earlier : ℕ) × (earlier < place) × ((plp_at c.plps earlier).id ≡ id))
    → get_or (set seen (plp_at c.plps place).id true) id false ≡ true
    → (earlier : ℕ) × (earlier < place + 1) × ((plp_at c.plps earlier).id ≡ id)
only-more c seen place id only on =
    elim (cases_eq id (plp_at c.plps place).id) [
      | inl same ↦ (place, omega arith, sym same)
      | inr differ ↦
          let found : (earlier : ℕ) × (earlier < place) × ((plp_at c.plps earlier).id ≡ id) =
          only (sym (get_or-set_other seen (plp_at c.plps place).id id true false differ) ∙ on) in
          (found.0, omega (arith, found.1), found.2)
    ]

-- nothing is seen at first
pub none_seen : (n id : ℕ) → get_or (replicate n false) id false ≡ true → ⊥
none_seen n id on =
    elim (cases_lt id n) [
      | inl inside ↦ false≢true (sym (get_or-replicate n id false false inside) ∙ on)
      | inr past ↦
          false≢true (sym (get_or-eq_default (replicate n false) false
          (omega (arith, length-replicate {A = Bool} n false))) ∙ on)
    ]
