-- The blocks of a frame with those of one PLP replaced.
use Rattle.std.proofs.Common.{◌≡◌, ◌⊎◌, ℕ, zero, suc, ◌+◌, ◌-◌, ◌<◌, ◌≤◌, ◌==◌, ◌||◌, Bool, true, false, List, [], ◌∷◌}
use Rattle.std.proofs.Common.{◌++◌, map, length, refl, ap, ap₂, sym, ◌∙◌, inl, inr, arith, append-nil, append_assoc}
use Rattle.std.specs.List.{filter, flat_map, range_with_len}
use Rattle.std.proofs.lemmas.Bool.{cases_eq, cond-true, cond-false, eq-eqb, ne_eqb}
use Rattle.std.proofs.lemmas.Grind.{flat_map-append}
use Rattle.std.proofs.lemmas.List.Elements.{filter-append}
use Rattle.terms.proofs.RangeLemmas.{range_append, flat_same}
use Rattle.plp_config.specs.Capacity.{IsPlan}
use Rattle.plp_config.specs.Plps.{plp_at}
use Rattle.plp_config.specs.declared.config.Config.{Config}
use Rattle.site_frame.specs.Record.{Block}
use Rattle.record_laws.specs.Frames.{sent_block, sent_blocks}
use Rattle.stream_laws.proofs.MadeLemmas.{ids_differ}
use Rattle.region_swap.specs.Swapped.{is_among, blocks_among, replaced}

-- ---- blocks of some PLPs

or_true : (b : Bool) → (b || true) ≡ true
or_true true = refl
or_true false = refl

abbrev id_of : Config → ℕ → ℕ
id_of c plp = (plp_at c.plps plp).id

among_in : (c : Config) (count from j : ℕ) → from ≤ j → j < from + count → is_among c from count (id_of c j) ≡ true
among_in c zero from j le lt = absurd (omega (arith, le, lt))
among_in c (suc count) from j le lt =
    elim (cases_eq from j) [
      | inl same ↦ ap (λ (b : Bool). b || is_among c (from + 1) count (id_of c j))
          (eq-eqb (id_of c from) (id_of c j) (ap (id_of c) same))
      | inr differ ↦ ap (λ (b : Bool). (id_of c from == id_of c j) || b)
          (among_in c count (from + 1) j (omega (arith, le, differ)) (omega (arith, lt)))
          ∙ or_true (id_of c from == id_of c j)
    ]

among_out : (c : Config) → IsPlan c → (count from j : ℕ) → from + count ≤ length c.plps → j < length c.plps
    → (j < from) ⊎ (from + count ≤ j) → is_among c from count (id_of c j) ≡ false
among_out c plan zero from j inside lt out = refl
among_out c plan (suc count) from j inside lt out =
    ap₂ (λ (b d : Bool). b || d)
    (ne_eqb (id_of c from) (id_of c j) (ids_differ c plan from j (omega (arith, inside)) lt (apart out)))
    (among_out c plan count (from + 1) j (omega (arith, inside)) lt (on out))
  where
    apart : (j < from) ⊎ (from + suc count ≤ j) → from ≡ j → ⊥
    apart (inl less) e = absurd (omega (arith, less, e))
    apart (inr more) e = absurd (omega (arith, more, e))

    on : (j < from) ⊎ (from + suc count ≤ j) → (j < from + 1) ⊎ (from + 1 + count ≤ j)
    on (inl less) = inl (omega (arith, less))
    on (inr more) = inr (omega (arith, more))

kept : (c : Config) (from count j : ℕ) (blocks : List (List Bool)) → is_among c from count (id_of c j) ≡ true
    → blocks_among c from count (map (sent_block c j) blocks) ≡ map (sent_block c j) blocks
kept c from count j [] t = refl
kept c from count j (b ∷ blocks) t =
    cond-true (is_among c from count (id_of c j)) _ _ t ∙ ap (λ (l : List Block). sent_block c j b ∷ l)
    (kept c from count j blocks t)

gone : (c : Config) (from count j : ℕ) (blocks : List (List Bool)) → is_among c from count (id_of c j) ≡ false
    → blocks_among c from count (map (sent_block c j) blocks) ≡ []
gone c from count j [] t = refl
gone c from count j (b ∷ blocks) t = cond-false (is_among c from count (id_of c j)) _ _ t ∙ gone c from count j blocks t

flat_kept : (test : Block → Bool) (f : ℕ → List Block) (k a : ℕ) → ((j : ℕ) → a ≤ j → j < a + k
    → filter test (f j) ≡ f j)
    → filter test (flat_map f (range_with_len a k)) ≡ flat_map f (range_with_len a k)
flat_kept test f zero a h = refl
flat_kept test f (suc k) a h =
    filter-append test (f a) (flat_map f (range_with_len (a + 1) k))
    ∙ ap₂ (λ (x y : List Block). x ++ y) (h a (omega arith) (omega arith))
    (flat_kept test f k (a + 1) (λ j le lt. h j (omega (arith, le)) (omega (arith, lt))))

flat_gone : (test : Block → Bool) (f : ℕ → List Block) (k a : ℕ) → ((j : ℕ) → a ≤ j → j < a + k
    → filter test (f j) ≡ [])
    → filter test (flat_map f (range_with_len a k)) ≡ []
flat_gone test f zero a h = refl
flat_gone test f (suc k) a h =
    filter-append test (f a) (flat_map f (range_with_len (a + 1) k))
    ∙ ap₂ (λ (x y : List Block). x ++ y) (h a (omega arith) (omega arith))
    (flat_gone test f k (a + 1) (λ j le lt. h j (omega (arith, le)) (omega (arith, lt))))

-- a range in three parts
three : (from count rest : ℕ) → range_with_len 0 (from + (count + rest))
    ≡ range_with_len 0 from ++ (range_with_len from count ++ range_with_len (from + count) rest)
three from count rest =
    let e : 0 + from ≡ from = omega arith in
    range_append 0 from (count + rest)
    ∙ ap (λ (l : List ℕ). range_with_len 0 from ++ l)
    (ap (λ (a : ℕ). range_with_len a (count + rest)) e ∙ range_append from count rest)

flat_three : (f : ℕ → List Block) (from count rest : ℕ) → flat_map f (range_with_len 0 (from + (count + rest)))
    ≡ flat_map f (range_with_len 0 from) ++ (flat_map f (range_with_len from count) ++ flat_map f
    (range_with_len (from + count) rest))
flat_three f from count rest =
    ap (flat_map f) (three from count rest)
    ∙ flat_map-append f (range_with_len 0 from) (range_with_len from count ++ range_with_len (from + count) rest)
    ∙ ap (λ (l : List Block). flat_map f (range_with_len 0 from) ++ l)
    (flat_map-append f (range_with_len from count) (range_with_len (from + count) rest))

-- ---- the blocks of a frame

module _ (c : Config) (plan : IsPlan c) (blocks : ℕ → List (List Bool)) where
  abbrev of_plp : ℕ → List Block
  of_plp j = map (sent_block c j) (blocks j)

  -- of some PLPs in a row
  among_flat : (from count rest : ℕ) → length c.plps ≡ from + (count + rest)
      → blocks_among c from count (sent_blocks c blocks) ≡ flat_map of_plp (range_with_len from count)
  among_flat from count rest all =
      let test : Block → Bool = λ b. is_among c from count b.plp_id in
      ap (λ (k : ℕ). filter test (flat_map of_plp (range_with_len 0 k))) all
      ∙ ap (filter test) (flat_three of_plp from count rest)
      ∙ filter-append test (flat_map of_plp (range_with_len 0 from))
      (flat_map of_plp (range_with_len from count) ++ flat_map of_plp (range_with_len (from + count) rest))
      ∙ ap₂ (λ (x y : List Block). x ++ y)
      (flat_gone test of_plp from 0
      (λ j le lt. gone c from count j (blocks j)
      (among_out c plan count from j (omega (arith, all)) (omega (arith, lt, all)) (inl (omega (arith, lt))))))
      (filter-append test (flat_map of_plp (range_with_len from count))
      (flat_map of_plp (range_with_len (from + count) rest))
      ∙ ap₂ (λ (x y : List Block). x ++ y)
      (flat_kept test of_plp count from (λ j le lt. kept c from count j (blocks j) (among_in c count from j le lt)))
      (flat_gone test of_plp rest (from + count)
      (λ j le lt. gone c from count j (blocks j)
      (among_out c plan count from j (omega (arith, all)) (omega (arith, lt, all)) (inr le))))
      ∙ append-nil (flat_map of_plp (range_with_len from count)))

-- With the blocks of one PLP replaced they are those of a frame that has others of that PLP.
pub replaced_is : (c : Config) → IsPlan c → (plp : ℕ) → plp < length c.plps → (was is : ℕ → List (List Bool))
    → ((j : ℕ) → (j ≡ plp → ⊥) → is j ≡ was j)
    → replaced c plp (map (sent_block c plp) (is plp)) (sent_blocks c was) ≡ sent_blocks c is
replaced_is c plan plp inside was is others =
    let rest : ℕ = length c.plps - (plp + 1) in
    let all : length c.plps ≡ plp + (1 + rest) = omega (arith, inside) in
    let first : length c.plps ≡ 0 + (plp + (1 + rest)) = omega (arith, inside) in
    let last : length c.plps ≡ plp + 1 + (rest + 0) = omega (arith, inside) in
    let old : ℕ → List Block = λ j. map (sent_block c j) (was j) in
    let new : ℕ → List Block = λ j. map (sent_block c j) (is j) in
    append_assoc (blocks_among c 0 plp (sent_blocks c was)) (new plp) (blocks_among c (plp + 1) rest
    (sent_blocks c was))
    ∙ ap₂ (λ (x y : List Block). x ++ (new plp ++ y))
    (among_flat c plan was 0 plp (1 + rest) first
    ∙ flat_same old new 0 plp (λ j le lt. ap (map (sent_block c j))
    (sym (others j (λ e. absurd (omega (arith, lt, e)))))))
    (among_flat c plan was (plp + 1) rest 0 last
    ∙ flat_same old new (plp + 1) rest (λ j le lt. ap (map (sent_block c j))
    (sym (others j (λ e. absurd (omega (arith, le, e)))))))
    ∙ sym (ap (λ (k : ℕ). flat_map new (range_with_len 0 k)) all ∙ flat_three new plp 1 rest
    ∙ ap (λ (l : List Block). flat_map new (range_with_len 0 plp)
    ++ (l ++ flat_map new (range_with_len (plp + 1) rest)))
    (append-nil (new plp)))
