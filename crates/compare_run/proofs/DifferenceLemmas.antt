-- Where two lists of blocks differ first, and what is told of the PLPs of a frame.
use Rattle.std.proofs.Common.{◌≡◌, ◌≢◌, ℕ, suc, ◌+◌, min, Bool, true, false, List, [], ◌∷◌, ◌++◌, length}
use Rattle.std.proofs.Common.{Option, Some, None, refl, ap, sym, subst, ◌∙◌, arith}
use Rattle.std.specs.Prelude.{bytes_eq, option_map, option_to_list}
use Rattle.std.specs.Option.{option_or}
use Rattle.std.proofs.lemmas.Bool.{true≢false, false≢true}
use Rattle.std.proofs.lemmas.Slice.Eq.{bytes_eq-Decides}
use Rattle.std.proofs.lemmas.Option.{same_Some}
use Rattle.terms.proofs.OptionLemmas.{none_some}
use Rattle.plp_config.specs.Places.{places}
use Rattle.plp_config.specs.Plps.{plp_at}
use Rattle.plp_config.specs.declared.config.Config.{Config}
use Rattle.frame_groups.specs.Modulated.{Numbered}
use Rattle.compare_run.specs.AnswerLaws.{DifferFirst, OthersAreFirst, SameHasNone, BlockIsFirst}
use Rattle.compare_run.specs.Comparing.{carried, dynamic_at, same_bits, first_other, first_some, other_by, one_later}
use Rattle.compare_run.specs.Comparing.{place_in, block_place, place_of, place_answer}
use Rattle.compare_run.specs.Comparing.{PlpDifference, difference, difference_in, differing, plp_differences}
use Rattle.compare_run.specs.declared.answer.Answer.TheVariants.{Same, Differs}
use Rattle.compare_run.specs.declared.answer.Other.{Other}
use Rattle.compare_run.specs.declared.answer.Place.{Place}
use Rattle.compare_run.specs.declared.answer.Place.TheVariants.{L1, Block}
use Rattle.compare_run.proofs.BlockLemmas.{other_none, none_other, bits_equal, bits_same, by_front}
use Rattle.compare_run.proofs.CarriedLemmas.{same_by, same_parts}
use Rattle.compare_run.proofs.SameLemmas.{none_placed}

-- ---- two lists

-- one of them has nothing
first_ends : (a b : List (List ℕ)) (o : Other) → length a ≢ length b → min (length a) (length b) ≡ 0
    → Some (other_by 0 true) ≡ Some o → DifferFirst a b o
first_ends a b o other none e =
    subst (DifferFirst a b) (same_Some (other_by 0 true) o e)
    (record { before = refl; count = λ _. (other, none); block = λ off. absurd (true≢false off) })

-- behind a block that is the same
one_behind : (x y : List ℕ) (a b : List (List ℕ)) (o : Other) → x ≡ y → DifferFirst a b o
    → DifferFirst (x ∷ a) (y ∷ b) (one_later o)
one_behind x y a b o same d =
    let k : o.number + 1 ≡ suc o.number = omega arith in
    record {
      before = rw (k, same) (ap (λ (l : List (List ℕ)). y ∷ l) d.before);
      count = λ on. let p = d.count on in let low = p.1 in (λ e. p.0 (omega (arith, e)), omega (arith, low));
      block = λ off.
          let p = d.block off in
          let low = p.0 in
          let high = p.1 in
          (omega (arith, low), omega (arith, high), rw k p.2);
    }

differ_first : (a b : List (List ℕ)) (o : Other) → first_other a b ≡ Some o → DifferFirst a b o
differ_first [] [] o e = none_some o e
differ_first [] (y ∷ b) o e = first_ends [] (y ∷ b) o (λ l. omega (arith, l)) (omega arith) e
differ_first (x ∷ a) [] o e = first_ends (x ∷ a) [] o (λ l. omega (arith, l)) (omega arith) e
differ_first (x ∷ a) (y ∷ b) o e = go (bytes_eq x y) (first_other a b) refl e (λ r is. differ_first a b r is)
  where
    go : (t : Bool) (rest : Option Other) → bytes_eq x y ≡ t → by_front t rest ≡ Some o
        → ((r : Other) → rest ≡ Some r → DifferFirst a b r) → DifferFirst (x ∷ a) (y ∷ b) o
    go true None t e later = none_some o e
    go true (Some r) t e later =
        subst (DifferFirst (x ∷ a) (y ∷ b)) (same_Some (one_later r) o e)
        (one_behind x y a b r ((bytes_eq-Decides x y).0 t) (later r refl))
    go false rest t e later =
        subst (DifferFirst (x ∷ a) (y ∷ b)) (same_Some (other_by 0 false) o e)
        (record {
          before = refl;
          count = λ on. absurd (false≢true on);
          block = λ _. (omega arith, omega arith, λ s. true≢false (sym ((bytes_eq-Decides x y).1 s) ∙ t));
        })

pub others_are_first : OthersAreFirst
others_are_first a b =
    ((none_other a b, λ e. ap (first_other a) (sym e) ∙ other_none a), λ o e. differ_first a b o e)

-- ---- PLP by PLP

module _ (c : Config) (other : ℕ → Option Other) where
  abbrev found : List ℕ → Option Place
  found plps = first_some (λ plp. option_map (place_in c plp) (other plp)) plps

  -- no place is found exactly where no difference is
  abbrev NoneDiffer : List ℕ → Type 0
  NoneDiffer plps =
      (found plps ≡ None → differing c other plps ≡ []) × (differing c other plps ≡ [] → found plps ≡ None)

  none_differ : (plps : List ℕ) → NoneDiffer plps
  none_differ [] = ((λ e. refl), (λ e. refl))
  none_differ (plp ∷ plps) = go (other plp) (none_differ plps)
    where
      go : (o : Option Other) → NoneDiffer plps
          → (option_or (option_map (place_in c plp) o) (found plps) ≡ None
          → option_to_list (option_map (difference_in c plp) o) ++ differing c other plps ≡ [])
          × (option_to_list (option_map (difference_in c plp) o) ++ differing c other plps ≡ []
          → option_or (option_map (place_in c plp) o) (found plps) ≡ None)
      go None later = later
      go (Some o) later = (
        (λ e. none_some (place_in c plp o) (sym e)),
        (λ e. absurd (let n = ap length e in omega (arith, n))),
      )

  -- The first of these differences is of a PLP, and at a block.
  abbrev HasFirst : List PlpDifference → ℕ → ℕ → Type 0
  HasFirst ds id number =
      (o : Other) × (rest : List PlpDifference) × (ds ≡ difference id o ∷ rest) × (o.number ≡ number)

  has_first : (plps : List ℕ) (id number : ℕ) → found plps ≡ Some (Block id number)
      → HasFirst (differing c other plps) id number
  has_first [] id number e = none_some (Block id number) e
  has_first (plp ∷ plps) id number e = go (other plp) e (λ h. has_first plps id number h)
    where
      go : (o : Option Other) → option_or (option_map (place_in c plp) o) (found plps) ≡ Some (Block id number)
          → (found plps ≡ Some (Block id number) → HasFirst (differing c other plps) id number)
          → HasFirst (option_to_list (option_map (difference_in c plp) o) ++ differing c other plps) id number
      go None e later = later e
      go (Some o) e later =
          let same : Block (plp_at c.plps plp).id o.number ≡ Block id number =
          same_Some (place_in c plp o) (Block id number) e in
          let own : (plp_at c.plps plp).id ≡ id = cc in
          let count : o.number ≡ number = cc in
          (o, differing c other plps, ap (λ (i : ℕ). difference i o ∷ differing c other plps) own, count)

-- ---- two frames

abbrev others : Config → List Numbered → List Numbered → ℕ → ℕ → Option Other
others c ga gb n plp = first_other (carried c ga plp n) (carried c gb plp n)

by_blocks : (c : Config) (n : ℕ) (ga gb : List Numbered) → dynamic_at ga n ≡ dynamic_at gb n
    → place_of c n ga gb ≡ block_place c (others c ga gb n)
by_blocks c n ga gb same =
    same_by c n ga gb (dynamic_at ga n) (dynamic_at gb n) refl refl true
    (bits_same (dynamic_at ga n) (dynamic_at gb n) same)

pub same_has_none : SameHasNone
unfolding plp_differences
same_has_none c ga gb n = (
  λ e.
      let none = none_placed (place_of c n ga gb) e in
      let same = (same_parts c n ga gb none).0 in
      (same, (none_differ c (others c ga gb n) (places c)).0 (sym (by_blocks c n ga gb same) ∙ none)),
  λ p. ap place_answer (by_blocks c n ga gb p.0 ∙ (none_differ c (others c ga gb n) (places c)).1 p.1),
)

-- the place of a frame that differs
placed_at : (p : Option Place) (at : Place) → place_answer p ≡ Differs at → p ≡ Some at
placed_at None at e = absurd (let z : Same ≡ Differs at = e in cc)
placed_at (Some other) at e = (let z : Differs other ≡ Differs at = e in cc)

pub block_is_first : BlockIsFirst
unfolding plp_differences
block_is_first c ga gb n id number e = go (same_bits (dynamic_at ga n) (dynamic_at gb n)) refl
  where
    placed : place_of c n ga gb ≡ Some (Block id number)
    placed = placed_at (place_of c n ga gb) (Block id number) e

    go : (t : Bool) → same_bits (dynamic_at ga n) (dynamic_at gb n) ≡ t
        → HasFirst c (others c ga gb n) (differing c (others c ga gb n) (places c)) id number
    go true t =
        has_first c (others c ga gb n) (places c) id number
        (sym (by_blocks c n ga gb (bits_equal (dynamic_at ga n) (dynamic_at gb n) t)) ∙ placed)
    go false t =
        absurd (let z : ◌≡◌ {A = Option Place} (Some L1) (Some (Block id number)) =
        sym (same_by c n ga gb (dynamic_at ga n) (dynamic_at gb n) refl refl false t) ∙ placed in cc)
