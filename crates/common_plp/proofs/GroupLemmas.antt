-- What is told of the groups of a network.
use Rattle.std.proofs.Common.{◌≡◌, ℕ, ◌<◌, not, Bool, length, Option, None, ap, List, ◌∙◌, arith}
use Rattle.std.proofs.Common.{get_or}
use Rattle.std.specs.Prelude.{slice_index}
use Rattle.std.specs.List.{range_with_len}
use Rattle.std.proofs.lemmas.List.Elements.{All-filter, filter_passes}
use Rattle.std.proofs.lemmas.List.FromFn.{length-range_with_len, get_or-range_with_len, length-map-range_with_len}
use Rattle.std.proofs.lemmas.List.FromFn.{get_or-map-range_with_len}
use Rattle.plp_config.specs.declared.config.Config.{Config}
use Rattle.common_plp.specs.Groups.{Grouping, grouping_of, is_common, common_of, input_places}
use Rattle.common_plp.specs.Laws.{GroupingTold}
use Rattle.common_plp.proofs.LawLemmas.{has_common}
use Rattle.common_plp.proofs.MemberLemmas.{not_true}

pub grouping_told : GroupingTold
unfolding grouping_of
grouping_told c =
    let n : ℕ = length c.plps in
    let test : ℕ → Bool = λ place. not (is_common c place) in
    record {
      plps = length-map-range_with_len (common_of c) 0 n;
      commons = λ plp inside. get_or-map-range_with_len (common_of c) 0 n plp plp None inside (omega arith);
      inside = λ plp common is. (has_common c plp common is).inside;
      place = λ input inside. All-filter test (λ (p : ℕ). p < n) (range_with_len 0 n)
          (λ k d lt. let len = length-range_with_len 0 n in let at = get_or-range_with_len 0 n k d
          (omega (arith, lt, len)) in
          omega (arith, lt, len, at)) input 0 inside;
      own = λ input inside. not_true _ (filter_passes test (range_with_len 0 n) input 0 inside);
    }

-- ---- of what is told, each part

pub common_told : (c : Config) (g : Grouping) (plp : ℕ) (common : Option ℕ) → common ≡ get_or g.commons plp None
    → plp < length g.commons → g ≡ grouping_of c → common ≡ common_of c plp
common_told c g plp common here inside is =
    let t = grouping_told c in
    let same = ap (λ (h : Grouping). h.commons) is in
    here ∙ ap (λ (l : List (Option ℕ)). get_or l plp None) same
    ∙ t.commons plp (let e = ap length same in let n = t.plps in omega (arith, inside, e, n))

inputs_told : (c : Config) (g : Grouping) → g ≡ grouping_of c → g.inputs ≡ input_places c
unfolding grouping_of
inputs_told c g is = ap (λ (h : Grouping). h.inputs) is

pub count_told : (c : Config) (g : Grouping) (count : ℕ) → count ≡ length g.inputs → g ≡ grouping_of c
    → count ≡ length (input_places c)
count_told c g count here is = here ∙ ap (λ (l : List ℕ). length l) (inputs_told c g is)

pub place_told : (c : Config) (g : Grouping) (input place : ℕ) → place ≡ slice_index g.inputs input → g ≡ grouping_of c
    → place ≡ slice_index (input_places c) input
place_told c g input place here is = here ∙ ap (λ (l : List ℕ). slice_index l input) (inputs_told c g is)
