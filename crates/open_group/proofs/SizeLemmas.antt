-- How many bytes blocks have.
use Rattle.std.proofs.Common.{◌≡◌, ℕ, ◌+◌, sym, ap, ap₂, ◌∙◌}
use Rattle.std.specs.Prelude.{sum_by}
use Rattle.std.specs.List.{range_with_len}
use Rattle.std.proofs.lemmas.List.Sums.{sum_by_push}
use Rattle.terms.proofs.RangeLemmas.{places_more}

-- a place more
pub sum_more : (f : ℕ → ℕ) (n old more : ℕ) → old ≡ sum_by f (range_with_len 0 n) → more ≡ f n
    → old + more ≡ sum_by f (range_with_len 0 (n + 1))
sum_more f n old more e is = ap₂ (λ (a b : ℕ). a + b) e is ∙ sym (sum_by_push f (range_with_len 0 n) n)
    ∙ ap (sum_by f) (sym (places_more n))
