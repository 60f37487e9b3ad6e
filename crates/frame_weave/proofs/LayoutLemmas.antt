-- The places of one PLP more are laid.
use Rattle.std.proofs.Common.{◌≡◌, ℕ, zero, suc, ◌+◌, ◌*◌, ◌<◌, ◌≤◌, List, length, sum_by, ap, ap₂, sym, ◌∙◌, ⊎_elim}
use Rattle.std.proofs.Common.{arith}
use Rattle.std.specs.Prelude.{slice_index, slice_set}
use Rattle.std.specs.List.{range_with_len}
use Rattle.std.proofs.lemmas.Bool.{cases_eq}
use Rattle.std.proofs.lemmas.List.{get_or-set_same, get_or-set_other}
use Rattle.linked_pool.specs.Pool.{chunks_for}
use Rattle.plp_config.specs.Capacity.{block_bytes}
use Rattle.plp_config.specs.declared.config.Config.{Config}
use Rattle.frame_weave.proofs.SumLemmas.{sum_more, start_more}
use Rattle.frame_weave.specs.Places.{start_of, plp_need}

pub starts_more : (counts starts : List ℕ) (plp end count : ℕ) → plp + 1 < length starts
    → ((j : ℕ) → j ≤ plp → slice_index starts j ≡ start_of counts j) → end ≡ start_of counts plp
    → count ≡ slice_index counts plp
    → (j : ℕ) → j ≤ plp + 1 → slice_index (slice_set starts (plp + 1) (end + count)) j ≡ start_of counts j
starts_more counts starts plp end count inside before e more j l =
    ⊎_elim
    (λ (s : j ≡ plp + 1).
    let there = get_or-set_same starts (plp + 1) (end + count) 0 inside in
    let all = start_more counts plp in
    ap (slice_index (slice_set starts (plp + 1) (end + count))) s ∙ omega (arith, there, all, e, more)
    ∙ sym (ap (start_of counts) s))
    (λ (ne : j ≡ plp + 1 → ⊥).
    get_or-set_other starts (plp + 1) j (end + count) 0 ne ∙ before j (omega (arith, l, ne)))
    (cases_eq j (plp + 1))

pub need_more : (c : Config) (counts : List ℕ) (plp need count chunks : ℕ)
    → need ≡ sum_by (plp_need c counts) (range_with_len 0 plp) → count ≡ slice_index counts plp
    → chunks ≡ chunks_for (block_bytes c plp) → need + count * chunks ≡ sum_by (plp_need c counts)
    (range_with_len 0 (plp + 1))
need_more c counts plp need count chunks before e size =
    let all = sum_more (plp_need c counts) plp in
    let one = ap₂ (λ (a b : ℕ). a * b) e size in
    omega (arith, all, one, before)

times_within : (a b w : ℕ) → b ≤ w → a * b ≤ a * w
times_within zero b w l = omega arith
times_within (suc a) b w l = let rest = times_within a b w l in omega (arith, rest, l)

pub need_small : (plp need count chunks : ℕ) → need ≤ 1769445 * plp → count ≤ 65535 → chunks ≤ 27
    → need + count * chunks ≤ 1769445 * (plp + 1)
need_small plp need count chunks small few most = let times = times_within count chunks 27 most in omega
    (arith, small, few, times)
