-- The blocks of a frame have their chunks.
use Rattle.std.proofs.Common.{◌≡◌, ℕ, zero, suc, ◌+◌, ◌*◌, ◌/◌, ◌<◌, ◌≤◌, List, [], ◌∷◌, ◌++◌, length, get_or, set}
use Rattle.std.proofs.Common.{arith}
use Rattle.std.specs.Prelude.{All}
use Rattle.std.specs.List.{sum_by}
use Rattle.std.proofs.lemmas.Nat.{le-div}
use Rattle.std.proofs.lemmas.List.Sums.{sum_by-cons, sum_by_push}
use Rattle.std.proofs.Math.Nat.{mul-le-mul_left, mul-le-mul_right}
use Rattle.plp_config.specs.Capacity.{block_bytes, block_cells}
use Rattle.plp_config.specs.Laws.{FieldRange, BlockChunks, BlocksFit}
use Rattle.plp_config.specs.Plps.{plp_at, no_plp}
use Rattle.plp_config.specs.Tables.{cells_per_block}
use Rattle.plp_config.specs.declared.config.Config.{Config}
use Rattle.plp_config.specs.declared.plp.Plp.{Plp}
use Rattle.linked_pool.specs.Pool.{list_at, chunks_for, chunks_of, used_chunks, appended}
use Rattle.linked_pool.specs.Fits.{ListFits, spread_cells}
use Rattle.linked_pool.specs.Laws.{PlanFits, NextFits}
use Rattle.linked_pool.proofs.BlockLemmas.{chunks_of-cons, used_chunks-cons}

-- the chunks of so many short blocks
chunks_within : (n : ℕ) (bs : List (List ℕ)) → All (λ (x : List ℕ). length x ≤ n) bs
    → chunks_of bs ≤ length bs * chunks_for n
chunks_within n [] h = omega arith
chunks_within n (b ∷ bs) h =
    let here : length b ≤ n = h 0 [] (omega arith) in
    let one : chunks_for (length b) ≤ chunks_for n = omega (arith, here) in
    let rest = chunks_within n bs (λ k d lt. h (suc k) d (omega arith)) in
    let sum : length (b ∷ bs) * chunks_for n ≡ length bs * chunks_for n + chunks_for n = omega arith in
    omega (arith, chunks_of-cons b bs, one, rest, sum)

-- the chunks of a PLP in a frame, as many as its cells allow
abbrev chunks_by_cells : Plp → ℕ
chunks_by_cells plp = plp.blocks * (cells_per_block plp.fec plp.modulation / 2025)

abbrev sum_of : List Plp → ℕ
sum_of plps = sum_by chunks_by_cells plps

used_within : (plps : List Plp) (lists : List (List (List ℕ))) → length lists ≡ length plps
    → ((i : ℕ) → i < length plps → chunks_of (get_or lists i []) ≤ 7 * chunks_by_cells (get_or plps i no_plp))
    → used_chunks lists ≤ 7 * sum_of plps
used_within [] [] e h = omega arith
used_within [] (l ∷ lists) e h = absurd (omega (arith, e))
used_within (p ∷ plps) [] e h = absurd (omega (arith, e))
used_within (p ∷ plps) (l ∷ lists) e h =
    let here = h 0 (omega arith) in
    let rest = used_within plps lists (omega (arith, e)) (λ i lt. h (suc i) (omega arith)) in
    omega (arith, used_chunks-cons l lists, sum_by-cons chunks_by_cells p plps, here, rest)

cells_within : (blocks cells : ℕ) → 2025 * (blocks * (cells / 2025)) ≤ blocks * cells
cells_within blocks cells =
    let one : cells / 2025 * 2025 ≤ cells = omega arith in
    let h : blocks * (cells / 2025 * 2025) ≤ blocks * cells = mul-le-mul_left blocks one in
    omega (arith, h)

-- 2,025 cells for each of them are no more than the cells of the blocks
sum_within : (plps : List Plp) → 2025 * sum_of plps ≤ sum_by (λ plp. plp.blocks * cells_per_block plp.fec
    plp.modulation) plps
sum_within [] = omega arith
sum_within (p ∷ plps) =
    let here = cells_within p.blocks (cells_per_block p.fec p.modulation) in
    let cells = sum_by-cons (λ (plp : Plp). plp.blocks * cells_per_block plp.fec plp.modulation) p plps in
    omega (arith, here, sum_within plps, sum_by-cons chunks_by_cells p plps, cells)

chunks_of_block : FieldRange → BlockChunks → (c : Config) (plp : ℕ) → chunks_for (block_bytes c plp)
    ≤ 7 * (block_cells c plp / 2025)
chunks_of_block fields chunks c plp = grind arith

-- a list of an interleaving frame's blocks fills no more than the chunks of its PLP
chunks_of_list : FieldRange → BlockChunks → (c : Config) (plp : ℕ) (blocks : List (List ℕ)) → ListFits c plp blocks
    → chunks_of blocks ≤ 7 * chunks_by_cells (plp_at c.plps plp)
unfolding block_cells
chunks_of_list fields chunks c plp blocks h =
    let most = chunks_within (block_bytes c plp) blocks h.short in
    let one = chunks_of_block fields chunks c plp in
    let n : ℕ = cells_per_block (plp_at c.plps plp).fec (plp_at c.plps plp).modulation / 2025 in
    let few : length blocks * chunks_for (block_bytes c plp) ≤ (plp_at c.plps plp).blocks * chunks_for
    (block_bytes c plp) =
    mul-le-mul_right (chunks_for (block_bytes c plp)) h.few in
    let each : (plp_at c.plps plp).blocks * chunks_for (block_bytes c plp) ≤ (plp_at c.plps plp).blocks * (7 * n) =
    mul-le-mul_left (plp_at c.plps plp).blocks one in
    let order : (plp_at c.plps plp).blocks * (7 * n) ≡ 7 * ((plp_at c.plps plp).blocks * n) = omega arith in
    omega (arith, most, few, each, order)

pub plan_fits : FieldRange → BlockChunks → BlocksFit → PlanFits
plan_fits fields chunks room c lists is fit =
    let used =
    used_within c.plps lists fit.count (λ i lt. chunks_of_list fields chunks c i (get_or lists i []) (fit.each i lt)) in
    let all = sum_within c.plps in
    let cells = room c is in
    let most = le-div (sum_of c.plps) (spread_cells c) 2025 (omega arith) (omega (arith, all, cells)) in
    omega (arith, used, most)

-- another list at a place
used_chunks-set : (lists : List (List (List ℕ))) (i : ℕ) (blocks : List (List ℕ)) → i < length lists
    → used_chunks (set lists i blocks) + chunks_of (get_or lists i []) ≡ used_chunks lists + chunks_of blocks
used_chunks-set [] i blocks lt = absurd (omega arith)
used_chunks-set (l ∷ lists) zero blocks lt = omega (arith, used_chunks-cons l lists, used_chunks-cons blocks lists)
used_chunks-set (l ∷ lists) (suc i) blocks lt =
    let h = used_chunks-set lists i blocks (omega arith) in
    omega (arith, used_chunks-cons l lists, used_chunks-cons l (set lists i blocks), h)

pub next_fits : FieldRange → BlockChunks → BlocksFit → NextFits
next_fits fields chunks room c pool list block is whole enough inside fit =
    let most = plan_fits fields chunks room c (appended pool list block).lists is fit in
    let sum = used_chunks-set pool.lists list (list_at pool list ++ block ∷ []) inside in
    let more = sum_by_push (λ (b : List ℕ). chunks_for (length b)) (list_at pool list) block in
    omega (arith, most, sum, more, whole, enough)
