-- The TI-block of a block.
use Rattle.std.proofs.Common.{◌≡◌, ℕ, zero, suc, ◌+◌, ◌-◌, ◌*◌, ◌/◌, ◌%◌, ◌<◌, ◌≤◌, ltb, List, [], ◌∷◌, ◌++◌, replicate}
use Rattle.std.proofs.Common.{refl, ap}
use Rattle.std.proofs.Common.{sym, ◌∙◌, arith}
use Rattle.std.proofs.lemmas.Bool.{lt-ltb, le-ltb, ltb-true, ltb-false}
use Rattle.std.proofs.lemmas.Nat.{div-add-mod', mod_below, div_below, mul-le}
use Rattle.std.proofs.lemmas.List.{append-nil}
use Rattle.cell_map.specs.declared.interleaving.TiBlock.{TiBlock}
use Rattle.cell_map.specs.Interleaver.{sizes_of, ti_block_in, ti_block_of}
use Rattle.terms.proofs.CaseLemmas.{bool_cases}

abbrev pub total : List ℕ → ℕ
total [] = 0
total (s ∷ ss) = s + total ss

pub total-append : (xs ys : List ℕ) → total (xs ++ ys) ≡ total xs + total ys
total-append [] ys = omega arith
total-append (x ∷ xs) ys = omega (arith, total-append xs ys)

pub total-replicate : (k s : ℕ) → total (replicate k s) ≡ k * s
total-replicate zero s = omega arith
total-replicate (suc k) s = omega (arith, total-replicate k s)

pub total-sizes : (n groups : ℕ) → 0 < groups → total (sizes_of n groups) ≡ n
total-sizes n groups h =
    let small : ℕ = groups - n % groups in
    let m : n % groups < groups = mod_below n groups h in
    let parts : small + n % groups ≡ groups = omega arith in
    let whole = div-add-mod' n groups in
    let spread : n / groups * (small + n % groups) + n % groups ≡ n = rw parts whole in
    rw (
      total-append (replicate small (n / groups)) (replicate (n % groups) (n / groups + 1)),
      total-replicate small (n / groups),
      total-replicate (n % groups) (n / groups + 1),
    )
    (omega (arith, spread))

pub record Around (sizes : List ℕ) (start block : ℕ) (g : TiBlock) : Type 0 where
  pub low : start ≤ g.first
  pub before : g.first ≤ block
  pub behind : block < g.first + g.size
  pub whole : g.first + g.size ≤ start + total sizes
  pub same : (other : ℕ) → g.first ≤ other → other < g.first + g.size → ti_block_in sizes start other ≡ g

pub around : (sizes : List ℕ) (start block : ℕ) → start ≤ block → block < start + total sizes
    → Around sizes start block (ti_block_in sizes start block)
around [] start block h k = absurd (omega arith)
around (s ∷ ss) start block h k =
    bool_cases (ltb block (start + s))
    (λ e. let lt = ltb-true block (start + s) e in
    rw e (record {
      low = omega arith;
      before = h;
      behind = lt;
      whole = omega arith;
      same = λ other a b. rw (lt-ltb other (start + s) b) refl;
    }))
    (λ e. let le = ltb-false block (start + s) e in
    let r = around ss (start + s) block le (omega arith) in
    rw e (record {
      low = omega (arith, r.low);
      before = r.before;
      behind = r.behind;
      whole = omega (arith, r.whole);
      same = λ other a b. let far : start + s ≤ other = omega (arith, r.low) in
          rw (le-ltb other (start + s) far) (r.same other a b);
    }))

-- a block in the d-th of TI-blocks of one size
pub group_at : (k size start block d : ℕ) (rest : List ℕ) → d < k → start + d * size ≤ block
    → block < start + (d + 1) * size →
    ti_block_in (replicate k size ++ rest) start block ≡ record { first = start + d * size; size = size }
group_at zero size start block d rest h a b = absurd (omega arith)
group_at (suc k) size start block zero rest h a b =
    let lt : block < start + size = omega arith in
    let e : start ≡ start + 0 * size = omega arith in
    rw (lt-ltb block (start + size) lt) (ap (λ (f : ℕ). record { first = f; size = size }) e)
group_at (suc k) size start block (suc d) rest h a b =
    let far : start + size ≤ block = omega arith in
    let e : start + size + d * size ≡ start + suc d * size = omega arith in
    rw (le-ltb block (start + size) far) (group_at k size (start + size) block d rest (omega arith) (omega arith)
    (omega arith)
    ∙ ap (λ (f : ℕ). record { first = f; size = size }) e)

pub group_skip : (k size start block : ℕ) (rest : List ℕ) → start + k * size ≤ block →
    ti_block_in (replicate k size ++ rest) start block ≡ ti_block_in rest (start + k * size) block
group_skip zero size start block rest h =
    let e : start ≡ start + 0 * size = omega arith in ap (λ (f : ℕ). ti_block_in rest f block) e
group_skip (suc k) size start block rest h =
    let far : start + size ≤ block = omega arith in
    let e : start + size + k * size ≡ start + suc k * size = omega arith in
    rw (le-ltb block (start + size) far) (group_skip k size (start + size) block rest (omega arith)
    ∙ ap (λ (f : ℕ). ti_block_in rest f block) e)

-- the code's TI-block of an early block
pub early : (n groups block : ℕ) → 0 < groups → block < (groups - n % groups) * (n / groups) →
    record { first = block / (n / groups) * (n / groups); size = n / groups } ≡ ti_block_of n groups block
unfolding ti_block_of
early n groups block some h =
    let k : ℕ = groups - n % groups in
    let size : ℕ = n / groups in
    let d : ℕ = block / size in
    let has : 0 < size =
    elim size as (λ (s : ℕ). block < k * s → 0 < s) [
      | zero ↦ (λ (x : block < k * 0). absurd (omega arith))
      | suc s ↦
          (λ (x : block < k * suc s). omega arith)
    ] h in
    let all = div-add-mod' block size in
    let m : block % size < size = mod_below block size has in
    let lt : d < k = div_below block size k has h in
    sym (group_at k size 0 block d (replicate (n % groups) (size + 1)) lt (omega (arith, all)) (omega (arith, all, m))
    ∙ ap (λ (f : ℕ). record { first = f; size = size }) (omega arith))

pub record Late (n groups block low size d : ℕ) : Type 0 where
  pub value : record { first = low + d * size; size = size } ≡ ti_block_of n groups block
  pub whole : low + d * size + size ≤ n

-- the code's TI-block of a late block
pub late : (n groups block : ℕ) → 0 < groups → block < n → (groups - n % groups) * (n / groups) ≤ block →
    (let low = (groups - n % groups) * (n / groups) in
    Late n groups block low (n / groups + 1) ((block - low) / (n / groups + 1)))
unfolding ti_block_of
late n groups block some h far =
    let k : ℕ = groups - n % groups in
    let floor : ℕ = n / groups in
    let more : ℕ = n % groups in
    let low : ℕ = k * floor in
    let size : ℕ = floor + 1 in
    let d : ℕ = (block - low) / size in
    let has : 0 < size = omega arith in
    let whole = total-sizes n groups some in
    let parts : total (sizes_of n groups) ≡ low + more * size =
    total-append (replicate k floor) (replicate more size)
    ∙ (let a = total-replicate k floor in let b = total-replicate more size in omega (arith, a, b)) in
    let rest : block - low < more * size = omega (arith, whole, parts) in
    let lt : d < more = div_below (block - low) size more has rest in
    let all = div-add-mod' (block - low) size in
    let m : (block - low) % size < size = mod_below (block - low) size has in
    let past : 0 + k * floor ≤ block = omega (arith, far) in
    let there : 0 + k * floor ≡ low = omega arith in
    let a : low + d * size ≤ block = omega (arith, all, far) in
    let b : block < low + (d + 1) * size = omega (arith, all, far, m) in
    let fits : (d + 1) * size ≤ more * size = mul-le (d + 1) size more size (omega arith) (omega arith) in
    record {
      value = sym (group_skip k floor 0 block (replicate more size) past
          ∙ ap (λ (f : ℕ). ti_block_in (replicate more size) f block) there
          ∙ ap (λ (ss : List ℕ). ti_block_in ss low block) (sym (append-nil (replicate more size)))
          ∙ group_at more size low block d [] lt a b);
      whole = omega (arith, whole, parts, fits);
    }
