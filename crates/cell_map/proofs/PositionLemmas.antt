-- Positions are the numbers below blocks times cells, each once.
use Rattle.std.proofs.Common.{◌≡◌, ℕ, zero, suc, ◌+◌, ◌-◌, ◌*◌, ◌/◌, ◌%◌, ◌<◌, ◌≤◌, refl, ap, sym, ◌∙◌, arith}
use Rattle.std.proofs.lemmas.Nat.{div-add-mod', mod_below, div-mul-add, mod-mul-add, div_below, mul-add-lt, mul-le}
use Rattle.std.proofs.lemmas.Nat.{le-div}
use Rattle.std.proofs.lemmas.Nat.{same_from_place}
use Rattle.cell_map.specs.declared.interleaving.TiBlock.{TiBlock}
use Rattle.cell_map.specs.Laws.{InterleaverFillsOnce}
use Rattle.cell_map.specs.Interleaver.{sizes_of, ti_block_of, in_ti_block, position}
use Rattle.cell_map.proofs.TiBlockLemmas.{around, total, total-sizes}
use Rattle.cell_map.proofs.RadixLemmas.{column_below, radix_below, radix_parts, radix_whole}

pub record Law (n parts block : ℕ) (g : TiBlock) : Type 0 where
  pub before : g.first ≤ block
  pub behind : block < g.first + g.size
  pub whole : g.first + g.size ≤ n
  pub same : (other : ℕ) → g.first ≤ other → other < g.first + g.size → ti_block_of n parts other ≡ g

pub ti_block_law : (n parts block : ℕ) → 0 < parts → block < n → Law n parts block (ti_block_of n parts block)
unfolding ti_block_of
ti_block_law n parts block some h =
    let all = total-sizes n parts some in
    let start : 0 ≤ block = omega arith in
    let end : block < 0 + total (sizes_of n parts) = omega (arith, all) in
    let r = around (sizes_of n parts) 0 block start end in
    record { before = r.before; behind = r.behind; whole = omega (arith, all, r.whole); same = r.same }

-- a cell stands within its TI-block
pub record Stands (cells r : ℕ) (g : TiBlock) (block cell z : ℕ) : Type 0 where
  pub is : z ≡ cell % r * (5 * g.size) + (5 * (block - g.first) + cell / r)
  pub within : z < 5 * r * g.size
  pub row : cell % r < r
  pub column : cell / r < 5
  pub inner : block - g.first < g.size

pub stands : (cells r : ℕ) (g : TiBlock) (block cell : ℕ) → cells ≡ 5 * r → g.first ≤ block → block < g.first + g.size
    → cell < cells →
    Stands cells r g block cell (cell % r * (5 * g.size) + (5 * (block - g.first) + cell / r))
stands cells r g block cell fifth before behind h =
    let some : 0 < r = omega arith in
    let short : cell < 5 * r = omega arith in
    let t : cell % r < r = mod_below cell r some in
    let d : block - g.first < g.size = omega arith in
    let c : cell / r < 5 = column_below cell r some short in
    record {
      is = refl;
      within = radix_below r g.size (cell % r) (block - g.first) (cell / r) t d c;
      row = t;
      column = c;
      inner = d;
    }

pub fifth_of : (cells : ℕ) → cells % 5 ≡ 0 → cells ≡ 5 * (cells / 5)
fifth_of cells h = omega arith

-- a position lies below the number of all cells
pub position_below : (cells parts n block cell : ℕ) → cells % 5 ≡ 0 → block < n → cell < cells
    → position cells parts n block cell < n * cells
position_below cells zero n block cell f b c = let m : block * cells + cell < cells * n = mul-add-lt
    block cells cell n b c in
    omega (arith, m)
position_below cells (suc parts) n block cell f b c =
    let g = ti_block_of n (suc parts) block in
    let law = ti_block_law n (suc parts) block (omega arith) b in
    let fifth = fifth_of cells f in
    let s = stands cells (cells / 5) g block cell fifth law.before law.behind c in
    let size : 5 * (cells / 5) * g.size ≡ cells * g.size = ap (λ (k : ℕ). k * g.size) (sym fifth) in
    let most : (g.first + g.size) * cells ≤ n * cells = mul-le (g.first + g.size) cells n cells law.whole
    (omega arith) in
    omega (arith, s.within, size, most)

-- the place at a position
abbrev pub block_at : ℕ → TiBlock → ℕ
block_at rest g = g.first + rest % (5 * g.size) / 5

abbrev pub cell_at : ℕ → ℕ → TiBlock → ℕ
cell_at r rest g = rest % (5 * g.size) % 5 * r + rest / (5 * g.size)

pub record Holds (cells parts n at b q : ℕ) : Type 0 where
  pub block : b < n
  pub cell : q < cells
  pub value : position cells parts n b q ≡ at

pub record In (cells : ℕ) (g : TiBlock) (at : ℕ) : Type 0 where
  pub from : g.first * cells ≤ at
  pub to : at - g.first * cells < g.size * cells

pub lies_in : (cells at : ℕ) (g : TiBlock) → 0 < cells → g.first ≤ at / cells → at / cells < g.first + g.size
    → In cells g at
lies_in cells at g some before behind =
    let all = div-add-mod' at cells in
    let m : at % cells < cells = mod_below at cells some in
    let low : g.first * cells ≤ at / cells * cells = mul-le g.first cells (at / cells) cells before (omega arith) in
    let up : at / cells + 1 ≤ g.first + g.size = omega arith in
    let high : (at / cells + 1) * cells ≤ (g.first + g.size) * cells =
    mul-le (at / cells + 1) cells (g.first + g.size) cells up (omega arith) in
    record { from = omega (arith, all, low); to = omega (arith, all, low, high, m) }

pub holds : (cells parts n at : ℕ) → cells % 5 ≡ 0 → at < n * cells →
    (let g = ti_block_of n (suc parts) (at / cells) in
    let rest = at - g.first * cells in
    Holds cells (suc parts) n at (block_at rest g) (cell_at (cells / 5) rest g))
holds cells parts n at f h =
    let some : 0 < cells =
    elim cells as (λ (k : ℕ). at < n * k → 0 < k) [
      | zero ↦ (λ (x : at < n * 0). absurd (omega arith))
      | suc k ↦
          (λ (x : at < n * suc k). omega arith)
    ] h in
    let inside : at / cells < n = div_below at cells n some h in
    let g = ti_block_of n (suc parts) (at / cells) in
    let rest = at - g.first * cells in
    let r = cells / 5 in
    let law = ti_block_law n (suc parts) (at / cells) (omega arith) inside in
    let fifth : cells ≡ 5 * r = fifth_of cells f in
    let l = lies_in cells at g some law.before law.behind in
    let has : 0 < g.size = omega (arith, law.before, law.behind) in
    let size : 5 * r * g.size ≡ cells * g.size = ap (λ (k : ℕ). k * g.size) (sym fifth) in
    let within : rest < 5 * r * g.size = omega (arith, l.to, size) in
    let w = radix_whole r g.size rest has within in
    let block = block_at rest g in
    let cell = cell_at r rest g in
    let low : g.first ≤ block = omega arith in
    let high : block < g.first + g.size = omega (arith, w.block) in
    let one : ti_block_of n (suc parts) block ≡ g = law.same block low high in
    let column : cell / r ≡ rest % (5 * g.size) % 5 = div-mul-add (rest % (5 * g.size) % 5) r (rest / (5 * g.size))
    w.row in
    let row : cell % r ≡ rest / (5 * g.size) = mod-mul-add (rest % (5 * g.size) % 5) r (rest / (5 * g.size)) w.row in
    let inner : block - g.first ≡ rest % (5 * g.size) / 5 = omega arith in
    let small : cell < r * 5 = mul-add-lt (rest % (5 * g.size) % 5) r (rest / (5 * g.size)) 5 w.column w.row in
    let again : in_ti_block cells g block cell ≡ at = rw (column, row, inner) (omega (arith, w.again, l.from)) in
    record {
      block = omega (arith, high, law.whole);
      cell = omega (arith, small, fifth);
      value = ap (λ (x : TiBlock). in_ti_block cells x block cell) one ∙ again;
    }

pub only : (cells parts n at b q : ℕ) → cells % 5 ≡ 0 → b < n → q < cells → position cells (suc parts) n b q ≡ at →
    (let g = ti_block_of n (suc parts) (at / cells) in
    let rest = at - g.first * cells in
    (b ≡ block_at rest g) × (q ≡ cell_at (cells / 5) rest g))
only cells parts n at b q f hb hq e =
    let r = cells / 5 in
    let g = ti_block_of n (suc parts) b in
    let law = ti_block_law n (suc parts) b (omega arith) hb in
    let fifth : cells ≡ 5 * r = fifth_of cells f in
    let some : 0 < cells = omega arith in
    let s = stands cells r g b q fifth law.before law.behind hq in
    let z : ℕ = q % r * (5 * g.size) + (5 * (b - g.first) + q / r) in
    let size : 5 * r * g.size ≡ cells * g.size = ap (λ (k : ℕ). k * g.size) (sym fifth) in
    let sum : at ≡ g.first * cells + z = omega (arith, e) in
    let least : g.first ≤ at / cells = le-div g.first at cells some (omega (arith, sum)) in
    let most : at / cells < g.first + g.size = div_below at cells (g.first + g.size) some
    (omega (arith, sum, s.within, size)) in
    let one : ti_block_of n (suc parts) (at / cells) ≡ g = law.same (at / cells) least most in
    let rest : at - g.first * cells ≡ z = omega (arith, sum) in
    let p = radix_parts r g.size (q % r) (b - g.first) (q / r) s.row s.inner s.column in
    let back = div-add-mod' q r in
    let here : b ≡ block_at z g = omega (arith, p.block, law.before) in
    let there : q ≡ cell_at r z g = rw (p.column, p.row) (sym back) in
    rw (one, rest) (here, there)

pub below_in : (cells parts n block cell : ℕ) (g : TiBlock) → 0 < parts → g ≡ ti_block_of n parts block → cells % 5 ≡ 0
    → block < n
    → cell < cells → in_ti_block cells g block cell < n * cells
below_in cells zero n block cell g some e f b c = absurd (omega arith)
below_in cells (suc parts) n block cell g some e f b c = rw e (position_below cells (suc parts) n block cell f b c)

pub holds_at : (cells parts n at : ℕ) (g : TiBlock) → 0 < parts → g ≡ ti_block_of n parts (at / cells) → cells % 5 ≡ 0
    → at < n * cells →
    Holds cells parts n at (block_at (at - g.first * cells) g) (cell_at (cells / 5) (at - g.first * cells) g)
holds_at cells zero n at g some e f h = absurd (omega arith)
holds_at cells (suc parts) n at g some e f h = rw e (holds cells parts n at f h)

pub only_at : (cells parts n at : ℕ) (g : TiBlock) → 0 < parts → g ≡ ti_block_of n parts (at / cells)
    → cells % 5 ≡ 0 → (b q : ℕ)
    → b < n → q < cells → position cells parts n b q ≡ at →
    (b ≡ block_at (at - g.first * cells) g) × (q ≡ cell_at (cells / 5) (at - g.first * cells) g)
only_at cells zero n at g some e f b q hb hq h = absurd (omega arith)
only_at cells (suc parts) n at g some e f b q hb hq h = rw e (only cells parts n at b q f hb hq h)

-- two cells at one position are one
pub position_one : (cells parts n b q d r : ℕ) → cells % 5 ≡ 0 → b < n → q < cells → d < n → r < cells →
    position cells parts n b q ≡ position cells parts n d r → (b ≡ d) × (q ≡ r)
position_one cells zero n b q d r f hb hq hd hr e = same_from_place b q d r cells hq hr e
position_one cells (suc parts) n b q d r f hb hq hd hr e =
    let x = only cells parts n (position cells (suc parts) n d r) b q f hb hq e in
    let y = only cells parts n (position cells (suc parts) n d r) d r f hd hr refl in
    (x.0 ∙ sym y.0, x.1 ∙ sym y.1)

-- each position has a cell
pub placed : (cells parts n p : ℕ) → 0 < cells → cells % 5 ≡ 0 → p < n * cells → (b : ℕ)
    × ((q : ℕ) × Holds cells parts n p b q)
placed cells zero n p some f h =
    let all = div-add-mod' p cells in
    (p / cells, (p % cells, record { block = div_below p cells n some h; cell = mod_below p cells some; value = all }))
placed cells (suc parts) n p some f h =
    let g = ti_block_of n (suc parts) (p / cells) in
    let rest = p - g.first * cells in
    (block_at rest g, (cell_at (cells / 5) rest g, holds cells parts n p f h))

pub fills_once : InterleaverFillsOnce
fills_once cells length n some fifth = record {
  below = λ b q hb hq. position_below cells length n b q fifth hb hq;
  apart = λ b q d r hb hq hd hr e. position_one cells length n b q d r fifth hb hq hd hr e;
  onto = λ p h. let (b, (q, x)) = placed cells length n p some fifth h in (b, q, x.block, x.cell, x.value);
}
