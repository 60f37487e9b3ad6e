-- Runs of cells whose places follow from one another.
use Rattle.std.proofs.Common.{◌≡◌, ℕ, zero, suc, ◌+◌, ◌-◌, ◌*◌, ◌/◌, ◌%◌, ◌<◌, ◌≤◌, min, ◌^◌, refl, ap, sym, arith}
use Rattle.std.proofs.Common.{length}
use Rattle.std.proofs.lemmas.Nat.{div-mul-add, mod-mul-add, div_below, mul-add-lt}
use Rattle.cell_map.specs.declared.interleaving.TiBlock.{TiBlock}
use Rattle.cell_map.specs.Interleaver.{ti_block_of}
use Rattle.cell_map.specs.Runs.{Holds, RunsFrom, Steps}
use Rattle.cell_map.specs.declared.runs.Run.{Run}
use Rattle.cell_map.proofs.PositionLemmas.{Law, ti_block_law, fifth_of, lies_in}
use Rattle.cell_map.proofs.RadixLemmas.{radix_whole}

-- the cell at a place of a TI-block
in_rows : (cells length n : ℕ) (g : TiBlock) → cells % 5 ≡ 0 → g.first + g.size ≤ n
    → ((other : ℕ) → g.first ≤ other → other < g.first + g.size → ti_block_of n (suc length) other ≡ g)
    → (row block column : ℕ) → row < cells / 5 → block < g.size → column < 5
    → Holds cells (suc length) n (g.first * cells + (row * (5 * g.size) + (5 * block + column))) (g.first + block)
    (column * (cells / 5) + row)
in_rows cells length n g f whole same row block column hr hb hc =
    grind (arith, fifth_of, div-mul-add, mod-mul-add, mul-add-lt)

-- a run begins at a position of a TI-block
interleaved : (cells length n before at limit left : ℕ) (g : TiBlock) → cells % 5 ≡ 0 → at < n * cells → n < 2 ^ 10
    → cells < 2 ^ 15
    → before < 2 ^ 20 → 0 < limit
    → g ≡ ti_block_of n (suc length) (at / cells) → left ≡ min limit (g.size * cells - (at - g.first * cells))
    → RunsFrom cells (suc length) n before at limit (record {
      left = left;
      first = before + g.first;
      rows = cells / 5;
      columns = 5;
      size = g.size;
      row = (at - g.first * cells) / (5 * g.size);
      block = (at - g.first * cells) % (5 * g.size) / 5;
      column = (at - g.first * cells) % (5 * g.size) % 5;
    })
interleaved cells length n before at limit left g f h few short small some e m =
    let positive : 0 < cells =
    elim cells as (λ (k : ℕ). at < n * k → 0 < k) [
      | zero ↦ (λ (x : at < n * 0). absurd (omega arith))
      | suc k ↦
          (λ (x : at < n * suc k). omega arith)
    ] h in
    let inside : at / cells < n = div_below at cells n positive h in
    let law : Law n (suc length) (at / cells) g = rw e (ti_block_law n (suc length) (at / cells) (omega arith)
    inside) in
    let l = lies_in cells at g positive law.before law.behind in
    let r : ℕ = cells / 5 in
    let rest : ℕ = at - g.first * cells in
    let fifth : cells ≡ 5 * r = fifth_of cells f in
    let has : 0 < g.size = omega (arith, law.before, law.behind) in
    let size : 5 * r * g.size ≡ cells * g.size = ap (λ (k : ℕ). k * g.size) (sym fifth) in
    let within : rest < 5 * r * g.size = omega (arith, l.to, size) in
    let w = radix_whole r g.size rest has within in
    record {
      first = g.first;
      ordinal = refl;
      holds = in_rows cells length n g f law.whole law.same;
      here = omega (arith, w.again, l.from);
      block = w.block;
      column = w.column;
      some = omega (arith, m, l.to, some);
      most = omega (arith, m);
      within = omega (arith, w.again, m, size, l.to);
      few = (
        omega (arith, short, fifth),
        omega (arith, few, law.whole),
        omega arith,
        omega
            (arith, small, few, law.whole, has),
      );
    }

pub interleaved_is : (cells length n before at limit left : ℕ) (g : TiBlock) → 0 < length → cells % 5 ≡ 0
    → at < n * cells
    → n < 2 ^ 10
    → cells < 2 ^ 15 → before < 2 ^ 20 → 0 < limit
    → g ≡ ti_block_of n length (at / cells) → left ≡ min limit (g.size * cells - (at - g.first * cells))
    → RunsFrom cells length n before at limit (record {
      left = left;
      first = before + g.first;
      rows = cells / 5;
      columns = 5;
      size = g.size;
      row = (at - g.first * cells) / (5 * g.size);
      block = (at - g.first * cells) % (5 * g.size) / 5;
      column = (at - g.first * cells) % (5 * g.size) % 5;
    })
interleaved_is cells zero n before at limit left g long f h few short small some e m = absurd (omega arith)
interleaved_is cells (suc length) n before at limit left g long f h few short small some e m =
    interleaved cells length n before at limit left g f h few short small some e m

-- and lies within it
pub lies_within : (cells length n at : ℕ) (g : TiBlock) → 0 < length → at < n * cells → g.first ≤ at / cells
    → at / cells < g.first + g.size
    → (g.first * cells ≤ at) × (at - g.first * cells < g.size * cells)
lies_within cells length n at g long h before behind = grind (arith, lies_in)

pub to_row : (run : Run) → 0 < run.left → run.column < run.columns → run.columns ≤ run.column + 1 → run.block < run.size
    → run.size ≤ run.block + 1
    → Steps run (record run { left = run.left - 1; column = 0; block = 0; row = run.row + 1 })
to_row run some column last block end =
    let size : run.block + 1 ≡ run.size = omega arith in
    let e : run.columns * (run.block + 1) ≡ run.columns * run.size = ap (λ (n : ℕ). run.columns * n) size in
    record {
      first = refl;
      rows = refl;
      columns = refl;
      size = refl;
      place = omega (arith, e);
      left = omega arith;
      block = omega arith;
      column = omega arith;
    }
