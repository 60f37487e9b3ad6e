-- Strips of runs.
use Rattle.std.proofs.Common.{◌≡◌, ℕ, ◌+◌, ◌-◌, ◌*◌, ◌<◌, ◌≤◌, Some, None, refl, ap, ap₂, sym, ◌∙◌, arith}
use Rattle.std.specs.FinMap.{get}
use Rattle.std.proofs.lemmas.Bool.{cases_lt}
use Rattle.std.proofs.lemmas.Nat.{mul-le, mul-add-lt}
use Rattle.plp_config.specs.declared.config.Config.{Config}
use Rattle.scheduler.specs.Shape.{FrameShape}
use Rattle.cell_map.specs.Address.{IsCell, address_at, position_of, first_position}
use Rattle.cell_map.specs.CellMap.{Passes, cell_map}
use Rattle.cell_map.specs.Laws.{StandsAt}
use Rattle.cell_map.specs.Runs.{RunsAt, IsInside, Skips, IsAtBlock, IsNext, IsCut, IsMark, IsReading, place_in}
use Rattle.cell_map.specs.Stretches.{HasStrip}
use Rattle.cell_map.specs.declared.places.Cell.{Cell}
use Rattle.cell_map.specs.declared.runs.Run.{Run}
use Rattle.cell_map.specs.declared.search.Mark.{Mark}
use Rattle.cell_map.specs.declared.strips.Cut.{Cut}
use Rattle.cell_map.proofs.AtLemmas.{is_carried_at}
use Rattle.cell_map.proofs.MapLemmas.{get-found, get-none}
use Rattle.cell_map.proofs.ReadingLemmas.{ready}

pub inside_of : (c : Config) (shape : FrameShape) (frame address : ℕ) (run : Run) → RunsAt c shape frame address run
    → IsInside run
inside_of c shape frame address run a =
    let is = ready c shape frame address run a in
    record { few = is.few; row = is.row; block = is.block; column = is.column; some = is.left; within = a.runs.within }

-- ---- cuts
pub plain_cut : (run : Run) (limit : ℕ) (first : Cell) → IsInside run → run.columns ≡ 1 → run.size ≡ 1 → 0 < limit
    → limit ≤ run.left
    → first.ordinal ≡ run.first + run.block → first.cell ≡ run.column * run.rows + run.row
    → IsCut run limit (record {
      strip = record { first = first; stride = 1; columns = limit; blocks = 1 };
      rest = record run { left = run.left - limit; row = run.row + limit };
    })
plain_cut run limit first is one alone some most o q =
    let block : run.block ≡ 0 = omega (arith, is.block, alone) in
    let column : run.column ≡ 0 = omega (arith, is.column, one) in
    let width : run.columns * run.size ≡ 1 = ap (λ (n : ℕ). n * run.size) one ∙ omega (arith, alone) in
    let at : (row : ℕ) → row * (run.columns * run.size) ≡ row = λ row. ap (λ (n : ℕ). row * n) width ∙ omega arith in
    let zero_block : run.columns * run.block ≡ 0 = ap (λ (n : ℕ). run.columns * n) block ∙ omega arith in
    let zero_column : run.column * run.rows ≡ 0 = ap (λ (n : ℕ). n * run.rows) column ∙ omega arith in
    let here = at run.row in
    let all = at run.rows in
    let behind : run.row + run.left ≤ run.rows = omega (arith, is.within, here, all, zero_block, column) in
    record {
      cells = λ b z hb hz.
          let b0 : b ≡ 0 = omega arith in
          let none : limit * b ≡ 0 = ap (λ (n : ℕ). limit * n) b0 ∙ omega arith in
          let there = at (run.row + z) in
          record {
            row = run.row + z;
            block = 0;
            column = 0;
            in-rows = omega (arith, behind, hz, most);
            in-ti-block = omega (arith, alone);
            in-block = omega (arith, one);
            place = omega (arith, there, here, zero_block, column, none);
            ordinal-is = omega (arith, o, block, b0);
            cell-is = omega (arith, q, zero_column);
          };
      some = omega arith;
      most = omega arith;
      skips = (let there = at (run.row + limit) in record {
        first = refl;
        rows = refl;
        columns = refl;
        size = refl;
        place = omega (arith, there, here);
        left = omega arith;
        block = is.block;
        column = is.column;
      });
    }

-- the cells of a part of a block, in a row
block_cells_next : (run : Run) (columns : ℕ) (first : Cell) → IsInside run → columns ≤ run.columns - run.column
    → first.ordinal ≡ run.first + run.block → first.cell ≡ run.column * run.rows + run.row
    → (b z : ℕ) → b < 1 → z < columns → IsNext run (columns * b + z) (first.ordinal + b) (first.cell + z * run.rows)
block_cells_next run columns first is most o q b z hb hz =
    let b0 : b ≡ 0 = omega arith in
    let none : columns * b ≡ 0 = ap (λ (n : ℕ). columns * n) b0 ∙ omega arith in
    record {
      row = run.row;
      block = run.block;
      column = run.column + z;
      in-rows = is.row;
      in-ti-block = is.block;
      in-block = omega (arith, most, hz, is.column);
      place = omega (arith, none);
      ordinal-is = omega (arith, o, b0);
      cell-is = omega (arith, q);
    }

pub part_cut : (run : Run) (limit columns : ℕ) (first : Cell) → IsInside run → 0 < limit → limit ≤ run.left
    → columns ≤ limit
    → columns ≤ run.columns - run.column → 0 < columns
    → run.column + columns < run.columns
    → first.ordinal ≡ run.first + run.block → first.cell ≡ run.column * run.rows + run.row
    → IsCut run limit (record {
      strip = record { first = first; stride = run.rows; columns = columns; blocks = 1 };
      rest = record run { left = run.left - columns; column = run.column + columns };
    })
part_cut run limit columns first is some most few fits any more o q = grind (arith, block_cells_next)

pub end_cut : (run rest : Run) (limit columns : ℕ) (first : Cell) → IsInside run → 0 < limit → limit ≤ run.left
    → columns ≤ limit
    → columns ≤ run.columns - run.column → 0 < columns
    → run.column + columns ≡ run.columns → IsAtBlock run (run.block + 1) (run.left - columns) rest
    → first.ordinal ≡ run.first + run.block → first.cell ≡ run.column * run.rows + run.row
    → IsCut run limit (record {
      strip = record { first = first; stride = run.rows; columns = columns; blocks = 1 };
      rest = rest;
    })
end_cut run rest limit columns first is some most few fits any end at o q = grind (arith, block_cells_next)

pub blocks_cut : (run rest : Run) (whole blocks : ℕ) (first : Cell) → IsInside run → run.column ≡ 0 → 0 < whole
    → whole * run.columns ≤ run.left → blocks ≤ whole → blocks ≤ run.size - run.block → 0 < blocks
    → IsAtBlock run (run.block + blocks) (run.left - blocks * run.columns) rest
    → first.ordinal ≡ run.first + run.block → first.cell ≡ run.column * run.rows + run.row
    → IsCut run (whole * run.columns)
    (record {
      strip = record { first = first; stride = run.rows; columns = run.columns; blocks = blocks };
      rest = rest;
    })
blocks_cut run rest whole blocks first is zero_column some most few fits any at o q =
    let fewer : blocks * run.columns ≤ whole * run.columns = mul-le blocks run.columns whole run.columns
    few (omega arith) in
    let turned : run.columns * blocks ≡ blocks * run.columns = omega arith in
    let joined : run.columns * (run.block + blocks) ≡ run.columns * run.block + run.columns * blocks = omega arith in
    let nothing : run.column * run.rows ≡ 0 = ap (λ (n : ℕ). n * run.rows) zero_column ∙ omega arith in
    let positive : run.columns * 1 ≤ run.columns * blocks = mul-le run.columns 1 run.columns blocks (omega arith) any in
    record {
      cells = λ b z hb hz.
          let on : run.columns * (run.block + b) ≡ run.columns * run.block + run.columns * b = omega arith in
          record {
            row = run.row;
            block = run.block + b;
            column = z;
            in-rows = is.row;
            in-ti-block = omega (arith, fits, hb, is.block);
            in-block = hz;
            place = omega (arith, on, zero_column);
            ordinal-is = omega (arith, o);
            cell-is = omega (arith, q, nothing);
          };
      some = omega (arith, positive, is.column);
      most = omega (arith, fewer, turned);
      skips = record {
        first = at.first;
        rows = at.rows;
        columns = at.columns;
        size = at.size;
        place = omega (arith, at.place, joined, zero_column);
        left = omega (arith, at.left, fewer, turned, most);
        block =
            at.block;
        column = omega (arith, at.column, at.columns, is.column);
      };
    }

-- ---- what a strip has
-- a cell so many steps on stands so many addresses on
found_next : (c : Config) (shape : FrameShape) (frame address : ℕ) (run : Run) (i ordinal cell : ℕ)
    → RunsAt c shape frame address run
    → i < run.left → (next : IsNext run i ordinal cell)
    → StandsAt c shape frame (address + i) (record {
      ordinal = run.first + next.block;
      cell = next.column
          * run.rows + next.row;
    })
found_next c shape frame address run i ordinal cell a less next =
    let r = a.runs in
    let h = r.holds next.row next.block next.column next.in-rows next.in-ti-block next.in-block in
    let here : position_of c shape a.plp (r.first + next.block) (next.column * run.rows + next.row)
    ≡ first_position c shape frame a.plp + (a.at + i) = omega (arith, h.value, r.here, next.place) in
    let there : address_at c shape a.plp (a.at + i) ≡ address + i = a.addresses i (omega (arith, less, r.most)) in
    let cell : IsCell c shape a.plp (r.first + next.block) (next.column * run.rows + next.row) =
    record { configured = a.configured; sent = h.sent; within = h.within } in
    let place : position_of c shape a.plp (r.first + next.block) (next.column * run.rows + next.row)
    - first_position c shape frame a.plp ≡ a.at + i = omega (arith, here) in
    record {
      plp = a.plp;
      block = r.first + next.block;
      there = is_carried_at c shape frame a.plp (r.first + next.block) (next.column * run.rows + next.row)
          (a.at + i) cell
          (omega (arith, a.carried, less, r.most)) here;
      value = ap (λ (p : ℕ). address_at c shape a.plp p) place ∙ there;
      ordinal = omega (arith, r.ordinal);
    }

read_next : (c : Config) (shape : FrameShape) (frame address : ℕ) (run : Run) (i ordinal cell : ℕ) → Passes c shape
    → RunsAt c shape frame address run → i < run.left → IsNext run i ordinal cell
    → get (cell_map c shape frame) (address + i) ≡ Some (record { ordinal = ordinal; cell = cell })
read_next c shape frame address run i ordinal cell passes a less next =
    get-found c shape frame (address + i)
    (record { ordinal = run.first + next.block; cell = next.column * run.rows + next.row }) passes
    (found_next c shape frame address run i ordinal cell a less next)
    ∙ ap₂ (λ (o q : ℕ). Some (record { ordinal = o; cell = q })) (sym next.ordinal-is) (sym next.cell-is)

pub strip_here : (c : Config) (shape : FrameShape) (frame address most : ℕ) (run : Run) (cut : Cut) → Passes c shape
    → RunsAt c shape frame address run → IsCut run most cut → HasStrip c shape frame address cut.strip
strip_here c shape frame address most run cut passes a is b z hb hz =
    let wide : z + cut.strip.columns * b < cut.strip.columns * cut.strip.blocks =
    mul-add-lt' b cut.strip.columns z cut.strip.blocks hb hz in
    read_next c shape frame address run (cut.strip.columns * b + z) (cut.strip.first.ordinal + b)
    (cut.strip.first.cell + z * cut.strip.stride) passes a
    (omega (arith, wide, is.skips.left)) (is.cells b z hb hz)
  where
    mul-add-lt' : (b w z h : ℕ) → b < h → z < w → z + w * b < w * h
    mul-add-lt' b w z h p q = let m : b * w + z < w * h = mul-add-lt b w z h p q in omega (arith, m)

-- ---- so many steps on
skipped : (c : Config) (shape : FrameShape) (frame address n : ℕ) (run next : Run) → RunsAt c shape frame address run
    → Skips run next n
    → 0 < next.left → RunsAt c shape frame (address + n) next
skipped c shape frame address n run next a s some =
    let r = a.runs in
    let place : next.row * (run.columns * run.size) + (run.columns * next.block + next.column) ≡ place_in run + n =
    rw (s.columns, s.size) at s.place in
    record {
      plp = a.plp;
      at = a.at + n;
      limit = a.limit - n;
      configured = a.configured;
      runs = record {
        first = r.first;
        ordinal = s.first ∙ r.ordinal;
        holds = λ row block column hr hb hc. rw (s.rows, s.columns, s.size)
            (r.holds row block column (rw s.rows at hr) (rw s.size at hb) (rw s.columns at hc));
        here = omega (arith, r.here, s.place);
        block = s.block;
        column = s.column;
        some = some;
        most = omega (arith, r.most, s.left);
        within = rw (s.rows, s.columns, s.size) (omega (arith, r.within, place, s.left));
        few = rw (s.rows, s.size, s.columns, s.first) r.few;
      };
      carried = omega (arith, a.carried, r.most, s.left);
      addresses = λ i less.
          let e : a.at + n + i ≡ a.at + (n + i) = omega arith in
          let there : address_at c shape a.plp (a.at + (n + i)) ≡ address + n + i =
          omega (arith, a.addresses (n + i) (omega arith)) in
          ap (λ (p : ℕ). address_at c shape a.plp p) e ∙ there;
    }

pub reading_found : (c : Config) (shape : FrameShape) (frame address n : ℕ) (before run next : Run) (old mark : Mark)
    (dummy : ℕ)
    → IsReading c shape frame address before old dummy → address + n ≤ c.cells → dummy ≡ 0
    → RunsAt c shape frame address run → IsMark c shape mark → Skips run next n → IsReading c shape frame
    (address + n) next mark dummy
reading_found c shape frame address n before run next old mark dummy is inside none a m s = grind (arith, skipped)

-- the same of the run in hand
pub reading_cut : (c : Config) (shape : FrameShape) (frame address n : ℕ) (run next : Run) (mark : Mark) (dummy : ℕ)
    → IsReading c shape frame address run mark dummy → address + n ≤ c.cells → 0 < run.left
    → Skips run next n → IsReading c shape frame (address + n) next mark dummy
reading_cut c shape frame address n run next mark dummy is inside some s = grind (arith, cases_lt, reading_found)

-- where none stands
pub dummies_here : (c : Config) (shape : FrameShape) (frame address i : ℕ) (run : Run) (mark : Mark) (dummy : ℕ)
    → IsReading c shape frame address run mark dummy → i < dummy → get (cell_map c shape frame) (address + i) ≡ None
dummies_here c shape frame address i run mark dummy is less = grind (arith, get-none)
