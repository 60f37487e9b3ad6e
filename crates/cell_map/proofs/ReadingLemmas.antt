-- From address to address along a run.
use Rattle.std.proofs.Common.{◌≡◌, ℕ, ◌+◌, ◌-◌, ◌*◌, ◌<◌, ◌≤◌, ◌^◌, Some, None, ap, sym, ◌∙◌, arith, length}
use Rattle.std.proofs.Common.{sum, take}
use Rattle.std.specs.Prelude.{slice_index}
use Rattle.std.specs.FinMap.{get}
use Rattle.std.proofs.lemmas.Bool.{cases_lt}
use Rattle.std.proofs.lemmas.Nat.{mul-le}
use Rattle.plp_config.specs.Capacity.{IsPlan, block_cells}
use Rattle.plp_config.specs.Plps.{plp_at}
use Rattle.plp_config.specs.declared.config.Config.{Config}
use Rattle.scheduler.specs.Shape.{FrameShape, in_type2, cells_of}
use Rattle.cell_map.specs.Address.{IsCell, address_at, position_of, first_position}
use Rattle.cell_map.specs.CellMap.{Passes, cell_map}
use Rattle.cell_map.specs.Laws.{StandsAt}
use Rattle.cell_map.specs.Slices.{slices_of}
use Rattle.cell_map.specs.Runs.{RunsFrom, RunsAt, Steps, IsMark, IsReading, place_in}
use Rattle.cell_map.specs.declared.places.Cell.{Cell}
use Rattle.cell_map.specs.declared.runs.Run.{Run}
use Rattle.cell_map.specs.declared.search.Mark.{Mark}
use Rattle.cell_map.specs.declared.slices.Slices.{Slices}
use Rattle.cell_map.proofs.AtLemmas.{address_law, cut_of, is_carried_at}
use Rattle.cell_map.proofs.MapLemmas.{get-found, get-none}

row_below : (row rows w x : ℕ) → row * w + x < rows * w → row < rows
row_below row rows w x h = grind (arith, cases_lt, mul-le)

-- what a run needs for its next cell
pub record Ready (run : Run) : Type 0 where
  pub few : (run.rows < 2 ^ 15) × (run.size < 2 ^ 10) × (run.columns ≤ 5) × (run.first < 2 ^ 21)
  pub row : run.row < run.rows
  pub block : run.block < run.size
  pub column : run.column < run.columns
  pub left : 0 < run.left

pub ready : (c : Config) (shape : FrameShape) (frame address : ℕ) (run : Run) → RunsAt c shape frame address run
    → Ready run
ready c shape frame address run a =
    let r = a.runs in
    let row = row_below run.row run.rows (run.columns * run.size) (run.columns * run.block + run.column)
    (omega (arith, r.within, r.some)) in
    record { few = r.few; row = row; block = r.block; column = r.column; left = r.some }

-- its next cell stands at the address
found_run : (c : Config) (shape : FrameShape) (frame address : ℕ) (run : Run) → RunsAt c shape frame address run
    → StandsAt c shape frame address (record {
      ordinal = run.first + run.block;
      cell = run.column *
          run.rows + run.row;
    })
found_run c shape frame address run a =
    let r = a.runs in
    let is = ready c shape frame address run a in
    let h = r.holds run.row run.block run.column is.row r.block r.column in
    let none : 0 < a.limit = omega (arith, r.some, r.most) in
    let here : position_of c shape a.plp (r.first + run.block) (run.column * run.rows + run.row)
    ≡ first_position c shape frame a.plp + (a.at + 0) = omega (arith, h.value, r.here) in
    let first : address_at c shape a.plp (a.at + 0) ≡ address = omega (arith, a.addresses 0 none) in
    let cell : IsCell c shape a.plp (r.first + run.block) (run.column * run.rows + run.row) =
    record { configured = a.configured; sent = h.sent; within = h.within } in
    let place : position_of c shape a.plp (r.first + run.block) (run.column * run.rows + run.row)
    - first_position c shape frame a.plp ≡ a.at + 0 = omega (arith, here) in
    record {
      plp = a.plp;
      block = r.first + run.block;
      there = is_carried_at c shape frame a.plp (r.first + run.block) (run.column * run.rows + run.row) (a.at + 0) cell
          (omega (arith, a.carried, none)) here;
      value = ap (λ (p : ℕ). address_at c shape a.plp p) place ∙ first;
      ordinal = omega (arith, r.ordinal);
    }

pub read : (c : Config) (shape : FrameShape) (frame address : ℕ) (run : Run) (cell : Cell) → Passes c shape
    → RunsAt c shape frame address run
    → cell.ordinal ≡ run.first + run.block → cell.cell ≡ run.column * run.rows + run.row
    → Some cell ≡ get (cell_map c shape frame) address
read c shape frame address run cell passes a e f =
    let same : cell ≡ record { ordinal = run.first + run.block; cell = run.column * run.rows + run.row } =
    ap (λ (n : ℕ). record { ordinal = n; cell = cell.cell }) e
    ∙ ap (λ (n : ℕ). record { ordinal = run.first + run.block; cell = n }) f in
    ap (λ (x : Cell). Some x) same
    ∙ sym (get-found c shape frame address
    (record { ordinal = run.first + run.block; cell = run.column * run.rows + run.row }) passes
    (found_run c shape frame address run a))

-- one step on
advance : (c : Config) (shape : FrameShape) (frame address : ℕ) (run next : Run) → RunsAt c shape frame address run
    → Steps run next
    → 0 < next.left → RunsAt c shape frame (address + 1) next
advance c shape frame address run next a s some =
    let r = a.runs in
    let place : next.row * (run.columns * run.size) + (run.columns * next.block + next.column) ≡ place_in run + 1 =
    rw (s.columns, s.size) at s.place in
    record {
      plp = a.plp;
      at = a.at + 1;
      limit = a.limit - 1;
      configured = a.configured;
      runs = record {
        first = r.first;
        ordinal = s.first ∙ r.ordinal;
        holds = λ row block column hr hb hc. rw (s.rows, s.columns, s.size)
            (r.holds row block column (rw s.rows at hr) (rw s.size at hb) (rw s.columns at hc));
        here = omega (arith, r.here, s.place);
        block = s.block;
        column = s.column;
        some = some;
        most = omega (arith, r.most, s.left);
        within = rw (s.rows, s.columns, s.size) (omega (arith, r.within, place, s.left));
        few = rw (s.rows, s.size, s.columns, s.first) r.few;
      };
      carried = omega (arith, a.carried, r.some, r.most);
      addresses = λ i less.
          let e : a.at + 1 + i ≡ a.at + (i + 1) = omega arith in
          let there : address_at c shape a.plp (a.at + (i + 1)) ≡ address + 1 + i =
          omega (arith, a.addresses (i + 1) (omega arith)) in
          ap (λ (p : ℕ). address_at c shape a.plp p) e ∙ there;
    }

pub reading_on : (c : Config) (shape : FrameShape) (frame address : ℕ) (before run next : Run) (old mark : Mark)
    (dummy : ℕ)
    → IsReading c shape frame address before old dummy → address < c.cells → dummy ≡ 0
    → RunsAt c shape frame address run → IsMark c shape mark → Steps run next → IsReading c shape frame
    (address + 1) next mark dummy
reading_on c shape frame address before run next old mark dummy is inside none a m s = record {
  plps = is.plps;
  passes = is.passes;
  few = is.few;
  inside = omega (arith, inside);
  first = m;
  next = λ some. advance c shape frame address run next a s some;
  free = λ plp b q cell far. omega (arith, far, none);
  one = λ some. absurd (omega (arith, some, none));
}

-- the same of the run in hand
pub reading_hand : (c : Config) (shape : FrameShape) (frame address : ℕ) (run next : Run) (mark : Mark) (dummy : ℕ)
    → IsReading c shape frame address run mark dummy → address < c.cells → 0 < run.left
    → Steps run next → IsReading c shape frame (address + 1) next mark dummy
reading_hand c shape frame address run next mark dummy is inside some s = grind (arith, cases_lt, reading_on)

pub dummy_here : (c : Config) (shape : FrameShape) (frame address : ℕ) (run : Run) (mark : Mark) (dummy : ℕ)
    → IsReading c shape frame address run mark dummy → 0 < dummy → None ≡ get (cell_map c shape frame) address
dummy_here c shape frame address run mark dummy is some = grind (arith, get-none)

-- a run begins where a PLP has a place of a slice
pub begins : (c : Config) (shape : FrameShape) (frame plp : ℕ) (a : Slices)
    (interval address wide k t cells interleave count before at limit : ℕ) (run : Run)
    → IsPlan c → plp < length c.plps → a ≡ slices_of c shape plp → interval ≡ shape.interval → wide ≡ address
    → cells ≡ block_cells c plp → interleave ≡ (plp_at c.plps plp).interleave → count ≡ slice_index shape.counts plp
    → before ≡ sum (take plp shape.counts)
    → k < a.count → t < a.len → a.start + k * interval + t ≡ wide → at ≡ first_position c shape frame
    plp + (k * a.len + t)
    → limit ≡ a.len - t → RunsFrom cells interleave count before at limit run → RunsAt c shape frame address run
begins c shape frame plp a interval address wide k t cells interleave count before at limit run is inside
    e f g h l m o hk ht here
    place
    rest runs =
    let s = slices_of c shape plp in
    let hk' : k < s.count = rw e at hk in
    let ht' : t < s.len = rw e at ht in
    let here' : s.start + k * shape.interval + t ≡ address = rw (e, f, g) at here in
    let z : ℕ = k * s.len + t in
    let place' : at ≡ first_position c shape frame plp + z = rw e at place in
    let rest' : limit ≡ s.len - t = rw e at rest in
    let runs' : RunsFrom (block_cells c plp) (plp_at c.plps plp).interleave (slice_index shape.counts plp)
    (sum (take plp shape.counts)) (first_position c shape frame plp + z) limit run = rw (h, l, m, o, place') at runs in
    let product : (k + 1) * s.len ≤ s.count * s.len = mul-le (k + 1) s.len s.count s.len (omega (arith, hk'))
    (omega arith) in
    record {
      plp = plp;
      at = z;
      limit = limit;
      configured = inside;
      runs = runs';
      carried = omega (arith, product, rest', ht', cut_of c shape plp is inside);
      addresses = λ i less.
          let inner : t + i < s.len = omega (arith, rest', ht') in
          let p : z + i ≡ k * s.len + (t + i) = omega arith in
          let law : address_at c shape plp (k * s.len + (t + i)) ≡ s.start + k * shape.interval + (t + i) =
          address_law (in_type2 c plp) (cells_of c shape.counts plp) c.sub_slices
          (slice_index shape.starts plp) shape.interval k (t + i) hk' inner in
          ap (λ (q : ℕ). address_at c shape plp q) p ∙ omega (arith, law, here');
    }
