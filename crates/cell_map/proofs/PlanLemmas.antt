-- What the rules and the tests of a plan say of a PLP.
use Rattle.std.proofs.Common.{◌≡◌, ℕ, ◌*◌, ◌%◌, ◌<◌, ◌≤◌, Bool, true, false, cond, length, refl, lit≤, arith}
use Rattle.plp_config.proofs.SpreadLemmas.{cells_in_parts}
use Rattle.plp_config.specs.Capacity.{IsPlan, block_cells, EvenParts}
use Rattle.plp_config.specs.Plps.{plp_at, has_type2, spread}
use Rattle.plp_config.specs.Rules.{BlockLimit, InterleaverLength, SubSlices, SpreadDivides}
use Rattle.plp_config.specs.Tables.{cells_per_block}
use Rattle.plp_config.specs.declared.config.Config.{Config}
use Rattle.plp_config.specs.declared.plp.FecSize.{FecSize}
use Rattle.plp_config.specs.declared.plp.FecSize.TheVariants.{Short, Normal}
use Rattle.plp_config.specs.declared.plp.Modulation.{Modulation}
use Rattle.plp_config.specs.declared.plp.Modulation.TheVariants.{Qpsk, Qam16, Qam64, Qam256}
use Rattle.scheduler.specs.Shape.{in_type2}
use Rattle.cell_map.specs.Slices.{slice_count}

-- the cells of a block are cut by five
abbrev pub Five : ℕ → Type 0
Five cells = (cells % 5 ≡ 0) × (2025 ≤ cells) × (cells ≤ 32400)

pub five : (fec : FecSize) (modulation : Modulation) → Five (cells_per_block fec modulation)
five Normal Qpsk = (refl, lit≤ tt, lit≤ tt)
five Normal Qam16 = (refl, lit≤ tt, lit≤ tt)
five Normal Qam64 = (refl, lit≤ tt, lit≤ tt)
five Normal Qam256 = (refl, lit≤ tt, lit≤ tt)
five Short Qpsk = (refl, lit≤ tt, lit≤ tt)
five Short Qam16 = (refl, lit≤ tt, lit≤ tt)
five Short Qam64 = (refl, lit≤ tt, lit≤ tt)
five Short Qam256 = (refl, lit≤ tt, lit≤ tt)

pub block_cells-five : (c : Config) (plp : ℕ) → Five (block_cells c plp)
unfolding block_cells
block_cells-five c plp = five (plp_at c.plps plp).fec (plp_at c.plps plp).modulation

sub_slices-by : (c : Config) → IsPlan c → (has : Bool) → has_type2 c.plps ≡ has → (1 ≤ c.sub_slices)
    × (c.sub_slices ≤ 6480)
sub_slices-by c is true h = let range : (2 ≤ c.sub_slices) × (c.sub_slices ≤ 6480) = rw h at (is.rules SubSlices) in
    (omega (arith, range), range.1)
sub_slices-by c is false h = let one : c.sub_slices ≡ 1 = rw h at (is.rules SubSlices) in
    (omega (arith, one), omega (arith, one))

pub sub_slices-range : (c : Config) → IsPlan c → (1 ≤ c.sub_slices) × (c.sub_slices ≤ 6480)
sub_slices-range c is = sub_slices-by c is (has_type2 c.plps) refl

pub sub_slices-some : (c : Config) → IsPlan c → 0 < c.sub_slices
sub_slices-some c is = omega (arith, sub_slices-range c is)

pub record PlanRow (c : Config) (plp : ℕ) : Type 0 where
  pub some : 0 < block_cells c plp
  pub least : 2025 ≤ block_cells c plp
  pub greatest : block_cells c plp ≤ 32400
  pub fifth : block_cells c plp % 5 ≡ 0
  pub wide : 1 ≤ spread c.plps plp
  pub parts : block_cells c plp % (slice_count c plp * spread c.plps plp) ≡ 0
  pub whole : block_cells c plp % spread c.plps plp ≡ 0
  pub few : (plp_at c.plps plp).blocks ≤ 1023
  pub interleave : (plp_at c.plps plp).interleave ≤ 255
  pub one : 1 ≤ slice_count c plp
  pub most : slice_count c plp ≤ 6480

count-range : (second : Bool) (n : ℕ) → (1 ≤ n) × (n ≤ 6480) → (1 ≤ cond second n 1) × (cond second n 1 ≤ 6480)
count-range true n h = h
count-range false n h = (omega arith, omega arith)

pub plan_row : (c : Config) (plp : ℕ) → IsPlan c → plp < length c.plps → PlanRow c plp
plan_row c plp is h =
    let cells = block_cells-five c plp in
    let counts = count-range (in_type2 c plp) c.sub_slices (sub_slices-range c is) in
    record {
      some = omega (arith, cells);
      least = cells.1;
      greatest = cells.2;
      fifth = cells.0;
      wide = (is.rules SpreadDivides plp h).0;
      parts = is.tests EvenParts plp h;
      whole = cells_in_parts c plp is h;
      few = (is.rules BlockLimit plp h).1;
      interleave = omega (arith, is.rules InterleaverLength plp h);
      one = counts.0;
      most = counts.1;
    }
