-- The tests of the capacity where each interleaving frame is carried by one frame.
use Rattle.std.proofs.Common.{◌≡◌, ℕ, suc, ◌+◌, ◌*◌, ◌/◌, ◌<◌, ◌≤◌, cond, List, [], ◌∷◌, length, sum_by, ap, sym, ◌∙◌}
use Rattle.std.proofs.Common.{arith, subst}
use Rattle.std.specs.Int.{div_ceil}
use Rattle.std.proofs.Math.Nat.{mul-le-mul_left, le_of_mul-le-mul_right, add-mul}
use Rattle.std.proofs.lemmas.List.Sums.{sum_by-cons}
use Rattle.plp_config.proofs.NeedLemmas.{div_ceil-le}
use Rattle.plp_config.proofs.SpreadLemmas.{spread_greatest}
use Rattle.plp_config.proofs.TableLemmas.{block_table, short_bytes, normal_cells, cell_table}
use Rattle.plp_config.proofs.TimeLemmas.{div_ceil-ge}
use Rattle.plp_config.specs.Capacity.{superframe_room, block_room, longest_rest, cell_need, up_bytes, capacity}
use Rattle.plp_config.specs.Laws.{FitsAlone}
use Rattle.plp_config.specs.Plps.{plp_at, is_type2, spread}
use Rattle.plp_config.specs.Rules.{SuperframeLength, PlpCount}
use Rattle.plp_config.specs.SlotTime.{num, den, epoch_ticks}
use Rattle.plp_config.specs.Tables.{info_bits, cells_per_block}
use Rattle.plp_config.specs.declared.plp.FecSize.{FecSize}
use Rattle.plp_config.specs.declared.plp.FecSize.TheVariants.{Short, Normal}
use Rattle.plp_config.specs.declared.plp.Modulation.{Modulation}
use Rattle.plp_config.specs.declared.plp.Plp.{Plp}
use Rattle.plp_config.specs.declared.plp.Rate.{Rate}

-- a block has fewer bytes in a record than cells
room_table : (fec : FecSize) (rate : Rate) (modulation : Modulation)
    → 4 + info_bits fec rate / 8 ≤ cells_per_block fec modulation
room_table Normal rate modulation = omega (arith, (block_table Normal rate).1, normal_cells modulation)
room_table Short rate modulation = omega (arith, short_bytes rate, (cell_table Short modulation).1)

abbrev plp_cells : Plp → ℕ
plp_cells p = p.blocks * cells_per_block p.fec p.modulation

rooms : (plps : List Plp) → sum_by block_room plps ≤ sum_by plp_cells plps
rooms [] = omega arith
rooms (p ∷ plps) =
    let here : block_room p ≤ plp_cells p = mul-le-mul_left p.blocks (room_table p.fec p.rate p.modulation) in
    rw (sum_by-cons block_room p plps, sum_by-cons plp_cells p plps) (omega (arith, here, rooms plps))

superframe : (frames : ℕ) (plps : List Plp) → ((plp : ℕ) → plp < length plps → spread plps plp ≡ 1)
    → sum_by (superframe_room frames) plps ≡ sum_by plp_cells plps * frames
superframe frames [] alone = omega arith
superframe frames (p ∷ plps) alone =
    let one : p.spread ≡ 1 = alone 0 (omega arith) in
    let whole : frames / p.spread ≡ frames = rw one (omega arith) in
    let here : superframe_room frames p ≡ plp_cells p * frames = ap (λ (k : ℕ). plp_cells p * k) whole in
    let rest = superframe frames plps (λ plp lt. alone (suc plp) (omega arith)) in
    let both : (plp_cells p + sum_by plp_cells plps) * frames ≡ plp_cells p * frames + sum_by plp_cells plps * frames =
    add-mul (plp_cells p) (sum_by plp_cells plps) frames in
    rw (sum_by-cons (superframe_room frames) p plps, sum_by-cons plp_cells p plps) (omega (arith, here, rest, both))

div_ceil-mul : (a b : ℕ) → 0 < b → div_ceil (a * b) b ≡ a
div_ceil-mul a b some =
    let most : div_ceil (a * b) b ≤ a = div_ceil-le (a * b) b a some (omega arith) in
    let least : a ≤ div_ceil (a * b) b = le_of_mul-le-mul_right {k = b} (div_ceil-ge (a * b) b some) some in
    omega (arith, most, least)

pub fits_alone : FitsAlone
unfolding cell_need longest_rest
fits_alone c rules alone =
    let frames : 0 < c.frames = omega (arith, (rules SuperframeLength).0) in
    let need : cell_need c ≡ sum_by plp_cells c.plps =
    ap (λ (n : ℕ). div_ceil n c.frames) (superframe c.frames c.plps alone)
    ∙ div_ceil-mul (sum_by plp_cells c.plps) c.frames frames in
    let greatest = (spread_greatest c rules).1 in
    record {
      throughput = λ plp inside.
          let e : epoch_ticks c plp ≡ c.ticks = rw (alone plp inside) (omega arith) in (
            λ fits. subst (λ (t : ℕ). up_bytes c plp * t * den c plp ≤ capacity c plp * num c) e fits,
            λ fits. subst (λ (t : ℕ). up_bytes c plp * t * den c plp ≤ capacity c plp * num c) (sym e) fits,
          );
      cells = need;
      parts = λ plp inside. ap (λ (s : ℕ). (cond (is_type2 (plp_at c.plps plp).plp_type) c.sub_slices 1) * s)
          (alone plp inside)
          ∙ omega arith;
      records = λ cells addresses. omega (arith, rooms c.plps, need, cells, addresses, (rules PlpCount).1);
      spread = sym greatest.2 ∙ alone greatest.0 greatest.1;
    }
