-- Interleaving frames: how many frames carry one, and the cells in each.
use Rattle.std.proofs.Common.{◌≡◌, ℕ, zero, suc, ◌+◌, ◌*◌, ◌/◌, ◌%◌, ◌<◌, ◌≤◌, cond, List, [], ◌∷◌, ◌++◌, length, max}
use Rattle.std.proofs.Common.{take, sum_by, ap, ◌∙◌, arith, inl, inr}
use Rattle.std.specs.Int.{div_ceil}
use Rattle.std.proofs.Math.Nat.{div-mul-le_self, mul-le-mul_left, mul-le-mul_right, le_of_mul-le-mul_right, mul_assoc}
use Rattle.std.proofs.Math.Nat.{mul_comm, add-mul}
use Rattle.std.proofs.lemmas.Bool.{cases_lt}
use Rattle.std.proofs.lemmas.List.{take_more}
use Rattle.std.proofs.lemmas.List.Sums.{sum_by-cons, get_or-le-sum_by}
use Rattle.std.proofs.lemmas.Nat.{div-add-mod'}
use Rattle.terms.proofs.NatLemmas.{cut_whole, divides}
use Rattle.plp_config.proofs.TimeLemmas.{div_ceil-ge}
use Rattle.plp_config.specs.Capacity.{IsPlan, CellCount, EvenParts, cell_need, frame_room, superframe_room, block_cells}
use Rattle.plp_config.specs.Laws.{SpreadDividesFrames, SpreadIsGreatest, CellsInParts, RoomsFit, BlocksFit}
use Rattle.plp_config.specs.Plps.{plp_at, no_plp, is_type2, spread, spread_max}
use Rattle.plp_config.specs.Rules.{SpreadDivides, SuperframeLength, PlpCount}
use Rattle.plp_config.specs.Tables.{cells_per_block}
use Rattle.plp_config.specs.declared.config.Config.{Config}
use Rattle.plp_config.specs.declared.plp.Plp.{Plp}

pub spread_divides : SpreadDividesFrames
spread_divides c plp rules inside = rules SpreadDivides plp inside

-- ---- the greatest spread

-- no spread is greater
spread_max-ge : (plps : List Plp) (plp : ℕ) → plp < length plps → spread plps plp ≤ spread_max plps
unfolding spread_max
spread_max-ge [] plp lt = absurd (omega arith)
spread_max-ge (p ∷ plps) zero lt = omega arith
spread_max-ge (p ∷ plps) (suc plp) lt = omega (arith, spread_max-ge plps plp (omega arith))

-- and of some PLPs one has it
spread_max-reached : (p : Plp) (plps : List Plp) → (plp : ℕ) × (plp < length (p ∷ plps))
    × (spread (p ∷ plps) plp ≡ spread_max (p ∷ plps))
unfolding spread_max
spread_max-reached p [] = (0, omega arith, omega arith)
spread_max-reached p (q ∷ plps) =
    let rest = spread_max-reached q plps in
    elim (cases_lt p.spread (spread_max (q ∷ plps))) [
      | inl more ↦ (suc rest.0, omega (arith, rest.1), omega (arith, rest.2))
      | inr first ↦ (0, omega arith, omega arith)
    ]

some_reached : (plps : List Plp) → 1 ≤ length plps → (plp : ℕ) × (plp < length plps)
    × (spread plps plp ≡ spread_max plps)
some_reached [] some = absurd (omega arith)
some_reached (p ∷ plps) some = spread_max-reached p plps

pub spread_greatest : SpreadIsGreatest
spread_greatest c rules = (spread_max-ge c.plps, some_reached c.plps (rules PlpCount).0)

-- one PLP more
spread_max_push : (plps : List Plp) (last : Plp) → spread_max (plps ++ last ∷ []) ≡ max (spread_max plps) last.spread
unfolding spread_max
spread_max_push [] last = omega arith
spread_max_push (p ∷ plps) last =
    let rest = spread_max_push plps last in
    let whole : max p.spread (spread_max (plps ++ last ∷ [])) ≡ max (max p.spread (spread_max plps))
    last.spread = omega arith in
    whole

pub spread_max_more : (plps : List Plp) (n : ℕ) → n < length plps
    → spread_max (take (n + 1) plps) ≡ max (spread_max (take n plps)) (spread plps n)
spread_max_more plps n lt = ap spread_max (take_more plps n no_plp lt) ∙ spread_max_push (take n plps) (plp_at plps n)

-- ---- cells

pub cells_in_parts : CellsInParts
cells_in_parts c plp is inside =
    divides (block_cells c plp) (cond (is_type2 (plp_at c.plps plp).plp_type) c.sub_slices 1) (spread c.plps plp)
    (is.tests EvenParts plp inside)

-- a frame has no more than its part of a superframe
room_part : (n s frames : ℕ) → 1 ≤ s → frames % s ≡ 0 → n / s * frames ≤ n * (frames / s)
room_part n s frames some whole =
    let parts : frames / s * s + frames % s ≡ frames = div-add-mod' frames s in
    let down : n / s * s ≤ n = div-mul-le_self n s in
    let all : n / s * s * (frames / s) ≤ n * (frames / s) = mul-le-mul_right (frames / s) down in
    let turn : s * (frames / s) ≡ frames = omega (arith, mul_comm s (frames / s)) in
    let regroup : n / s * s * (frames / s) ≡ n / s * (s * (frames / s)) = mul_assoc (n / s) s (frames / s) in
    let whole_is : n / s * s * (frames / s) ≡ n / s * frames = regroup ∙ ap (λ (k : ℕ). n / s * k) turn in
    omega arith

rooms : (frames : ℕ) (plps : List Plp)
    → ((plp : ℕ) → plp < length plps → (1 ≤ spread plps plp) × (frames % spread plps plp ≡ 0))
    → sum_by frame_room plps * frames ≤ sum_by (superframe_room frames) plps
rooms frames [] all = omega arith
rooms frames (p ∷ plps) all =
    let here = room_part (p.blocks * cells_per_block p.fec p.modulation) p.spread frames (all 0 (omega arith)).0
    (all 0 (omega arith)).1 in
    let rest = rooms frames plps (λ plp lt. all (suc plp) (omega arith)) in
    let both : (frame_room p + sum_by frame_room plps) * frames ≡ frame_room p * frames + sum_by frame_room
    plps * frames =
    add-mul (frame_room p) (sum_by frame_room plps) frames in
    rw (sum_by-cons frame_room p plps, sum_by-cons (superframe_room frames) p plps) (omega (arith, here, rest, both))

pub rooms_fit : RoomsFit
unfolding cell_need
rooms_fit c is =
    let some : 0 < c.frames = omega (arith, (is.rules SuperframeLength).0) in
    let superframe = sum_by (superframe_room c.frames) c.plps in
    let need : div_ceil superframe c.frames ≤ c.cells = is.tests CellCount in
    let up : superframe ≤ div_ceil superframe c.frames * c.frames = div_ceil-ge superframe c.frames some in
    let most : div_ceil superframe c.frames * c.frames ≤ c.cells * c.frames = mul-le-mul_right c.frames need in
    let each : sum_by frame_room c.plps * c.frames ≤ superframe = rooms c.frames c.plps
    (λ plp lt. is.rules SpreadDivides plp lt) in
    le_of_mul-le-mul_right {k = c.frames} (omega arith) some

-- and for those of one PLP
pub room_fits : (c : Config) (plp : ℕ) → IsPlan c → plp < length c.plps → frame_room (plp_at c.plps plp) ≤ c.cells
room_fits c plp is inside = omega (arith, get_or-le-sum_by frame_room c.plps plp no_plp inside, rooms_fit c is)

-- ---- blocks in parts of one length

-- ---- all blocks that a frame carries parts of

abbrev block_size : Plp → ℕ
block_size plp = cells_per_block plp.fec plp.modulation

all_blocks : (most : ℕ) (plps : List Plp)
    → ((plp : ℕ) → plp < length plps → (1 ≤ spread plps plp) × (spread plps plp ≤ most)
    × (block_size (plp_at plps plp) % spread plps plp ≡ 0))
    → sum_by (λ plp. plp.blocks * block_size plp) plps ≤ most * sum_by frame_room plps
all_blocks most [] all = omega arith
all_blocks most (p ∷ plps) all =
    let own : (1 ≤ p.spread) × (p.spread ≤ most) × (block_size p % p.spread ≡ 0) = all 0 (omega arith) in
    let exact : p.spread * frame_room p ≡ p.blocks * block_size p = cut_whole p.blocks (block_size p)
    p.spread own.0 own.2 in
    let here : p.spread * frame_room p ≤ most * frame_room p = mul-le-mul_right (frame_room p) own.1 in
    let rest = all_blocks most plps (λ plp lt. all (suc plp) (omega arith)) in
    let both : most * (frame_room p + sum_by frame_room plps) ≡ most * frame_room p + most * sum_by frame_room
    plps = omega arith in
    rw (sum_by-cons (λ (plp : Plp). plp.blocks * block_size plp) p plps, sum_by-cons frame_room p plps)
    (omega (arith, exact, here, rest, both))

pub blocks_fit : BlocksFit
unfolding block_cells
blocks_fit c is =
    let most : ℕ = spread_max c.plps in
    let whole = all_blocks most c.plps (λ plp lt. (
      (is.rules SpreadDivides plp lt).0,
      spread_max-ge c.plps plp lt,
      cells_in_parts c plp is lt,
    )) in
    let frame : most * sum_by frame_room c.plps ≤ most * c.cells = mul-le-mul_left most (rooms_fit c is) in
    omega (arith, whole, frame)
